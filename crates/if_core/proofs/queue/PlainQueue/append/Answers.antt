use Rattle.std.proofs.Common.{arith, ◌≡◌, ◌∙◌, ◌+◌, [], ◌∷◌, ◌++◌, length, drop, List, sym, ap, subst, length-append, le_refl, refl}
use Rattle.if_core.specs.Lane.{Lane, IsQueue, queued, offered}
use Rattle.if_core.specs.Past.{lane_of}
use Rattle.if_core.specs.Unit.{UnitOf}
use Rattle.if_core.specs.declared.lanes.Offer.TheVariants.{Queued}
use Rattle.if_core.proofs.Keeping.{queues, queued-push, within-empty}
use Rattle.if_core.proofs.Lists.{drop-push}
use Rattle.if_core.proofs.queue.PlainQueue.append.Goals as goal

pub invariant_of-self : goal.invariant_of-self
invariant_of-self c =
    let q = c.args.self.now in
    let unit : UnitOf = c.args.unit.now in
    let old : Lane = lane_of q.past.seat.me.0 in
    let told : lane_of c.note_offer-unit.new.self.seat.me.0 ≡ offered unit Queued old = c.note_offer-unit.ensures.past ∙ ap (λ (u : UnitOf). offered u Queued old) c.copy.ensures in
    let more : queued c.note_offer-unit.new.self.seat.me.0.offers ≡ queued old.offers ++ unit ∷ [] = ap (λ (l : Lane). queued l.offers) told ∙ queued-push old.offers (record { unit = unit; answer = Queued }) in
    let longer : length (queued c.note_offer-unit.new.self.seat.me.0.offers) ≡ length (queued old.offers) + 1 = ap length more ∙ length-append (queued old.offers) (unit ∷ []) in
    let same : c.note_offer-unit.result ≡ unit = c.note_offer-unit.ensures.unit ∙ c.copy.ensures in
    record {
      sized = (q.sized.0, omega (arith, q.sized.1, c.push_back_reserved.ensures.capacity));
      counted = omega (arith, longer, q.counted);
      holds = c.push_back_reserved.ensures.items ∙ ap (λ (u : UnitOf). q.units.items ++ u ∷ []) same ∙ ap (λ (us : List UnitOf). us ++ unit ∷ []) q.holds
          ∙ sym (drop-push (queued old.offers) q.position unit q.law.below) ∙ ap (λ (us : List UnitOf). drop q.position us) (sym more);
      law = subst (IsQueue q.depth q.keep q.position) (sym told)
          (queues q.depth q.keep q.position q.position unit Queued old q.law c.requires.number refl (λ j. sym (within-empty q.position j)) (le_refl q.position) q.law.below (omega (arith, q.counted, c.requires.room)) tt);
    }
