use Rattle.std.proofs.Common.{arith, ℕ, ◌≡◌, ◌∙◌, ◌+◌, ◌-◌, [], ◌∷◌, ◌++◌, length, drop, List, sym, ap, subst, length-append, refl}
use Rattle.if_core.specs.Lane.{Lane, IsQueue, queued, offered, within}
use Rattle.if_core.specs.Past.{lane_of}
use Rattle.if_core.specs.Unit.{UnitOf}
use Rattle.if_core.specs.declared.lanes.Offer.{Offer}
use Rattle.if_core.specs.declared.lanes.Offer.TheVariants.{Flushed}
use Rattle.if_core.proofs.Keeping.{queues, queued-push}
use Rattle.if_core.proofs.Lists.{drop-to_push}
use Rattle.if_core.proofs.queue.PlainQueue.flush.Goals as goal

pub invariant_of-self : goal.invariant_of-self
invariant_of-self c =
    let q = c.args.self.now in
    let unit : UnitOf = c.args.unit.now in
    let answer : Offer = Flushed q.position (q.count - 1) in
    let old : Lane = lane_of q.past.seat.me.0 in
    let told : lane_of c.note_offer-unit.new.self.seat.me.0 ≡ offered unit answer old = c.note_offer-unit.ensures.past ∙ ap (λ (u : UnitOf). offered u answer old) c.copy.ensures in
    let more : queued c.note_offer-unit.new.self.seat.me.0.offers ≡ queued old.offers ++ unit ∷ [] = ap (λ (l : Lane). queued l.offers) told ∙ queued-push old.offers (record { unit = unit; answer = answer }) in
    let longer : length (queued c.note_offer-unit.new.self.seat.me.0.offers) ≡ length (queued old.offers) + 1 = ap length more ∙ length-append (queued old.offers) (unit ∷ []) in
    let same : c.note_offer-unit.result ≡ unit = c.note_offer-unit.ensures.unit ∙ c.copy.ensures in
    let last : q.count - 1 + 1 ≡ q.count = omega (arith, c.requires.full, q.sized.0) in
    record {
      sized = (q.sized.0, omega (arith, q.sized.1, c.clear.ensures.capacity, c.push_back_reserved.ensures.capacity));
      counted = omega (arith, longer, q.counted);
      holds = c.push_back_reserved.ensures.items ∙ ap (λ (us : List UnitOf). us ++ c.note_offer-unit.result ∷ []) c.clear.ensures.items ∙ ap (λ (u : UnitOf). u ∷ []) same
          ∙ sym (drop-to_push (queued old.offers) q.count unit q.counted) ∙ ap (λ (us : List UnitOf). drop q.count us) (sym more);
      law = subst (IsQueue q.depth q.keep q.count) (sym told)
          (queues q.depth q.keep q.position q.count unit answer old q.law c.requires.number refl (λ j. ap (λ (end : ℕ). within q.position end j) last) (omega (arith, c.requires.full)) (omega (arith, q.counted)) (omega (arith, q.counted, q.sized.0))
          (c.requires.keep, omega (arith, c.requires.full, q.sized.0), last ∙ q.counted, omega (arith, c.requires.full, q.counted), omega (arith, c.requires.full, q.counted)));
    }
