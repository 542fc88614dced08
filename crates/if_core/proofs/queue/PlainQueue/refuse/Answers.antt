use Rattle.std.proofs.Common.{arith, ℕ, ◌≡◌, ◌∙◌, length, drop, List, sym, ap, subst, append-nil}
use Rattle.if_core.specs.Lane.{Lane, IsQueue, queued, offered}
use Rattle.if_core.specs.Past.{lane_of}
use Rattle.if_core.specs.Unit.{UnitOf}
use Rattle.if_core.specs.declared.lanes.Offer.TheVariants.{Refused}
use Rattle.if_core.proofs.Keeping.{refuses, queued-push}
use Rattle.if_core.proofs.queue.PlainQueue.refuse.Goals as goal

pub invariant_of-self : goal.invariant_of-self
invariant_of-self c =
    let q = c.args.self.now in
    let unit : UnitOf = c.args.unit.now in
    let old : Lane = lane_of q.past.seat.me.0 in
    let told : lane_of c.note_offer.new.self.seat.me.0 ≡ offered unit (Refused q.count q.position) old = c.note_offer.ensures.past ∙ ap (λ (u : UnitOf). offered u (Refused q.count q.position) old) c.copy.ensures in
    let same : queued c.note_offer.new.self.seat.me.0.offers ≡ queued old.offers = ap (λ (l : Lane). queued l.offers) told ∙ queued-push old.offers (record { unit = unit; answer = Refused q.count q.position }) ∙ append-nil (queued old.offers) in
    record {
      sized = q.sized;
      counted = q.counted ∙ sym (ap length same);
      holds = q.holds ∙ ap (λ (us : List UnitOf). drop q.position us) (sym same);
      law = subst (IsQueue q.depth q.keep q.position) (sym (told ∙ ap (λ (n : ℕ). offered unit (Refused n q.position) old) q.counted))
          (refuses q.depth q.keep q.position unit old q.law c.requires.number c.requires.keep (omega (arith, q.counted, c.requires.full)));
    }
