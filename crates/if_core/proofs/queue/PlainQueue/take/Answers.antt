use Rattle.std.proofs.Common.{arith, ◌≡◌, ◌<◌, ◌∙◌, ◌+◌, ◌∷◌, length, drop, List, sym, ap, subst}
use Rattle.std.proofs.lemmas.List.{drop-drop}
use Rattle.if_core.specs.Lane.{Lane, IsQueue, queued}
use Rattle.if_core.specs.Past.{lane_of}
use Rattle.if_core.specs.Unit.{UnitOf}
use Rattle.if_core.proofs.Keeping.{takes}
use Rattle.if_core.proofs.Lists.{at_drop}
use Rattle.if_core.proofs.queue.PlainQueue.take.Goals as goal

pub invariant_of-self : goal.invariant_of-self
invariant_of-self c =
    let q = c.args.self.now in
    let old : Lane = lane_of q.past.seat.me.0 in
    let unit : UnitOf = c.in-Some.unit in
    let told = c.note_take-unit.ensures.past in
    let same : queued c.note_take-unit.new.self.seat.me.0.offers ≡ queued old.offers = ap (λ (l : Lane). queued l.offers) told in
    let more : q.position < length (queued old.offers) = omega (arith, q.counted, q.law.below, c.if-position-self.false) in
    let first : drop q.position (queued old.offers) ≡ unit ∷ c.pop_front.new.self.items = sym q.holds ∙ c.in-Some.ensures.items in
    record {
      sized = (q.sized.0, omega (arith, q.sized.1, c.pop_front.ensures.capacity));
      counted = q.counted ∙ sym (ap length same);
      holds = c.pop_front.ensures.rest ∙ ap (λ (us : List UnitOf). drop 1 us) q.holds ∙ drop-drop 1 q.position (queued old.offers) ∙ ap (λ (us : List UnitOf). drop (q.position + 1) us) (sym same);
      law = subst (IsQueue q.depth q.keep (q.position + 1)) (sym told) (takes q.depth q.keep q.position unit old q.law more (at_drop (queued old.offers) q.position unit c.pop_front.new.self.items first));
    }
