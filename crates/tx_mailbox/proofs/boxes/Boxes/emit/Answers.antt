use Rattle.std.proofs.Common.{◌≡◌, ◌∙◌, ◌+◌, length, reverse, List, ap, subst, arith, length-append}
use Rattle.std.proofs.lemmas.List.{length-reverse}
use Rattle.tx_mailbox.specs.Boxes.{Pending, IsPending, IsEmitted}
use Rattle.tx_mailbox.proofs.Leaving.{emitted, pending_front}
use Rattle.tx_mailbox.proofs.boxes.Boxes.emit.Goals as goal

pub invariant_of-self : goal.invariant_of-self
invariant_of-self c = pending_front c.move_last.new.pending.items (reverse c.move_last.new.out.items) (subst IsPending c.move_last.ensures.moved c.self.invariant)

pub returns : goal.returns
returns c =
    let xs : List Pending = c.self.inside.pending.items in
    let now : List Pending = c.move_last.new.pending.items in
    let out : List Pending = c.move_last.new.out.items in
    let long : length xs ≡ length now + length (reverse out) = ap length c.move_last.ensures.moved ∙ length-append now (reverse out) in
    let turned = length-reverse out in
    subst (λ (ys : List Pending). IsEmitted c.args.budget ys out now) c.self.view_is
    (emitted c.args.budget xs now out c.self.invariant c.move_last.ensures.moved
    (omega (arith, c.move_last.ensures.count, c.min-count.ensures, c.from.ensures))
    (λ less. omega (arith, less, long, turned, c.move_last.ensures.count, c.min-count.ensures, c.from.ensures, c.len.ensures.value)))
