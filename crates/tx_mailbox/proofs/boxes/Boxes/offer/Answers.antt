use Rattle.std.proofs.Common.{rules, ◌≡◌, ◌∙◌, ℕ, List, Some, None, sym, ap, subst, arith}
use Rattle.std.specs.Prelude.{insert}
use Rattle.tx_mailbox.specs.Boxes.{Pending, content, with_content, IsPending}
use Rattle.tx_mailbox.proofs.Pendings.{pending_insert, pending_room, content_insert, place_within, place, emptied, with_other}
use Rattle.tx_mailbox.proofs.boxes.Boxes.offer.Goals as goal

pub insert-requires : goal.insert-requires
insert-requires c =
    let xs : List Pending = c.self.inside.pending.items in
    let e : Pending = (c.args.number, c.args.frame) in
    let boxes = subst (λ (ys : List Pending). (m : ℕ) → content m ys ≡ with_content c.args.number None c.args.self.now m) (sym c.self.view_is) c.revoke.ensures.boxes in
    let none = emptied c.args.number c.args.self.now xs boxes in
    let room = pending_room xs e c.self.invariant none c.requires in
    let at : c.place_of-at.result ≡ place e xs = c.place_of-at.ensures ∙ ap (λ (ys : List Pending). place e ys) c.as_slice.ensures.value in
    let within = place_within e xs in
    (search rules, (omega (arith, within, at), omega (arith, room)))

pub invariant_of-self : goal.invariant_of-self
invariant_of-self c =
    let xs : List Pending = c.self.inside.pending.items in
    let e : Pending = (c.args.number, c.args.frame) in
    let boxes = subst (λ (ys : List Pending). (m : ℕ) → content m ys ≡ with_content c.args.number None c.args.self.now m) (sym c.self.view_is) c.revoke.ensures.boxes in
    let none = emptied c.args.number c.args.self.now xs boxes in
    let at : c.place_of-at.result ≡ place e xs = c.place_of-at.ensures ∙ ap (λ (ys : List Pending). place e ys) c.as_slice.ensures.value in
    subst IsPending (sym (c.insert.ensures.items ∙ ap (λ (i : ℕ). insert xs i e) at)) (pending_insert xs e c.self.invariant none c.requires)

pub returns : goal.returns
returns c other =
    let xs : List Pending = c.self.inside.pending.items in
    let e : Pending = (c.args.number, c.args.frame) in
    let boxes = subst (λ (ys : List Pending). (m : ℕ) → content m ys ≡ with_content c.args.number None c.args.self.now m) (sym c.self.view_is) c.revoke.ensures.boxes in
    let none = emptied c.args.number c.args.self.now xs boxes in
    ap (λ (ys : List Pending). content other ys) c.insert.ensures.items ∙ content_insert xs c.place_of-at.result e none other ∙ with_other c.args.number (Some c.args.frame) c.args.self.now xs boxes other
