use Rattle.std.proofs.Common.{◌≡◌, ◌∙◌, ℕ, true, false, List, None, sym, ap, subst}
use Rattle.std.specs.Prelude.{is_some, remove}
use Rattle.tx_mailbox.specs.Boxes.{Pending, content, with_content, IsPending}
use Rattle.tx_mailbox.proofs.Pendings.{box_empty, box_full, empty_same, pending_remove, content_remove, before}
use Rattle.tx_mailbox.proofs.boxes.Boxes.revoke.Goals as goal

pub returns-then-at-len-clause-found : goal.returns-then-at-len-clause-found
returns-then-at-len-clause-found c =
    let xs : List Pending = c.self.inside.pending.items in
    let at : c.before_box-at.result ≡ before c.args.number xs = c.before_box-at.ensures ∙ ap (λ (ys : List Pending). before c.args.number ys) c.as_slice.ensures.value in
    let none = box_empty c.args.number xs (sym at ∙ c.if-at-len.true ∙ c.len.ensures.value) in
    subst (λ (ys : List Pending). false ≡ is_some (content c.args.number ys)) c.self.view_is (sym (ap is_some none))

pub returns-then-at-len-clause-boxes : goal.returns-then-at-len-clause-boxes
returns-then-at-len-clause-boxes c =
    let xs : List Pending = c.self.inside.pending.items in
    let at : c.before_box-at.result ≡ before c.args.number xs = c.before_box-at.ensures ∙ ap (λ (ys : List Pending). before c.args.number ys) c.as_slice.ensures.value in
    let none = box_empty c.args.number xs (sym at ∙ c.if-at-len.true ∙ c.len.ensures.value) in
    subst (λ (ys : List Pending). (other : ℕ) → content other ys ≡ with_content c.args.number None ys other) c.self.view_is (empty_same c.args.number xs none)

pub invariant_of-self : goal.invariant_of-self
invariant_of-self c = subst IsPending (sym c.remove.ensures.items) (pending_remove c.self.inside.pending.items c.before_box-at.result c.self.invariant)

pub returns-clause-found : goal.returns-clause-found
returns-clause-found c =
    let xs : List Pending = c.self.inside.pending.items in
    let at : c.before_box-at.result ≡ before c.args.number xs = c.before_box-at.ensures ∙ ap (λ (ys : List Pending). before c.args.number ys) c.as_slice.ensures.value in
    subst (λ (ys : List Pending). true ≡ is_some (content c.args.number ys)) c.self.view_is (sym (box_full c.args.number xs (λ e. c.if-at-len.false (at ∙ e ∙ sym c.len.ensures.value))))

pub returns-clause-boxes : goal.returns-clause-boxes
returns-clause-boxes c other =
    let xs : List Pending = c.self.inside.pending.items in
    let at : c.before_box-at.result ≡ before c.args.number xs = c.before_box-at.ensures ∙ ap (λ (ys : List Pending). before c.args.number ys) c.as_slice.ensures.value in
    subst (λ (ys : List Pending). content other c.remove.new.self.items ≡ with_content c.args.number None ys other) c.self.view_is
    (ap (λ (ys : List Pending). content other ys) (c.remove.ensures.items ∙ ap (λ (i : ℕ). remove xs i) at) ∙ content_remove c.args.number xs c.self.invariant.in_order other)
