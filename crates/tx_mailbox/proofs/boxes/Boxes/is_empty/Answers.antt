use Rattle.std.proofs.Common.{◌≡◌, ◌∙◌, ℕ, true, length, List, sym, subst, None}
use Rattle.std.specs.Prelude.{◌↔◌}
use Rattle.std.proofs.lemmas.Bool.{eqb-true}
use Rattle.tx_mailbox.specs.Boxes.{Pending, content}
use Rattle.tx_mailbox.proofs.Pendings.{nothing, all_none, same_number}
use Rattle.tx_mailbox.proofs.boxes.Boxes.is_empty.Goals as goal

pub returns : goal.returns
returns c =
    let xs : List Pending = c.self.inside.pending.items in
    subst (λ (ys : List Pending). (c.is_empty.result ≡ true) ↔ ((number : ℕ) → content number ys ≡ None)) c.self.view_is
    (λ yes. nothing xs (eqb-true (length xs) 0 (sym c.is_empty.ensures ∙ yes)), λ none. c.is_empty.ensures ∙ same_number (length xs) 0 (all_none xs none))
