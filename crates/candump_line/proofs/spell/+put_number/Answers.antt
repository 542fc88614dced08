use Rattle.std.proofs.Common.{◌≡◌, ◌++◌, List, ℕ, append-nil, append_assoc, sym, ap, ◌∙◌, arith}
use Rattle.candump_line.proofs.Digits.{hex_number-step, hex_number-none}
use Rattle.candump_line.proofs.spell.+put_number.Goals as goal

pub returns-then-width-gt0-clause-text : goal.returns-then-width-gt0-clause-text
returns-then-width-gt0-clause-text t c =
    c.put_digit.ensures.text
    ∙ rw (c.put_number.ensures.text, append_assoc)
    (ap (λ (digits : List ℕ). c.args.text.now.items ++ digits) (sym (hex_number-step c.args.width c.args.number c.if-width-gt0.true)))

pub returns-else-width-gt0-clause-text : goal.returns-else-width-gt0-clause-text
returns-else-width-gt0-clause-text t c =
    let none : c.args.width ≡ 0 = omega arith in
    rw (none, hex_number-none c.args.number) (sym (append-nil c.args.text.now.items))
