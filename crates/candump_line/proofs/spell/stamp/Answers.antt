use Rattle.std.proofs.Common.{◌≡◌, ◌/◌, ◌%◌, length, ap, ◌∙◌, arith}
use Rattle.candump_line.proofs.Digits.{length-padded_decimal}
use Rattle.candump_line.proofs.spell.stamp.Goals as goal

pub returns-clause-len : goal.returns-clause-len
returns-clause-len c =
    let seconds : length c.decimal.result.items ≡ 10 =
    ap length c.decimal.ensures ∙ length-padded_decimal 10 (c.args.at.0 / 1000000) (omega arith) (omega arith) (omega arith) in
    let micros : length c.decimal-2.result.items ≡ 6 =
    ap length c.decimal-2.ensures ∙ length-padded_decimal 6 (c.args.at.0 % 1000000) (omega arith) (omega arith) (omega arith) in
    omega (arith, ap length c.new-text.ensures, ap length c.deref.ensures.0, ap length c.deref-2.ensures.0)
