use Rattle.std.proofs.Common.{◌≡◌, get_or, sym, ap, ◌∙◌, rules, arith}
use Rattle.std.specs.Char.{digit_value}
use Rattle.gw_config.proofs.HexLemmas.{room, reads_more}
use Rattle.gw_config.proofs.words.hex_value.Goals as goal

pub overflow_mul-value : goal.overflow_mul-value
overflow_mul-value c =
    let small = room c.loop-digit.value c.loop-digit.digit-index c.loop-digit.invariant.small (omega (arith, c.requires, c.loop-digit-test.true)) in
    omega (arith, small)

pub overflow_add-value : goal.overflow_add-value
overflow_add-value c =
    let small = room c.loop-digit.value c.loop-digit.digit-index c.loop-digit.invariant.small (omega (arith, c.requires, c.loop-digit-test.true)) in
    let hex = c.in_ok-value.ensures.value in
    omega (arith, small, hex.0, hex.1)

pub loop-digit-preserved : goal.loop-digit-preserved
loop-digit-preserved c =
    let byte : c.from.result ≡ get_or c.args.digits.now c.loop-digit.digit-index 0 = search rules in
    let hex = c.in_ok-value.ensures.value in
    reads_more c.args.digits.now c.loop-digit.digit-index c.loop-digit.value c.loop-digit.invariant c.loop-digit-test.true
    c.in_ok-value.field-0 (rw (← byte) hex.0) (ap digit_value (sym byte) ∙ sym hex.1)
