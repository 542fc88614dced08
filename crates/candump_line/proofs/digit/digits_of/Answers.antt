-- A digit more, or the end of the digits.
use Rattle.std.proofs.Common.{◌≤◌, ◌<◌, ◌∙◌, get_or, refl, arith}
use Rattle.std.specs.Char.{digit_value}
use Rattle.std.proofs.lemmas.Int.Digits.{digits_more}
use Rattle.candump_line.proofs.Counting.{Counts, counted_to_end, counted_to_stop}
use Rattle.candump_line.proofs.Reading.{number_fits, number_more}
use Rattle.candump_line.proofs.digit.digits_of.Goals as goal

pub returns-then-digit-base-clause-digits : goal.returns-then-digit-base-clause-digits
returns-then-digit-base-clause-digits c =
    let other : c.args.base ≤ digit_value (get_or c.args.front.now c.loop-byte.byte-index 0) = omega (arith, c.digit_value-digit.ensures, c.if-digit-base.true) in
    (counted_to_stop _ _ _ _ _ c.loop-byte.invariant c.loop-byte-test.true other).digits

pub returns-then-digit-base-clause-below : goal.returns-then-digit-base-clause-below
returns-then-digit-base-clause-below c =
    let other : c.args.base ≤ digit_value (get_or c.args.front.now c.loop-byte.byte-index 0) = omega (arith, c.digit_value-digit.ensures, c.if-digit-base.true) in
    (counted_to_stop _ _ _ _ _ c.loop-byte.invariant c.loop-byte-test.true other).below

ended : (c : goal.After-loop-byte) → Counts c.args.base c.args.front.now c.loop-byte.value c.loop-byte.count
ended c = counted_to_end _ _ _ _ _ c.loop-byte.invariant (omega (arith, c.loop-byte-test.false, c.loop-byte.auto.byte-index-end))

pub returns-clause-digits : goal.returns-clause-digits
returns-clause-digits c = (ended c).digits

pub returns-clause-below : goal.returns-clause-below
returns-clause-below c = (ended c).below

pub overflow_mul-value : goal.overflow_mul-value
overflow_mul-value c =
    let loop = c.loop-byte in
    omega (
      arith,
      number_fits c.args.base c.args.front.now loop.byte-index loop.value c.from.result 0 c.requires.base.1 c.requires.short c.loop-byte-test.true loop.invariant.all loop.invariant.value_is c.from.ensures
          (omega (arith, c.requires.base.0)),
    )

pub overflow_add-value : goal.overflow_add-value
overflow_add-value c =
    let loop = c.loop-byte in
    omega (
      arith,
      number_fits c.args.base c.args.front.now loop.byte-index loop.value c.from.result c.from-in-loop-byte.result c.requires.base.1 c.requires.short c.loop-byte-test.true loop.invariant.all loop.invariant.value_is c.from.ensures
          (omega (arith, c.from-in-loop-byte.ensures, c.if-digit-base.false)),
    )

pub loop-byte-preserved : goal.loop-byte-preserved
loop-byte-preserved c =
    let loop = c.loop-byte in
    let below : digit_value (get_or c.args.front.now loop.byte-index 0) < c.args.base = omega (arith, c.digit_value-digit.ensures, c.if-digit-base.false) in
    record {
      all = digits_more c.args.base c.args.front.now loop.byte-index c.loop-byte-test.true loop.invariant.all below;
      value_is = number_more c.args.base c.args.front.now loop.byte-index loop.value c.from.result c.from-in-loop-byte.result _ c.loop-byte-test.true loop.invariant.value_is c.from.ensures
          (c.from-in-loop-byte.ensures ∙ c.digit_value-digit.ensures) refl;
      count_is = omega (arith, loop.invariant.count_is);
    }
