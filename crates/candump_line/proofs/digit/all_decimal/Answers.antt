-- Two digits more.
use Rattle.std.proofs.Common.{◌+◌, ◌<◌, length, refl, arith}
use Rattle.candump_line.proofs.Pairs.{pair_fits, pair_more}
use Rattle.candump_line.proofs.digit.all_decimal.Goals as goal

pub overflow_mul-value : goal.overflow_mul-value
overflow_mul-value c =
    let loop = c.loop-at in
    let inside : loop.at + 1 < length c.args.front.now = omega (arith, loop.invariant.even, c.requires.even) in
    omega (arith, pair_fits c.args.front.now loop.at loop.value c.from.result 0 loop.invariant inside c.requires.short c.from.ensures (omega arith))

pub overflow_add-value : goal.overflow_add-value
overflow_add-value c =
    let loop = c.loop-at in
    let inside : loop.at + 1 < length c.args.front.now = omega (arith, loop.invariant.even, c.requires.even) in
    omega (arith, pair_fits c.args.front.now loop.at loop.value c.from.result c.from-in-loop-at.result loop.invariant inside c.requires.short c.from.ensures (omega (arith, c.from-in-loop-at.ensures, c.if-pair-ge-DECIMAL_PAIRS.false)))

pub loop-at-preserved : goal.loop-at-preserved
loop-at-preserved c =
    let loop = c.loop-at in
    let inside : loop.at + 1 < length c.args.front.now = omega (arith, loop.invariant.even, c.requires.even) in
    let sum = c.decimal_pair-pair.ensures in
    let small : c.decimal_pair-pair.result < 100 = omega (arith, c.if-pair-ge-DECIMAL_PAIRS.false) in
    pair_more c.args.front.now loop.at loop.value c.from.result c.from-in-loop-at.result c.decimal_pair-pair.result _ _ loop.invariant inside refl refl (sum.first small) (sum.second small) (sum.number small) c.from.ensures c.from-in-loop-at.ensures
