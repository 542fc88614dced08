-- A pair of digits more, or all of them.
use Rattle.std.proofs.Common.{◌<◌, length-set, arith}
use Rattle.candump_line.proofs.Places.{data_more_after, data_whole, no_digits}
use Rattle.candump_line.proofs.data.take_last_eight.Goals as goal

pub loop-count-init : goal.loop-count-init
loop-count-init c = (no_digits, omega arith, omega arith)

pub loop-count-preserved : goal.loop-count-preserved
loop-count-preserved c =
    let pair = c.hex_pair-pair in
    let small : pair.result < 256 = omega (arith, c.if-pair-ge-HEX_PAIRS.false) in (
      data_more_after c.args.rest.now c.loop-count.bytes c.loop-count.count pair.result c.loop-count.invariant.0 (omega arith) (omega arith) c.loop-count.invariant.2 (pair.ensures.first small) (pair.ensures.second small) (pair.ensures.byte small),
      omega arith,
      rw length-set c.loop-count.invariant.2,
    )

pub returns-clause-digits : goal.returns-clause-digits
returns-clause-digits c = data_whole c.args.rest.now c.loop-count.bytes c.loop-count.count c.loop-count.invariant.0 (omega (arith, c.loop-count.invariant.1)) (omega arith) c.loop-count.invariant.2
