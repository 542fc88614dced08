-- A pair of digits is taken as a byte.
use Rattle.std.proofs.Common.{◌<◌, length-set, refl, arith}
use Rattle.candump_line.proofs.Counting.{pair_held}
use Rattle.candump_line.proofs.data.take_pairs.Goals as goal

pub loop-count-preserved : goal.loop-count-preserved
loop-count-preserved g c =
    let pair = c.hex_pair-pair in
    let small : pair.result < 256 = omega (arith, c.if-pair-ge-HEX_PAIRS.false) in (
      pair_held _ _ _ g.row.N _ _ _ _ c.loop-count.invariant.0 c.in-len2-up.len_at_least refl refl (pair.ensures.first small) (pair.ensures.second small) (pair.ensures.byte small) c.loop-count.invariant.2 (omega arith) (omega arith),
      omega arith,
      rw length-set c.loop-count.invariant.2,
    )
