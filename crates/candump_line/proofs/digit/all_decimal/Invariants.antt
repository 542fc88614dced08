-- The digits so far are an even number, and the value is theirs.
use Rattle.std.proofs.Common.{◌-◌, length}
use Rattle.candump_line.proofs.Pairs.{EvenSoFar}
use Rattle.candump_line.proofs.digit.all_decimal.Given as goal

abbrev pub invariant-loop-at : goal.invariant-loop-at
invariant-loop-at l = EvenSoFar l.front l.at l.value

abbrev pub decreases-loop-at : goal.decreases-loop-at
decreases-loop-at l = length l.front - l.at
