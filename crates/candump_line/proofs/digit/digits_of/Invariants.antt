-- What is counted so far are digits, and the value is their number.
use Rattle.candump_line.proofs.Counting.{SoFar}
use Rattle.candump_line.proofs.digit.digits_of.Given as goal

abbrev pub invariant-loop-byte : goal.invariant-loop-byte
invariant-loop-byte l = SoFar l.base l.front l.byte-index l.value l.count
