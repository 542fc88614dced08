-- The digits so far write the bytes so far.
use Rattle.std.proofs.Common.{◌-◌, ◌*◌, ◌≡◌, ◌≤◌, length, take}
use Rattle.candump_line.specs.Spelling.{AreDataDigits}
use Rattle.candump_line.proofs.data.take_last_eight.Given as goal

abbrev pub invariant-loop-count : goal.invariant-loop-count
invariant-loop-count l = AreDataDigits (take (2 * l.count) l.digits) (take l.count l.bytes) × (l.count ≤ 8) × (length l.bytes ≡ 8)

abbrev pub decreases-loop-count : goal.decreases-loop-count
decreases-loop-count l = 8 - l.count
