-- The characters so far are the name's, and visible.
use Rattle.std.proofs.Common.{◌-◌}
use Rattle.candump_line.proofs.Places.{SameSoFar}
use Rattle.candump_line.proofs.id.after_name.Given as goal

abbrev pub invariant-loop-at : goal.invariant-loop-at
invariant-loop-at l = SameSoFar l.text l.name l.at

abbrev pub decreases-loop-at : goal.decreases-loop-at
decreases-loop-at l = l.bytes - l.at
