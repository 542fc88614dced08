use Rattle.hub_core.proofs.Scans.{AreFirstTo}
use Rattle.hub_core.proofs.row.first_positions.Given as goal

abbrev pub invariant-loop-dest : goal.invariant-loop-dest
invariant-loop-dest l = AreFirstTo l.dest l.positions
