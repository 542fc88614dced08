use Rattle.std.proofs.Common.{◌≡◌}
use Rattle.hub_core.proofs.row.readers.Given as goal
use Rattle.hub_core.specs.Plain.{readers_to}

abbrev pub invariant-loop-dest : goal.invariant-loop-dest
invariant-loop-dest l = l.readers ≡ readers_to l.positions l.dest
