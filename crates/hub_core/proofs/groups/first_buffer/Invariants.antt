use Rattle.std.proofs.Common.{◌≡◌}
use Rattle.hub_core.proofs.groups.first_buffer.Given as goal
use Rattle.hub_core.specs.Groups.{first_of}

abbrev pub invariant-loop-before : goal.invariant-loop-before
invariant-loop-before l = l.first ≡ first_of l.counts l.before
