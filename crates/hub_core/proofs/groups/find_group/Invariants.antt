use Rattle.std.proofs.Common.{◌≡◌, ◌+◌}
use Rattle.hub_core.proofs.groups.find_group.Given as goal
use Rattle.hub_core.specs.Groups.{first_of}

abbrev pub invariant-loop-group : goal.invariant-loop-group
invariant-loop-group l = first_of l.counts l.group + l.place ≡ l.buf
