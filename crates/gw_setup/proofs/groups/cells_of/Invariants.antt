use Rattle.std.proofs.Common.{◌≡◌, take}
use Rattle.hub_core.specs.Groups.{all_sizes}
use Rattle.gw_setup.proofs.groups.cells_of.Given as goal

abbrev pub invariant-loop-number : goal.invariant-loop-number
invariant-loop-number l = l.cells.items ≡ all_sizes (take l.number l.config.groups)
