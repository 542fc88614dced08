use Rattle.std.proofs.Common.{◌≡◌, map, take}
use Rattle.toml.specs.View.{view}
use Rattle.config_text.specs.Printed.{group_value}
use Rattle.config_text.proofs.values.groups.Given as goal

abbrev pub invariant-loop-cells : goal.invariant-loop-cells
invariant-loop-cells l = map view l.values.items ≡ map group_value (take l.cells-index l.found)
