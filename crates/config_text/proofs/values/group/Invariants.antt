use Rattle.std.proofs.Common.{◌≡◌, map, take, pos}
use Rattle.toml.specs.Data.{integer}
use Rattle.toml.specs.View.{view}
use Rattle.config_text.proofs.values.group.Given as goal

abbrev pub invariant-loop-cells : goal.invariant-loop-cells
invariant-loop-cells l = map view l.values.items ≡ map (λ cells. integer (pos cells)) (take l.cells-index l.found)
