use Rattle.std.proofs.Common.{◌≡◌, map, take}
use Rattle.std.specs.List.{AllByRecursion}
use Rattle.toml.specs.View.{view}
use Rattle.config_text.proofs.tables.tables.Given as goal

abbrev pub invariant-loop-entry : goal.invariant-loop-entry
invariant-loop-entry g l = (map view l.values.items ≡ map g.E.Printed.printed (take l.entry-index l.entries)) × AllByRecursion g.E.Printed.keeps (take l.entry-index l.entries)
