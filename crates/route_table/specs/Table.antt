-- The lists that a table was built from.
use Rattle.std.specs.Prelude.{◌≡◌, true, List}
use Rattle.route_table.specs.declared.entry.ChanEntry.{ChanEntry}
use Rattle.route_table.specs.declared.entry.IfEntry.{IfEntry}
use Rattle.route_table.specs.declared.table.Table.{Table}
use Rattle.route_table.specs.ByBus.{IsByBus}
use Rattle.route_table.specs.Match.{are_apart}

-- the table of these channels, no two of which overlap, and of these interface paths
pub record IsTableOf (channels : List ChanEntry) (paths : List IfEntry) (table : Table) : Type 0 where
  pub apart : are_apart channels ≡ true
  pub by_bus : IsByBus (λ entry. entry.bus.0) channels table.channels
  pub paths_by_bus : IsByBus (λ entry. entry.bus.0) paths table.paths
