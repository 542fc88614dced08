-- Entries by their bus.
use Rattle.std.specs.Prelude.{◌≡◌, ◌==◌, ℕ, List, [], Option, Some, None, Vec, filter, slice_get}
use Rattle.std.specs.Global.{Global}
use Rattle.route_table.specs.declared.by_bus.ByBus.{ByBus}

-- the items of a list that may be missing
abbrev pub items_of : {E : Type 0} → Option (Vec E Global) → List E
items_of None = []
items_of (Some list) = list.items

-- the entries on a bus
abbrev pub entries_on : {E : Type 0} → ByBus E → ℕ → List E
entries_on by_bus bus = items_of (slice_get by_bus.lists.items bus)

-- on each bus stand its entries of the list, in the list's order
abbrev pub IsByBus : {E : Type 0} → (E → ℕ) → List E → ByBus E → Type 0
IsByBus bus_of entries by_bus = (bus : ℕ) → entries_on by_bus bus ≡ filter (λ entry. bus_of entry == bus) entries
