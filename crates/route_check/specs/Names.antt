-- The names that entries say, and which of them are there.
use Rattle.std.specs.Prelude.{ℕ, ◌+◌, ◌-◌, ◌==◌, Bool, false, List, Option, None, Some, slice_get, length, if◌then◌else◌}
use Rattle.std.specs.List.{list_any}
use Rattle.std.specs.Option.{option_map_or}
use Rattle.std.specs.Str.{bytes_eq}
use Rattle.gw_config.specs.Config.{PathEntry, InterfaceEntry, Configuration}
use Rattle.gw_config.specs.Repeated.{is_used}
use Rattle.route_check.specs.declared.conflict.Place.{Place}
use Rattle.route_check.specs.declared.conflict.Place.TheVariants.{Bus, Channel, Path, Interface, Cancel}

-- an entry of this table has the name
abbrev pub is_named : Configuration → Place → List ℕ → Bool
is_named config Bus name = is_used (λ entry. entry.name) config.bus name
is_named config Channel name = is_used (λ entry. entry.name) config.channel name
is_named config Path name = is_used (λ entry. entry.name) config.path name
is_named config Interface name = is_used (λ entry. entry.name) config.interface name
is_named config Cancel name = false

-- the channel that a path names under this number: 0 is its source, its destinations count from 1
abbrev pub channel_of_path : ℕ → PathEntry → Option (List ℕ)
channel_of_path number path = if number == 0 then Some path.from else slice_get path.to (number - 1)

-- the bus that an interface path names under this number: 0 is where it comes from, 1 where it goes to
abbrev pub bus_of_interface : ℕ → InterfaceEntry → Option (List ℕ)
bus_of_interface number interface = if number == 0 then Some interface.from_bus else if number == 1 then Some interface.to_bus else None

-- the name is one of these
abbrev pub is_among : List (List ℕ) → List ℕ → Bool
is_among names name = list_any (λ other. bytes_eq other name) names

-- how many entries a table has
abbrev pub entry_count : Configuration → Place → ℕ
entry_count config Bus = length config.bus
entry_count config Channel = length config.channel
entry_count config Path = length config.path
entry_count config Interface = length config.interface
entry_count config Cancel = length config.cancel

-- the most names that an entry says
abbrev pub name_count : Configuration → Place → ℕ → ℕ
name_count config Path number = option_map_or (λ path. length path.to + 1) (slice_get config.path number) 0
name_count config _ number = 2
