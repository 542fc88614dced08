-- Names and files that are used twice.
use Rattle.std.specs.Prelude.{ℕ, ◌+◌, Bool, List, [], ◌∷◌, ◌++◌, Option, None, Some, option_map, if◌then◌else◌}
use Rattle.std.specs.List.{list_any}
use Rattle.std.specs.Option.{option_or}
use Rattle.std.specs.Str.{bytes_eq}
use Rattle.gw_settings.specs.declared.key.Key.{Key}
use Rattle.gw_settings.specs.declared.key.Key.TheVariants.{Name, Out}
use Rattle.gw_settings.specs.declared.table_kind.TableKind.{TableKind}
use Rattle.gw_settings.specs.declared.table_kind.TableKind.TheVariants.{Bus, Channel, Path, Interface}
use Rattle.gw_settings.specs.declared.fault.FaultKind.TheVariants.{Repeated}
use Rattle.gw_settings.specs.declared.fault.ConfigFault.{ConfigFault}
use Rattle.gw_settings.specs.Faults.{fault_at}
use Rattle.gw_config.specs.Config.{BusEntry, ChannelEntry, PathEntry, InterfaceEntry, Configuration}

-- an entry's text is that of one of these
abbrev pub is_used : {E : Type 0} → (E → List ℕ) → List E → List ℕ → Bool
is_used text_of entries text = list_any (λ other. bytes_eq (text_of other) text) entries

-- the name, where an earlier entry of its kind has it
abbrev pub name_repeats : {E : Type 0} → (E → List ℕ) → List E → E → Option Key
name_repeats name_of earlier entry = if is_used name_of earlier (name_of entry) then Some Name else None

-- of a bus the name, or else the output, where it is an earlier bus's or the input of any
abbrev pub bus_repeats : List BusEntry → List BusEntry → BusEntry → Option Key
bus_repeats all earlier entry =
    if is_used (λ other. other.name) earlier entry.name then Some Name
    else if is_used (λ other. other.out) earlier entry.out then Some Out
    else if is_used (λ other. other.log) all entry.out then Some Out
    else None

-- the first entry that repeats, in order, and its key
abbrev pub first_repeat : {E : Type 0} → (List E → E → Option Key) → TableKind → ℕ → List E → List E → Option ConfigFault
first_repeat repeats table index earlier [] = None
first_repeat repeats table index earlier (entry ∷ entries) =
    option_or (option_map (λ key. fault_at table index key Repeated) (repeats earlier entry)) (first_repeat repeats table (index + 1) (earlier ++ entry ∷ []) entries)

-- the first repetition, in the order of the entries
abbrev pub repeated_among : List BusEntry → List ChannelEntry → List PathEntry → List InterfaceEntry → Option ConfigFault
repeated_among bus channel path interface =
    option_or (first_repeat (bus_repeats bus) Bus 0 [] bus)
    (option_or (first_repeat (name_repeats (λ entry. entry.name)) Channel 0 [] channel)
    (option_or (first_repeat (name_repeats (λ entry. entry.name)) Path 0 [] path)
    (first_repeat (name_repeats (λ entry. entry.name)) Interface 0 [] interface)))

-- the first repetition of a configuration
abbrev pub repeated_in : Configuration → Option ConfigFault
repeated_in config = repeated_among config.bus config.channel config.path config.interface
