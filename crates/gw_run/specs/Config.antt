-- What the file of a configuration is to a command.
use Rattle.std.specs.Prelude.{◌≡◌, ◌⊎◌, ℕ, ◌+◌, Bool, false, if◌then◌else◌, List, [], ◌∷◌, Option, None, Some, option_map}
use Rattle.std.specs.Option.{option_or}
use Rattle.std.specs.Str.{bytes_eq}
use Rattle.gw_config.specs.Config.{BusEntry, Configuration}
use Rattle.gw_config.specs.Document.{HasFault, Spells}
use Rattle.gw_depot.specs.declared.outside.CallKind.TheVariants.{Read}
use Rattle.gw_depot.specs.Fault.{Blame, Rose}
use Rattle.gw_depot.specs.Files.{Files}
use Rattle.gw_settings.specs.Faults.{fault_at}
use Rattle.gw_settings.specs.declared.fault.ConfigFault.{ConfigFault}
use Rattle.gw_settings.specs.declared.fault.FaultKind.TheVariants.{Repeated}
use Rattle.gw_settings.specs.declared.key.Key.{Key}
use Rattle.gw_settings.specs.declared.key.Key.TheVariants.{Log, Out}
use Rattle.gw_settings.specs.declared.table_kind.TableKind.TheVariants.{Bus}
use Rattle.route_check.specs.Conflicts.{IsAccepted, IsFirstConflict}
use Rattle.route_check.specs.declared.conflict.Conflict.{Conflict as FirstConflict}
use Rattle.gw_run.specs.declared.config.ConfigStop.{ConfigStop}
use Rattle.gw_run.specs.declared.config.ConfigStop.TheVariants.{Fault as ReadFails, Memory as NoMemory, TooLong, Refused}
use Rattle.gw_run.specs.declared.status.ConfigCause.{ConfigCause}
use Rattle.gw_run.specs.declared.status.ConfigCause.TheVariants.{Fault, Conflict}
use Rattle.gw_run.specs.declared.status.FileRole.TheVariants.{Config}
use Rattle.gw_run.specs.declared.status.Status.{Status}
use Rattle.gw_run.specs.declared.status.Status.TheVariants.{ConfigRefused, ReadFault, Memory, Limit}
use Rattle.gw_run.specs.declared.status.Which.TheVariants.{ConfigBytes}
use Rattle.gw_run.specs.Whole.{HoldsShort, IsTooLong}

-- the name is the report's, where the command has one
abbrev pub is_named : Option (List ℕ) → List ℕ → Bool
is_named None name = false
is_named (Some report) name = bytes_eq name report

-- the key of a bus's file that the command would write over, or writes too: a log that is the report, or an output that is the
-- configuration or the report
abbrev pub key_named : (config : List ℕ) → (report : Option (List ℕ)) → BusEntry → Option Key
key_named config report bus =
    if is_named report bus.log then Some Log
    else if bytes_eq bus.out config then Some Out
    else if is_named report bus.out then Some Out
    else None

-- the first such bus, from that number on
abbrev pub first_named : (config : List ℕ) → (report : Option (List ℕ)) → ℕ → List BusEntry → Option ConfigFault
first_named config report index [] = None
first_named config report index (bus ∷ buses) =
    option_or (option_map (λ key. fault_at Bus index key Repeated) (key_named config report bus)) (first_named config report (index + 1) buses)

-- the first file of a configuration that is used again by the command
abbrev pub files_repeat : (config : List ℕ) → (report : Option (List ℕ)) → Configuration → Option ConfigFault
files_repeat config report c = first_named config report 0 c.bus

-- the text spells this configuration, which uses none of the command's files again and has no conflict
pub record SpellsAccepted (config : List ℕ) (report : Option (List ℕ)) (text : List ℕ) (c : Configuration) : Type 0 where
  pub spells : Spells text c
  pub apart : files_repeat config report c ≡ None
  pub accepted : IsAccepted c

-- the text spells a configuration that uses one of the command's files again
pub record SpellsRepeated (config : List ℕ) (report : Option (List ℕ)) (text : List ℕ) (fault : ConfigFault) : Type 0 where
  pub c : Configuration
  pub spells : Spells text c
  pub repeats : files_repeat config report c ≡ Some fault

-- the text spells a configuration whose first conflict this is
pub record SpellsConflict (config : List ℕ) (report : Option (List ℕ)) (text : List ℕ) (conflict : FirstConflict) : Type 0 where
  pub c : Configuration
  pub spells : Spells text c
  pub apart : files_repeat config report c ≡ None
  pub first : IsFirstConflict c conflict

-- the text is refused as the command's configuration: by its own first fault, by the first of its files that is used again, or by
-- its first conflict
abbrev pub IsRefusedFor : (config : List ℕ) → (report : Option (List ℕ)) → ConfigCause → List ℕ → Type 0
IsRefusedFor config report (Fault fault) text = HasFault text fault ⊎ SpellsRepeated config report text fault
IsRefusedFor config report (Conflict conflict) text = SpellsConflict config report text conflict

-- the file holds a text of at most 65,536 bytes, and the fact holds of it
abbrev pub HoldsText : Files → List ℕ → (List ℕ → Type 0) → Type 0
HoldsText files config P = (text : List ℕ) × HoldsShort files config 65_536 text × P text

-- the file spells this configuration, which is accepted
abbrev pub ReadsConfig : Files → (config : List ℕ) → (report : Option (List ℕ)) → Configuration → Type 0
ReadsConfig files config report c = HoldsText files config (λ text. SpellsAccepted config report text c)

-- why the configuration isn't used; a fault and want of memory have no cause in the file
abbrev pub StopsConfig : Files → (config : List ℕ) → (report : Option (List ℕ)) → ConfigStop → Type 0
StopsConfig files config report ReadFails = Unit {0}
StopsConfig files config report NoMemory = Unit {0}
StopsConfig files config report TooLong = IsTooLong files config 65_536
StopsConfig files config report (Refused cause) = HoldsText files config (IsRefusedFor config report cause)

-- a read fails only where the count of faults rose, and the blame is then a read of the configuration
abbrev pub FaultsOnConfig : List ℕ → ℕ → ℕ → Blame → ConfigStop → Type 0
FaultsOnConfig config before now blame ReadFails = Rose before now × (blame ≡ Some (Read, config))
FaultsOnConfig config before now blame NoMemory = Unit {0}
FaultsOnConfig config before now blame TooLong = Unit {0}
FaultsOnConfig config before now blame (Refused cause) = Unit {0}

-- what is answered
abbrev pub stop_status : ConfigStop → Status
stop_status ReadFails = ReadFault Config
stop_status NoMemory = Memory
stop_status TooLong = Limit ConfigBytes 65_537
stop_status (Refused cause) = ConfigRefused cause
