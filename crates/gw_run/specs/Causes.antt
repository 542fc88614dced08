-- Why a run was refused. Each cause is looked for only where no earlier one was met.
use Rattle.std.specs.Prelude.{◌≡◌, ◌≢◌, ◌⊎◌, ℕ, zero, suc, ◌+◌, ◌-◌, ◌<◌, Bool, true, List, ◌++◌, Some}
use Rattle.gw_base.specs.declared.numbers.BusNo.{BusNo}
use Rattle.gw_config.specs.Config.{Configuration}
use Rattle.gw_depot.specs.declared.outside.CallKind.TheVariants.{Read}
use Rattle.gw_depot.specs.Fault.{Blame, Rose}
use Rattle.gw_depot.specs.Files.{Files}
use Rattle.candump_log.specs.declared.log.Stamped.{Stamped}
use Rattle.candump_line.specs.declared.fault.LineFault.{LineFault}
use Rattle.candump_log.specs.declared.log.LineStop.TheVariants.{Refused, Limit as LineLimit, Memory as LineMemory}
use Rattle.candump_log.specs.declared.log.LogStop.{LogStop}
use Rattle.candump_log.specs.declared.log.LogStop.TheVariants.{Fault, Line as AtLine}
use Rattle.gw_run.specs.declared.status.FileRole.{FileRole}
use Rattle.gw_run.specs.declared.status.FileRole.TheVariants.{Config, Log, Say}
use Rattle.gw_run.specs.declared.status.Form.TheVariants.{Configuration as WholeConfiguration}
use Rattle.gw_run.specs.declared.status.Status.{Status}
use Rattle.gw_run.specs.declared.status.Summary.{Summary}
use Rattle.gw_run.specs.declared.status.Status.TheVariants.{Ok, Accepted, Usage, ConfigRefused, LogRefused, Unbuilt, ReadFault, WriteFault, Memory, Limit}
use Rattle.gw_run.specs.declared.status.Which.TheVariants.{ConfigBytes, Lines, Ticks}
use Rattle.gw_run.specs.Config.{HoldsText, IsRefusedFor, ReadsConfig}
use Rattle.gw_run.specs.Forwarded.{BeginsToForward, Forwards, HoldsLog, HoldsLogs, IsConfigured, last_of}
use Rattle.candump_log.specs.Log.{StopsAt, GoesPast}
use Rattle.gw_run.specs.Log.{source_of}
use Rattle.gw_run.specs.Results.{ReadFailed, WriteFailed, bus_numbered}
use Rattle.gw_run.specs.Setup.{Bus, IsBuiltConfig, Setup}
use Rattle.gw_run.specs.Start.{IsStart, stamps_of}
use Rattle.gw_run.specs.Whole.{IsTooLong}

-- the bus's log has a line that is refused, and only lines that are taken before it; it is among the first so many
pub record StopsLog (before : Files) (bus : Bus) (most number : ℕ) (fault : LineFault) : Type 0 where
  pub content : List ℕ
  pub there : before bus.log ≡ Some content
  pub stops : StopsAt (source_of bus) most content number fault

-- a line of the bus's log begins after so many, all of them taken
pub record PassesLog (before : Files) (bus : Bus) (most : ℕ) : Type 0 where
  pub content : List ℕ
  pub there : before bus.log ≡ Some content
  pub goes_past : GoesPast (source_of bus) content most

-- the configuration is accepted, but isn't built
abbrev pub IsUnbuiltConfig : Files → (config report : List ℕ) → Type 0
IsUnbuiltConfig before config report = (c : Configuration) × ReadsConfig before config (Some report) c × ((setup : Setup) → ¬ IsBuiltConfig c setup)

-- each line of the source's log is taken, and one of the destination's isn't
pub record StopsSecondLog (before : Files) (setup : Setup) (number : ℕ) (fault : LineFault) : Type 0 where
  pub lines : ℕ
  pub source : List Stamped
  pub source_log : HoldsLog before setup.source 1_000_000 lines source
  pub stops : StopsLog before setup.destination (1_000_000 - lines) number fault

-- the line of the bus, counted from 1, is the first that is refused, in bus order
abbrev pub IsRefusedLine : Files → Setup → (bus number : ℕ) → LineFault → Type 0
IsRefusedLine before setup zero number fault = StopsLog before setup.source 1_000_000 number fault
IsRefusedLine before setup (suc zero) number fault = StopsSecondLog before setup number fault
IsRefusedLine before setup (suc (suc bus)) number fault = ⊥

-- the same of the run that a configuration asks for
abbrev pub RefusesLine : Files → (config report : List ℕ) → (bus number : ℕ) → LineFault → Type 0
RefusesLine before config report bus number fault = (setup : Setup) × IsConfigured before config report setup × IsRefusedLine before setup bus number fault

-- each line of the source's log is taken, and a line of the destination's begins after a million of both
pub record PassesSecondLog (before : Files) (setup : Setup) : Type 0 where
  pub lines : ℕ
  pub source : List Stamped
  pub source_log : HoldsLog before setup.source 1_000_000 lines source
  pub passes : PassesLog before setup.destination (1_000_000 - lines)

-- the run has more than ten million ticks
pub record TooManyTicks (setup : Setup) (source destination : List Stamped) (value : ℕ) : Type 0 where
  pub start : ℕ
  pub begins : IsStart (stamps_of source ++ stamps_of destination) start
  pub count : value ≡ last_of setup start source destination + 1
  pub over : 10_000_000 < value

-- each line of both logs is taken, and they have too many ticks
pub record PassesTicks (before : Files) (setup : Setup) (value : ℕ) : Type 0 where
  pub source : List Stamped
  pub destination : List Stamped
  pub logs : HoldsLogs before setup source destination
  pub over : TooManyTicks setup source destination value

-- why a run over files that are told was refused; faults and want of memory have no cause in the files
abbrev pub IsCause : Files → (config report : List ℕ) → Status → Type 0
IsCause before config report (Ok summary) = Unit {0}
IsCause before config report Accepted = ⊥
IsCause before config report Usage = ⊥
IsCause before config report (ConfigRefused cause) = HoldsText before config (IsRefusedFor config (Some report) cause)
IsCause before config report (LogRefused bus number fault) = RefusesLine before config report bus.0 number fault
IsCause before config report (Unbuilt WholeConfiguration) = IsUnbuiltConfig before config report
IsCause before config report (ReadFault role) = Unit {0}
IsCause before config report (WriteFault role) = Unit {0}
IsCause before config report Memory = Unit {0}
IsCause before config report (Limit ConfigBytes value) = (value ≡ 65_537) × IsTooLong before config 65_536
IsCause before config report (Limit Lines value) =
    (value ≡ 1_000_001) × ((setup : Setup) × IsConfigured before config report setup × (PassesLog before setup.source 1_000_000 ⊎ PassesSecondLog before setup))
IsCause before config report (Limit Ticks value) = (setup : Setup) × IsConfigured before config report setup × PassesTicks before setup value

-- a run to its end was done
abbrev pub HasForwarded : (before after : Files) → (config report : List ℕ) → Type 0
HasForwarded before after config report = (summary : Summary) × Forwards before after config report summary

-- a run that was refused before its outputs has changed no file; one whose writes failed has left beginnings of its results, and one that wasn't said has left them whole
abbrev pub LeavesFiles : Status → (before after : Files) → (config report : List ℕ) → Type 0
LeavesFiles (Ok summary) before after config report = Unit {0}
LeavesFiles Accepted before after config report = after ≡ before
LeavesFiles Usage before after config report = after ≡ before
LeavesFiles (ConfigRefused cause) before after config report = after ≡ before
LeavesFiles (LogRefused bus line fault) before after config report = after ≡ before
LeavesFiles (Unbuilt form) before after config report = after ≡ before
LeavesFiles (ReadFault role) before after config report = after ≡ before
LeavesFiles (WriteFault role) before after config report =
    ((role ≢ Say) × BeginsToForward before after config report) ⊎ ((role ≡ Say) × HasForwarded before after config report)
LeavesFiles Memory before after config report = (after ≡ before) ⊎ HasForwarded before after config report
LeavesFiles (Limit which value) before after config report = after ≡ before

-- these are the buses that the configuration names, where the depot tells its contents
abbrev pub IsSetup : Bool → Files → (config report : List ℕ) → Setup → Type 0
IsSetup told before config report setup = told ≡ true → IsConfigured before config report setup

-- the configuration's own read failed
abbrev pub ConfigFailed : (config : List ℕ) → (faults faults' : ℕ) → Blame → FileRole → Type 0
ConfigFailed config faults faults' blame role = (role ≡ Config) × Rose faults faults' × (blame ≡ Some (Read, config))

-- a fault is told only where the depot's count of faults rose and its blame is such a call on that file
abbrev pub IsFault : Bool → Files → (config report : List ℕ) → (faults faults' : ℕ) → Blame → Status → Type 0
IsFault told before config report faults faults' blame (Ok summary) = Unit {0}
IsFault told before config report faults faults' blame Accepted = Unit {0}
IsFault told before config report faults faults' blame Usage = Unit {0}
IsFault told before config report faults faults' blame (ConfigRefused cause) = Unit {0}
IsFault told before config report faults faults' blame (LogRefused bus line fault) = Unit {0}
IsFault told before config report faults faults' blame (Unbuilt form) = Unit {0}
IsFault told before config report faults faults' blame (ReadFault role) =
    ConfigFailed config faults faults' blame role ⊎ ((setup : Setup) × IsSetup told before config report setup × ReadFailed setup faults faults' blame role)
IsFault told before config report faults faults' blame (WriteFault role) = (setup : Setup) × IsSetup told before config report setup × WriteFailed setup report faults faults' blame role
IsFault told before config report faults faults' blame Memory = Unit {0}
IsFault told before config report faults faults' blame (Limit which value) = Unit {0}

-- the name of the bus with that number
abbrev pub IsNameOf : Bool → Files → (config report : List ℕ) → (bus : ℕ) → (name : List ℕ) → Type 0
IsNameOf told before config report bus name = (setup : Setup) × IsSetup told before config report setup × (name ≡ (bus_numbered setup bus).interface)

-- the name that is said of a line that isn't taken is its bus's
abbrev pub IsNamed : Bool → Files → (config report : List ℕ) → Status → (name : List ℕ) → Type 0
IsNamed told before config report (Ok summary) name = Unit {0}
IsNamed told before config report Accepted name = Unit {0}
IsNamed told before config report Usage name = Unit {0}
IsNamed told before config report (ConfigRefused cause) name = Unit {0}
IsNamed told before config report (LogRefused bus line fault) name = IsNameOf told before config report bus.0 name
IsNamed told before config report (Unbuilt form) name = Unit {0}
IsNamed told before config report (ReadFault role) name = Unit {0}
IsNamed told before config report (WriteFault role) name = Unit {0}
IsNamed told before config report Memory name = Unit {0}
IsNamed told before config report (Limit which value) name = Unit {0}

-- what is answered where a bus's log isn't read to its end
abbrev pub log_status : BusNo → LogStop → Status
log_status bus Fault = ReadFault (Log bus)
log_status bus (AtLine LineMemory) = Memory
log_status bus (AtLine (Refused number fault)) = LogRefused bus number fault
log_status bus (AtLine LineLimit) = Limit Lines 1_000_001

-- why the results of both logs' frames weren't planned
abbrev pub StopsPlan : Setup → (source destination : List Stamped) → Status → Type 0
StopsPlan setup source destination (Ok summary) = ⊥
StopsPlan setup source destination Accepted = ⊥
StopsPlan setup source destination Usage = ⊥
StopsPlan setup source destination (ConfigRefused cause) = ⊥
StopsPlan setup source destination (LogRefused bus line fault) = ⊥
StopsPlan setup source destination (Unbuilt form) = ⊥
StopsPlan setup source destination (ReadFault role) = ⊥
StopsPlan setup source destination (WriteFault role) = ⊥
StopsPlan setup source destination Memory = Unit {0}
StopsPlan setup source destination (Limit ConfigBytes value) = ⊥
StopsPlan setup source destination (Limit Lines value) = ⊥
StopsPlan setup source destination (Limit Ticks value) = TooManyTicks setup source destination value
