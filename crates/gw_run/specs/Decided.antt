-- How a run ended, and what was told of it.
use Rattle.std.specs.Prelude.{◌≡◌, ◌≢◌, ℕ, true, List}
use Rattle.gw_depot.specs.Outside.{DepotState, SinkState}
use Rattle.gw_run.specs.declared.status.Status.{Status}
use Rattle.gw_run.specs.declared.status.Status.TheVariants.{Ok, Accepted, Usage, ConfigRefused, LogRefused, Unbuilt, ReadFault, WriteFault, Memory, Limit}
use Rattle.gw_run.specs.Causes.{IsCause, IsFault, IsNamed, LeavesFiles}
use Rattle.gw_run.specs.Forwarded.{Forwards, IfDone}
use Rattle.gw_run.specs.Results.{bus_numbered}
use Rattle.gw_run.specs.Say.{AfterTelling, TellsLine}
use Rattle.gw_run.specs.Setup.{Setup}

-- what the status of a run says of the depot, and whose name is said with it
pub record IsDecided (old new : DepotState) (config report : List ℕ) (status : Status) (name : List ℕ) : Type 0 where
  pub done : old.told ≡ true → IfDone status (Forwards old.files new.files config report)
  pub shaped : status ≢ Usage
  pub cause : old.told ≡ true → IsCause old.files config report status
  pub files : old.told ≡ true → LeavesFiles status old.files new.files config report
  pub fault : IsFault old.told old.files config report old.faults new.faults new.blame status
  pub named : IsNamed old.told old.files config report status name

-- a run ended so, and this was told of it
pub record IsToldOf (old new : DepotState) (config report : List ℕ) (said said' : SinkState) (result : Status) : Type 0 where
  pub status : Status
  pub name : List ℕ
  pub decided : IsDecided old new config report status name
  pub stands : AfterTelling status said.faults said'.faults result
  pub line : said.told ≡ true → TellsLine name status said said' result

-- a name that goes with a status: of a line that isn't taken its bus's
abbrev pub IsNameIn : Setup → Status → (name : List ℕ) → Type 0
IsNameIn setup (Ok summary) name = Unit {0}
IsNameIn setup Accepted name = Unit {0}
IsNameIn setup Usage name = Unit {0}
IsNameIn setup (ConfigRefused cause) name = Unit {0}
IsNameIn setup (LogRefused bus line fault) name = name ≡ (bus_numbered setup bus.0).interface
IsNameIn setup (Unbuilt form) name = Unit {0}
IsNameIn setup (ReadFault role) name = Unit {0}
IsNameIn setup (WriteFault role) name = Unit {0}
IsNameIn setup Memory name = Unit {0}
IsNameIn setup (Limit which value) name = Unit {0}
