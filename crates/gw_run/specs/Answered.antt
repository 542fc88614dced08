-- What a command answers, and why.
use Rattle.std.specs.Prelude.{◌≡◌, ◌⊎◌, ℕ, true, List}
use Rattle.candump_line.specs.declared.fault.LineFault.{LineFault}
use Rattle.gw_base.specs.declared.numbers.BusNo.{BusNo}
use Rattle.gw_depot.specs.Fault.{Rose}
use Rattle.gw_depot.specs.Files.{Files}
use Rattle.gw_depot.specs.Outside.{DepotState, SinkState}
use Rattle.candump_log.specs.declared.log.Stamped.{Stamped}
use Rattle.gw_run.specs.declared.status.ConfigCause.{ConfigCause}
use Rattle.gw_run.specs.declared.status.FileRole.TheVariants.{Say}
use Rattle.gw_run.specs.declared.status.Form.{Form}
use Rattle.gw_run.specs.declared.status.Status.{Status}
use Rattle.gw_run.specs.declared.status.Status.TheVariants.{Ok, Accepted, Usage, ConfigRefused, LogRefused, Unbuilt, ReadFault, WriteFault, Memory, Limit}
use Rattle.gw_run.specs.declared.status.Which.{Which}
use Rattle.gw_run.specs.Causes.{IsCause, IsFault, IsNamed, LeavesFiles}
use Rattle.gw_run.specs.Forwarded.{Forwards, IfDone, IsBuilt}
use Rattle.gw_run.specs.Say.{TellsAnswer}
use Rattle.gw_run.specs.Setup.{Setup}
use Rattle.gw_run.specs.Status.{is_done}
use Rattle.gw_run.specs.Words.{IsRun}

-- a fault is told only with its call to blame: of a file the depot's, and of what is said the sink's, whose count rose
abbrev pub IsFaultOf : (old new : DepotState) → (config report : List ℕ) → (said said' : SinkState) → Status → Type 0
IsFaultOf old new config report said said' status =
    IsFault old.told old.files config report old.faults new.faults new.blame status ⊎ ((status ≡ WriteFault Say) × Rose said.faults said'.faults)

-- a read failed, or memory was wanting
abbrev pub IsCutShort : Status → Type 0
IsCutShort (Ok summary) = ⊥
IsCutShort Accepted = ⊥
IsCutShort Usage = ⊥
IsCutShort (ConfigRefused cause) = ⊥
IsCutShort (LogRefused bus line fault) = ⊥
IsCutShort (Unbuilt form) = ⊥
IsCutShort (ReadFault role) = Unit {0}
IsCutShort (WriteFault role) = ⊥
IsCutShort Memory = Unit {0}
IsCutShort (Limit which value) = ⊥

-- a refusal with a cause in the files comes wherever it has its cause, but where a read fails or memory is wanting
pub record IsExact (before : Files) (config report : List ℕ) (result : Status) : Type 0 where
  pub refused : (cause : ConfigCause) → IsCause before config report (ConfigRefused cause) → (result ≡ ConfigRefused cause) ⊎ IsCutShort result
  pub log : (bus : BusNo) (line : ℕ) (fault : LineFault) → IsCause before config report (LogRefused bus line fault) → (result ≡ LogRefused bus line fault) ⊎ IsCutShort result
  pub unbuilt : (form : Form) → IsCause before config report (Unbuilt form) → (result ≡ Unbuilt form) ⊎ IsCutShort result
  pub limit : (which : Which) (value : ℕ) → IsCause before config report (Limit which value) → (result ≡ Limit which value) ⊎ IsCutShort result

-- a run of what is built is done to its end where no call fails, but where memory is wanting
abbrev pub IsComplete : (old new : DepotState) → (config report : List ℕ) → (said said' : SinkState) → Status → Type 0
IsComplete old new config report said said' result =
    (setup : Setup) (source destination : List Stamped) (start : ℕ) → IsBuilt old.files config report setup source destination start →
    ¬ Rose old.faults new.faults → ¬ Rose said.faults said'.faults → (is_done result ≡ true) ⊎ (result ≡ Memory)

-- what the run of a configuration answers: what it has done, or why it was refused, and which files it left
pub record Answers (old new : DepotState) (config report : List ℕ) (said said' : SinkState) (result : Status) : Type 0 where
  pub done : old.told ≡ true → IfDone result (Forwards old.files new.files config report)
  pub cause : old.told ≡ true → IsCause old.files config report result
  pub exact : old.told ≡ true → IsExact old.files config report result
  pub complete : old.told ≡ true → IsComplete old new config report said said' result
  pub files : old.told ≡ true → LeavesFiles result old.files new.files config report
  pub fault : IsFaultOf old new config report said said' result

-- what a sink that tells what was said was told of the answer to these words, with the name that stands for it
abbrev pub SaysAnswer : (words : List (List ℕ)) → DepotState → (old new : SinkState) → Status → Type 0
SaysAnswer words depot old new result =
    old.told ≡ true → (name : List ℕ) × TellsAnswer name old new result
    × ((config report : List ℕ) → IsRun words config report → IsNamed depot.told depot.files config report result name)
