-- What the check of a configuration answers, and why.
use Rattle.std.specs.Prelude.{◌≡◌, ◌⊎◌, ℕ, true, List, None, Some}
use Rattle.gw_config.specs.Config.{Configuration}
use Rattle.gw_depot.specs.declared.outside.CallKind.TheVariants.{Read}
use Rattle.gw_depot.specs.Fault.{Blame, Rose}
use Rattle.gw_depot.specs.Files.{Files}
use Rattle.gw_depot.specs.Outside.{DepotState, SinkState}
use Rattle.gw_run.specs.declared.status.ConfigCause.{ConfigCause}
use Rattle.gw_run.specs.declared.status.FileRole.TheVariants.{Config, Say}
use Rattle.gw_run.specs.declared.status.Status.{Status}
use Rattle.gw_run.specs.declared.status.Status.TheVariants.{Ok, Accepted, Usage, ConfigRefused, LogRefused, Unbuilt, ReadFault, WriteFault, Memory, Limit}
use Rattle.gw_run.specs.declared.status.Which.TheVariants.{ConfigBytes, Lines, Ticks}
use Rattle.gw_run.specs.Answered.{IsCutShort}
use Rattle.gw_run.specs.Config.{HoldsText, IsRefusedFor, ReadsConfig}
use Rattle.gw_run.specs.Whole.{IsTooLong}

-- the file spells a configuration that is accepted
abbrev pub HoldsAccepted : Files → (config : List ℕ) → Type 0
HoldsAccepted before config = (c : Configuration) × ReadsConfig before config None c

-- why a check over files that are told was answered so; faults and want of memory have no cause in the files
abbrev pub IsCheckCause : Files → (config : List ℕ) → Status → Type 0
IsCheckCause before config (Ok summary) = ⊥
IsCheckCause before config Accepted = HoldsAccepted before config
IsCheckCause before config Usage = ⊥
IsCheckCause before config (ConfigRefused cause) = HoldsText before config (IsRefusedFor config None cause)
IsCheckCause before config (LogRefused bus line fault) = ⊥
IsCheckCause before config (Unbuilt form) = ⊥
IsCheckCause before config (ReadFault role) = Unit {0}
IsCheckCause before config (WriteFault role) = HoldsAccepted before config
IsCheckCause before config Memory = Unit {0}
IsCheckCause before config (Limit ConfigBytes value) = (value ≡ 65_537) × IsTooLong before config 65_536
IsCheckCause before config (Limit Lines value) = ⊥
IsCheckCause before config (Limit Ticks value) = ⊥

-- a fault is told only with its call to blame: a read of the configuration, or what is said
abbrev pub IsCheckFault : (config : List ℕ) → (faults faults' : ℕ) → Blame → (said said' : ℕ) → Status → Type 0
IsCheckFault config faults faults' blame said said' (Ok summary) = Unit {0}
IsCheckFault config faults faults' blame said said' Accepted = Unit {0}
IsCheckFault config faults faults' blame said said' Usage = Unit {0}
IsCheckFault config faults faults' blame said said' (ConfigRefused cause) = Unit {0}
IsCheckFault config faults faults' blame said said' (LogRefused bus line fault) = Unit {0}
IsCheckFault config faults faults' blame said said' (Unbuilt form) = Unit {0}
IsCheckFault config faults faults' blame said said' (ReadFault role) = (role ≡ Config) × Rose faults faults' × (blame ≡ Some (Read, config))
IsCheckFault config faults faults' blame said said' (WriteFault role) = (role ≡ Say) × Rose said said'
IsCheckFault config faults faults' blame said said' Memory = Unit {0}
IsCheckFault config faults faults' blame said said' (Limit which value) = Unit {0}

-- each answer comes wherever it has its cause, but where a read fails or memory is wanting; what is accepted may not be said
pub record IsCheckExact (before : Files) (config : List ℕ) (result : Status) : Type 0 where
  pub accepted : HoldsAccepted before config → (result ≡ Accepted) ⊎ (result ≡ WriteFault Say) ⊎ IsCutShort result
  pub refused : (cause : ConfigCause) → HoldsText before config (IsRefusedFor config None cause) → (result ≡ ConfigRefused cause) ⊎ IsCutShort result
  pub limit : IsTooLong before config 65_536 → (result ≡ Limit ConfigBytes 65_537) ⊎ IsCutShort result

-- what the check of a configuration answers and why; it changes no file
pub record AnswersCheck (old new : DepotState) (config : List ℕ) (said said' : SinkState) (result : Status) : Type 0 where
  pub cause : old.told ≡ true → IsCheckCause old.files config result
  pub exact : old.told ≡ true → IsCheckExact old.files config result
  pub files : new.files ≡ old.files
  pub fault : IsCheckFault config old.faults new.faults new.blame said.faults said'.faults result
