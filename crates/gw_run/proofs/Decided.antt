-- How a run is decided: by its configuration, or by what is carried out of it.
use Rattle.std.proofs.Common.{◌≡◌, ◌≢◌, ℕ, ◌-◌, ◌≤◌, Bool, true, List, Some, refl, sym, subst, inl, inr, arith}
use Rattle.gw_config.specs.Config.{Configuration}
use Rattle.gw_depot.specs.Fault.{Blame, Rose}
use Rattle.gw_depot.specs.Files.{Files}
use Rattle.gw_depot.specs.Outside.{DepotState}
use Rattle.gw_run.specs.declared.config.ConfigStop.{ConfigStop}
use Rattle.gw_run.specs.declared.config.ConfigStop.TheVariants.{Fault as ReadFails, Memory as NoMemory, TooLong, Refused}
use Rattle.candump_log.specs.declared.log.LineStop.TheVariants.{Refused as RefusedLine, Limit as LineLimit, Memory as LineMemory}
use Rattle.candump_log.specs.declared.log.LogStop.{LogStop}
use Rattle.candump_log.specs.declared.log.LogStop.TheVariants.{Fault, Line as AtLine}
use Rattle.candump_log.specs.declared.log.Stamped.{Stamped}
use Rattle.gw_run.specs.declared.status.FileRole.{FileRole}
use Rattle.gw_run.specs.declared.status.FileRole.TheVariants.{Config, Log, Out, Report, Say}
use Rattle.gw_run.specs.declared.status.Form.TheVariants.{Configuration as WholeConfiguration}
use Rattle.gw_run.specs.declared.status.Status.{Status}
use Rattle.gw_run.specs.declared.status.Status.TheVariants.{Ok, Accepted, Usage, ConfigRefused, LogRefused, Unbuilt, ReadFault, WriteFault, Memory, Limit}
use Rattle.gw_run.specs.declared.setup.TheConstants.{DESTINATION}
use Rattle.gw_run.specs.Causes.{IsCause, IsFault, IsNamed, IsSetup, LeavesFiles, log_status}
use Rattle.gw_run.specs.Config.{FaultsOnConfig, ReadsConfig, StopsConfig, stop_status}
use Rattle.gw_run.specs.Decided.{IsDecided, IsNameIn}
use Rattle.gw_run.specs.Forwarded.{Forwards, IfDone, IsConfigured}
use Rattle.candump_log.specs.Log.{LogStops, ReadsLog}
use Rattle.gw_run.specs.Log.{source_of}
use Rattle.gw_run.specs.Results.{ReadFailed, WriteFailed}
use Rattle.gw_run.specs.Setup.{IsBuiltConfig, Setup}

-- ---- the destination's log

pub second-cause : (told : Bool) (before : Files) (config report : List ℕ) (setup : Setup) (lines : ℕ) (source : List Stamped) (stop : LogStop) (result : Status) → result ≡ log_status DESTINATION stop →
    told ≡ true → IsConfigured before config report setup → ReadsLog told before (source_of setup.source) lines source → lines ≤ 1_000_000 → LogStops told before (source_of setup.destination) (1_000_000 - lines) stop →
    IsCause before config report result
second-cause told before config report setup lines source Fault result same is configured reads few stops = subst (λ r. IsCause before config report r) (sym same) tt
second-cause told before config report setup lines source (AtLine LineMemory) result same is configured reads few stops = subst (λ r. IsCause before config report r) (sym same) tt
second-cause told before config report setup lines source (AtLine (RefusedLine number fault)) result same is configured reads few stops =
    let stopped = stops is in
    subst (λ r. IsCause before config report r) (sym same) (
      setup,
      configured,
      record {
        lines = lines;
        source = source;
        source_log = record { content = reads.content; there = reads.there is; is_log = reads.is_log; few = few };
        stops = record { content = stopped.content; there = stopped.there; stops = stopped.stops };
      },
    )
second-cause told before config report setup lines source (AtLine LineLimit) result same is configured reads few stops =
    let stopped = stops is in
    subst (λ r. IsCause before config report r) (sym same) (
      refl,
      (
        setup,
        configured,
        inr (record {
          lines = lines;
          source = source;
          source_log = record { content = reads.content; there = reads.there is; is_log = reads.is_log; few = few };
          passes = record { content = stopped.content; there = stopped.there; goes_past = stopped.stops };
        }),
      ),
    )

-- ---- a count that rose since a later time rose since an earlier one

rose-earlier : (earlier before now : ℕ) → earlier ≤ before → Rose before now → Rose earlier now
rose-earlier earlier before now less rose = omega (arith, less, rose)

read-earlier : (setup : Setup) (earlier before now : ℕ) (blame : Blame) (role : FileRole) → earlier ≤ before → ReadFailed setup before now blame role → ReadFailed setup earlier now blame role
read-earlier setup earlier before now blame Config less failed = failed
read-earlier setup earlier before now blame (Log bus) less failed = (rose-earlier earlier before now less failed.0, failed.1)
read-earlier setup earlier before now blame (Out bus) less failed = failed
read-earlier setup earlier before now blame Report less failed = failed
read-earlier setup earlier before now blame Say less failed = failed

write-earlier : (setup : Setup) (report : List ℕ) (earlier before now : ℕ) (blame : Blame) (role : FileRole) → earlier ≤ before → WriteFailed setup report before now blame role → WriteFailed setup report earlier now blame role
write-earlier setup report earlier before now blame Config less failed = failed
write-earlier setup report earlier before now blame (Log bus) less failed = failed
write-earlier setup report earlier before now blame (Out bus) less failed = (rose-earlier earlier before now less failed.0, failed.1)
write-earlier setup report earlier before now blame Report less failed = (rose-earlier earlier before now less failed.0, failed.1)
write-earlier setup report earlier before now blame Say less failed = failed

pub fault-earlier : (told : Bool) (files : Files) (config report : List ℕ) (earlier before now : ℕ) (blame : Blame) (status : Status) → earlier ≤ before →
    IsFault told files config report before now blame status → IsFault told files config report earlier now blame status
fault-earlier told files config report earlier before now blame (Ok summary) less fault = fault
fault-earlier told files config report earlier before now blame Accepted less fault = fault
fault-earlier told files config report earlier before now blame Usage less fault = fault
fault-earlier told files config report earlier before now blame (ConfigRefused cause) less fault = fault
fault-earlier told files config report earlier before now blame (LogRefused bus line why) less fault = fault
fault-earlier told files config report earlier before now blame (Unbuilt form) less fault = fault
fault-earlier told files config report earlier before now blame (ReadFault role) less (inl (is, rose, blamed)) = inl (is, rose-earlier earlier before now less rose, blamed)
fault-earlier told files config report earlier before now blame (ReadFault role) less (inr (setup, is, failed)) = inr (setup, is, read-earlier setup earlier before now blame role less failed)
fault-earlier told files config report earlier before now blame (WriteFault role) less (setup, is, failed) = (setup, is, write-earlier setup report earlier before now blame role less failed)
fault-earlier told files config report earlier before now blame Memory less fault = fault
fault-earlier told files config report earlier before now blame (Limit which value) less fault = fault

-- ---- a configuration that isn't used

pub stopped : (old new : DepotState) (config report : List ℕ) (stop : ConfigStop) (status : Status) (name : List ℕ) → status ≡ stop_status stop → new.files ≡ old.files →
    (old.told ≡ true → StopsConfig old.files config (Some report) stop) → FaultsOnConfig config old.faults new.faults new.blame stop → IsDecided old new config report status name
stopped old new config report ReadFails status name is same stops fails =
    subst (λ s. IsDecided old new config report s name) (sym is)
    (record { done = λ t. tt; shaped = λ e. cc; cause = λ t. tt; files = λ t. same; fault = inl (refl, fails.0, fails.1); named = tt })
stopped old new config report NoMemory status name is same stops fails =
    subst (λ s. IsDecided old new config report s name) (sym is)
    (record { done = λ t. tt; shaped = λ e. cc; cause = λ t. tt; files = λ t. inl same; fault = tt; named = tt })
stopped old new config report TooLong status name is same stops fails =
    subst (λ s. IsDecided old new config report s name) (sym is)
    (record { done = λ t. tt; shaped = λ e. cc; cause = λ t. (refl, stops t); files = λ t. same; fault = tt; named = tt })
stopped old new config report (Refused cause) status name is same stops fails =
    subst (λ s. IsDecided old new config report s name) (sym is)
    (record { done = λ t. tt; shaped = λ e. cc; cause = stops; files = λ t. same; fault = tt; named = tt })

-- ---- a configuration that isn't built

pub not_built : (old new : DepotState) (config report : List ℕ) (c : Configuration) (name : List ℕ) → new.files ≡ old.files →
    (old.told ≡ true → ReadsConfig old.files config (Some report) c) → ((setup : Setup) → ¬ IsBuiltConfig c setup) →
    IsDecided old new config report (Unbuilt WholeConfiguration) name
not_built old new config report c name same reads not =
    record { done = λ t. tt; shaped = λ e. cc; cause = λ t. (c, reads t, not); files = λ t. same; fault = tt; named = tt }

-- ---- what is carried out

named-in : (told : Bool) (before : Files) (config report : List ℕ) (setup : Setup) (status : Status) (name : List ℕ) → IsSetup told before config report setup → IsNameIn setup status name →
    IsNamed told before config report status name
named-in told before config report setup (Ok summary) name is named = tt
named-in told before config report setup Accepted name is named = tt
named-in told before config report setup Usage name is named = tt
named-in told before config report setup (ConfigRefused cause) name is named = tt
named-in told before config report setup (LogRefused bus line fault) name is named = (setup, is, named)
named-in told before config report setup (Unbuilt form) name is named = tt
named-in told before config report setup (ReadFault role) name is named = tt
named-in told before config report setup (WriteFault role) name is named = tt
named-in told before config report setup Memory name is named = tt
named-in told before config report setup (Limit which value) name is named = tt

pub configured : (told : Bool) (before : Files) (config report : List ℕ) (c : Configuration) (setup : Setup) → (told ≡ true → ReadsConfig before config (Some report) c) → IsBuiltConfig c setup → IsSetup told before config report setup
configured told before config report c setup reads built t = record { c = c; reads = reads t; built = built }

pub carried : (old new : DepotState) (config report : List ℕ) (mid : ℕ) (setup : Setup) (status : Status) (name : List ℕ) → IsSetup old.told old.files config report setup → old.faults ≤ mid →
    (old.told ≡ true → IsConfigured old.files config report setup → IfDone status (Forwards old.files new.files config report)) → status ≢ Usage →
    (old.told ≡ true → IsConfigured old.files config report setup → IsCause old.files config report status) →
    (old.told ≡ true → IsConfigured old.files config report setup → LeavesFiles status old.files new.files config report) →
    (IsSetup old.told old.files config report setup → IsFault old.told old.files config report mid new.faults new.blame status) → IsNameIn setup status name →
    IsDecided old new config report status name
carried old new config report mid setup status name is later done shaped cause files fault named = record {
  done = λ t. done t (is t);
  shaped = shaped;
  cause = λ t. cause t (is t);
  files = λ t. files t (is t);
  fault = fault-earlier old.told old.files config report old.faults mid new.faults new.blame status later (fault is);
  named = named-in old.told old.files config report setup status name is named;
}
