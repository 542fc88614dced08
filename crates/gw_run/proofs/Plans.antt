-- What is planned, and what is done of it.
use Rattle.std.proofs.Common.{◌≡◌, ℕ, ◌-◌, ◌≤◌, Bool, true, List}
use Rattle.gw_depot.specs.Files.{Files}
use Rattle.candump_log.specs.declared.log.Stamped.{Stamped}
use Rattle.gw_run.specs.declared.plan.Plan.{Plan}
use Rattle.gw_run.specs.declared.status.Status.{Status}
use Rattle.gw_run.specs.declared.status.Status.TheVariants.{Ok, Accepted, Usage, ConfigRefused, LogRefused, Unbuilt, ReadFault, WriteFault, Memory, Limit}
use Rattle.gw_run.specs.declared.status.Which.TheVariants.{ConfigBytes, Lines, Ticks}
use Rattle.gw_run.specs.Causes.{IsCause, StopsPlan}
use Rattle.gw_run.specs.Forwarded.{BeginsToForward, Forwards, IsBuilt, IsConfigured}
use Rattle.candump_log.specs.Log.{ReadsLog}
use Rattle.gw_run.specs.Log.{source_of}
use Rattle.gw_run.specs.Plan.{IsPlan}
use Rattle.gw_run.specs.Results.{HasBegun, HasResults}
use Rattle.gw_run.specs.Setup.{Setup}

-- the configuration and its two logs are such that a plan was made
pub built : (told : Bool) (before : Files) (config report : List ℕ) (setup : Setup) (lines lines' : ℕ) (source destination : List Stamped) (plan : Plan) →
    told ≡ true → IsConfigured before config report setup → ReadsLog told before (source_of setup.source) lines source → ReadsLog told before (source_of setup.destination) lines' destination →
    lines ≤ 1_000_000 → lines' ≤ 1_000_000 - lines →
    (planned : IsPlan setup source destination plan) → IsBuilt before config report setup source destination planned.start
built told before config report setup lines lines' source destination plan is configured from to few rest planned = record {
  configured = configured;
  logs = record {
    source_lines = lines;
    source_log = record { content = from.content; there = from.there is; is_log = from.is_log; few = few };
    destination_lines = lines';
    destination_log = record { content = to.content; there = to.there is; is_log = to.is_log; few = rest };
  };
  ticks = planned.ticks;
}

-- why nothing was planned is why the run was refused
pub plan-cause : (told : Bool) (before : Files) (config report : List ℕ) (setup : Setup) (lines lines' : ℕ) (source destination : List Stamped) (status : Status) →
    told ≡ true → IsConfigured before config report setup → ReadsLog told before (source_of setup.source) lines source → ReadsLog told before (source_of setup.destination) lines' destination →
    lines ≤ 1_000_000 → lines' ≤ 1_000_000 - lines → StopsPlan setup source destination status → IsCause before config report status
plan-cause told before config report setup lines lines' source destination (Ok summary) is configured from to few rest stops = absurd stops
plan-cause told before config report setup lines lines' source destination Accepted is configured from to few rest stops = absurd stops
plan-cause told before config report setup lines lines' source destination Usage is configured from to few rest stops = absurd stops
plan-cause told before config report setup lines lines' source destination (ConfigRefused cause) is configured from to few rest stops = absurd stops
plan-cause told before config report setup lines lines' source destination (LogRefused bus line fault) is configured from to few rest stops = absurd stops
plan-cause told before config report setup lines lines' source destination (Unbuilt form) is configured from to few rest stops = absurd stops
plan-cause told before config report setup lines lines' source destination (ReadFault role) is configured from to few rest stops = absurd stops
plan-cause told before config report setup lines lines' source destination (WriteFault role) is configured from to few rest stops = absurd stops
plan-cause told before config report setup lines lines' source destination Memory is configured from to few rest stops = tt
plan-cause told before config report setup lines lines' source destination (Limit ConfigBytes value) is configured from to few rest stops = absurd stops
plan-cause told before config report setup lines lines' source destination (Limit Lines value) is configured from to few rest stops = absurd stops
plan-cause told before config report setup lines lines' source destination (Limit Ticks value) is configured from to few rest stops = (
  setup,
  configured,
  record {
    source = source;
    destination = destination;
    logs = record {
      source_lines = lines;
      source_log = record { content = from.content; there = from.there is; is_log = from.is_log; few = few };
      destination_lines = lines';
      destination_log = record { content = to.content; there = to.there is; is_log = to.is_log; few = rest };
    };
    over = stops;
  },
)

-- what was planned was done
pub forwards : (before after : Files) (config report : List ℕ) (setup : Setup) (source destination : List Stamped) (plan : Plan) →
    (planned : IsPlan setup source destination plan) → IsBuilt before config report setup source destination planned.start →
    HasResults before after setup plan.source_output plan.output report plan.report → Forwards before after config report plan.summary
forwards before after config report setup source destination plan planned is results = record {
  setup = setup;
  source = source;
  destination = destination;
  start = planned.start;
  built = is;
  told = planned.told;
  tells = planned.tells;
  left = rw (← planned.prints.source_output, ← planned.prints.output, ← planned.prints.report) results;
  counted = planned.prints.counted;
  source_log = planned.source_log;
  log = planned.log;
}

-- what was planned was begun
pub begins : (before after : Files) (config report : List ℕ) (setup : Setup) (source destination : List Stamped) (plan : Plan) →
    (planned : IsPlan setup source destination plan) → IsBuilt before config report setup source destination planned.start →
    HasBegun before after setup plan.source_output plan.output report plan.report → BeginsToForward before after config report
begins before after config report setup source destination plan planned is begun = record {
  setup = setup;
  source = source;
  destination = destination;
  start = planned.start;
  built = is;
  told = planned.told;
  tells = planned.tells;
  left = rw (← planned.prints.source_output, ← planned.prints.output, ← planned.prints.report) begun;
}
