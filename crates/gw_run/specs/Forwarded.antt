-- What a run that was done to its end has done.
use Rattle.std.specs.Prelude.{◌≡◌, ℕ, ◌+◌, ◌-◌, ◌≤◌, max, Bool, true, false, List, ◌++◌, length, filter, Some}
use Rattle.gw_depot.specs.Files.{Files}
use Rattle.gw_config.specs.Config.{Configuration}
use Rattle.gw_law.specs.Lawful.{Lawful}
use Rattle.hub_core.specs.declared.record.DestRecord.{DestRecord}
use Rattle.hub_core.specs.declared.record.DestResult.{DestResult}
use Rattle.hub_core.specs.declared.record.DestResult.TheVariants.{Sent, SourceEnded, BsTimeout, FcOverflow, InvalidFs, CsTimeout, AsTimeout, Cancelled as SendCancelled, RunEnd as SendRunEnd}
use Rattle.hub_core.specs.declared.record.SessionRecord.{SessionRecord}
use Rattle.hub_core.specs.declared.record.SessionResult.{SessionResult}
use Rattle.hub_core.specs.declared.record.SessionResult.TheVariants.{Whole, Overflow, WrongSn, RxTimeout, Restarted, NoRoom, WaitOver, NoReaders, Cancelled, RunEnd}
use Rattle.session_report.specs.Lines.{report_text}
use Rattle.session_report.specs.declared.report.Report.{Report}
use Rattle.candump_log.specs.declared.log.Stamped.{Stamped}
use Rattle.gw_run.specs.declared.machines.Machines.{Machines}
use Rattle.gw_run.specs.declared.status.Summary.{Summary}
use Rattle.gw_run.specs.declared.status.Status.{Status}
use Rattle.gw_run.specs.declared.status.Status.TheVariants.{Ok, Accepted, Usage, ConfigRefused, LogRefused, Unbuilt, ReadFault, WriteFault, Memory, Limit}
use Rattle.gw_run.specs.Config.{ReadsConfig}
use Rattle.gw_run.specs.Frames.{greatest_tick}
use Rattle.gw_run.specs.Log.{IsLogOfBus}
use Rattle.gw_run.specs.Output.{IsLogWhereDated, output_text}
use Rattle.gw_run.specs.Played.{Told, account_of}
use Rattle.gw_run.specs.Results.{HasBegun, HasResults}
use Rattle.gw_run.specs.Setup.{AreMachinesOf, Bus, IsBuiltConfig, Setup}
use Rattle.gw_run.specs.Start.{IsStart, stamps_of}

-- the bus's log is there, and is so many lines with these frames; the lines are at most so many as there may be
pub record HoldsLog (files : Files) (bus : Bus) (most count : ℕ) (frames : List Stamped) : Type 0 where
  pub content : List ℕ
  pub there : files bus.log ≡ Some content
  pub is_log : IsLogOfBus bus content count frames
  pub few : count ≤ most

-- each line of both logs is taken, and they have at most a million lines together
pub record HoldsLogs (files : Files) (setup : Setup) (source destination : List Stamped) : Type 0 where
  pub source_lines : ℕ
  pub source_log : HoldsLog files setup.source 1_000_000 source_lines source
  pub destination_lines : ℕ
  pub destination_log : HoldsLog files setup.destination (1_000_000 - source_lines) destination_lines destination

-- the configuration's file spells one that is accepted and built, and this is what it leaves free
pub record IsConfigured (files : Files) (config report : List ℕ) (setup : Setup) : Type 0 where
  pub c : Configuration
  pub reads : ReadsConfig files config (Some report) c
  pub built : IsBuiltConfig c setup

-- the last tick of a run: the last input frame's, and those that it goes on
abbrev pub last_of : Setup → (start : ℕ) → (source destination : List Stamped) → ℕ
last_of setup start source destination = max (greatest_tick start setup.period source) (greatest_tick start setup.period destination) + setup.linger

-- the run begins at the least stamp of both logs, and has at most ten million ticks
pub record HasLawfulTicks (setup : Setup) (source destination : List Stamped) (start : ℕ) : Type 0 where
  pub begins : IsStart (stamps_of source ++ stamps_of destination) start
  pub in_time : last_of setup start source destination + 1 ≤ 10_000_000

-- all that the command names is built, and within the limits
pub record IsBuilt (files : Files) (config report : List ℕ) (setup : Setup) (source destination : List Stamped) (start : ℕ) : Type 0 where
  pub configured : IsConfigured files config report setup
  pub logs : HoldsLogs files setup source destination
  pub ticks : HasLawfulTicks setup source destination start

-- what a run over the frames of both logs has sent and tells: the laws hold of it
pub record Tells (setup : Setup) (source destination : List Stamped) (start : ℕ) (told : Told) : Type 0 where
  pub machines : Machines
  pub are : AreMachinesOf setup machines
  pub lawful : Lawful (account_of machines start setup.period (last_of setup start source destination) source destination told)
  pub start_is : told.report.clock.start.0 ≡ start
  pub period_is : told.report.clock.period ≡ setup.period
  pub buffers : told.report.pool.buffers ≡ 1

-- a session that was received whole
abbrev pub is_whole : SessionResult → Bool
is_whole Whole = true
is_whole (Overflow change free need) = false
is_whole (WrongSn want got) = false
is_whole (RxTimeout limit) = false
is_whole Restarted = false
is_whole (NoRoom room need) = false
is_whole WaitOver = false
is_whole NoReaders = false
is_whole Cancelled = false
is_whole (RunEnd wait since) = false

-- a destination that was sent whole
abbrev pub is_sent : DestResult → Bool
is_sent Sent = true
is_sent SourceEnded = false
is_sent BsTimeout = false
is_sent FcOverflow = false
is_sent (InvalidFs status) = false
is_sent (CsTimeout seen) = false
is_sent AsTimeout = false
is_sent SendCancelled = false
is_sent (SendRunEnd wait since) = false

-- the numbers of the report's records
pub record Counts (report : Report) (summary : Summary) : Type 0 where
  pub sessions : summary.sessions ≡ length report.sessions
  pub whole : summary.whole ≡ length (filter (λ (told : SessionRecord). is_whole told.result) report.sessions)
  pub dests : summary.dests ≡ length report.dests
  pub sent : summary.sent ≡ length (filter (λ (told : DestRecord). is_sent told.result) report.dests)
  pub moves : summary.moves ≡ length report.moves

-- a run over the two logs was done: its outputs and its report say what it sent and tells, and no other file changed
pub record Forwards (before after : Files) (config report : List ℕ) (summary : Summary) : Type 0 where
  pub setup : Setup
  pub source : List Stamped
  pub destination : List Stamped
  pub start : ℕ
  pub built : IsBuilt before config report setup source destination start
  pub told : Told
  pub tells : Tells setup source destination start told
  pub left : HasResults before after setup (output_text start setup.period setup.source.interface told.controls) (output_text start setup.period setup.destination.interface told.frames) report (report_text told.report)
  pub counted : Counts told.report summary
  -- each output can be read in one way only, as a log of just the frames that left
  pub source_log : IsLogWhereDated start setup.period setup.source.interface setup.source.fd told.controls
  pub log : IsLogWhereDated start setup.period setup.destination.interface setup.destination.fd told.frames

-- such a run has begun: the outputs and the report are beginnings of those that it leaves
pub record BeginsToForward (before after : Files) (config report : List ℕ) : Type 0 where
  pub setup : Setup
  pub source : List Stamped
  pub destination : List Stamped
  pub start : ℕ
  pub built : IsBuilt before config report setup source destination start
  pub told : Told
  pub tells : Tells setup source destination start told
  pub left : HasBegun before after setup (output_text start setup.period setup.source.interface told.controls) (output_text start setup.period setup.destination.interface told.frames) report (report_text told.report)

-- the fact holds of the summary, where the run was done to its end; a check has none
abbrev pub IfDone : Status → (Summary → Type 0) → Type 0
IfDone (Ok summary) P = P summary
IfDone Accepted P = ⊥
IfDone Usage P = Unit {0}
IfDone (ConfigRefused cause) P = Unit {0}
IfDone (LogRefused bus line fault) P = Unit {0}
IfDone (Unbuilt form) P = Unit {0}
IfDone (ReadFault role) P = Unit {0}
IfDone (WriteFault role) P = Unit {0}
IfDone Memory P = Unit {0}
IfDone (Limit which value) P = Unit {0}
