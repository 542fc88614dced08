-- What a run over the frames of two logs has sent and tells.
use Rattle.std.specs.Prelude.{◌≡◌, ℕ, zero, suc, List, [], ◌∷◌}
use Rattle.candump_log.specs.declared.log.Stamped.{Stamped}
use Rattle.gw_law.specs.Account.{Account}
use Rattle.gw_law.specs.Plan.{Plan, Receiving, Sending}
use Rattle.session_report.specs.declared.report.Report.{Report}
use Rattle.tick_clock.specs.declared.clock.Clock.{Clock}
use Rattle.tp_attempts.specs.Seen.{Seen}
use Rattle.tp_unit.specs.Box.{Answer, Written}
use Rattle.gw_run.specs.Frames.{address_of, answers_for, in_ticks, seen_for}
use Rattle.gw_run.specs.Works.{IsSerialRun, RunTold, Work, told_by}
use Rattle.gw_run.specs.declared.machines.Machines.{Machines}

-- what was sent on the two buses, and the report
pub record Told : Type 0 where
  pub controls : List Written
  pub frames : List Written
  pub report : Report

-- by bus: that of the source's bus, that of the destination's bus, and nothing of others
abbrev pub by_bus : {A : Type 0} → (source destination other : A) → ℕ → A
by_bus source destination other zero = source
by_bus source destination other (suc zero) = destination
by_bus source destination other (suc (suc bus)) = other

-- the one source channel, and the one destination of its path
abbrev pub receiving_of : Machines → Receiving
receiving_of m = record { set = m.rx; comes = address_of m.source; shape = m.shape; bus = 0 }

abbrev pub sending_of : Machines → Sending
sending_of m = record { set = m.tx; comes = address_of m.destination; bus = 1 }

-- the run's plan: windows of one tick, and one group of one buffer
abbrev pub plan_of : Machines → (last : ℕ) → Plan
plan_of m last = record { receivers = receiving_of m ∷ []; senders = sending_of m ∷ []; budget = by_bus m.source_budget m.destination_budget 1; groups = (m.cells ∷ []) ∷ []; window = 1; last = last }

-- what is told of the run: the frames of both logs, and what was sent and reported
abbrev pub account_of : Machines → (start period last : ℕ) → (source destination : List Stamped) → Told → Account
account_of m start period last source destination told = record {
  plan = plan_of m last;
  came = by_bus (in_ticks start period source) (in_ticks start period destination) [];
  left = by_bus told.controls told.frames [];
  sessions = told.report.sessions;
  dests = told.report.dests;
  moves = told.report.moves;
  counts = λ group. told.report.pool.changes;
  frees = λ group. told.report.pool.free;
}

-- what the machines tell, where these frames and flow controls came
abbrev pub told_with : List Seen → List Answer → Told → RunTold
told_with seen answers told = record {
  seen = seen;
  controls = told.controls;
  sessions = told.report.sessions;
  answers = answers;
  frames = told.frames;
  dests = told.report.dests;
  moves = told.report.moves;
  count = told.report.pool.changes;
  free = told.report.pool.free;
}

-- the frames of the source channel, and the flow controls of the destination's, among those of their bus's log
abbrev pub source_seen : Machines → (start period : ℕ) → List Stamped → List Seen
source_seen m start period frames = seen_for (address_of m.source) (in_ticks start period frames)

abbrev pub destination_answers : Machines → (start period : ℕ) → List Stamped → List Answer
destination_answers m start period frames = answers_for (address_of m.destination) (in_ticks start period frames)

-- the machines ran over both logs' frames, from tick 0 to the last, and this is what they tell
pub record Plays (m : Machines) (clock : Clock) (last : ℕ) (source destination : List Stamped) (told : Told) : Type 0 where
  pub ticks : List Work
  pub end : Work
  pub run : IsSerialRun m.rx m.tx (m.cells ∷ []) last told.report.pool.changes told.report.pool.free ticks end
  pub tells : told_by m.tx m.shape told.report.pool.changes told.report.pool.free ticks end ≡ told_with (source_seen m clock.start.0 clock.period source) (destination_answers m clock.start.0 clock.period destination) told
  pub clock_is : told.report.clock ≡ clock
  pub buffers : told.report.pool.buffers ≡ 1
