-- The work of a bus in a tick, as a whole.
use Rattle.std.specs.Prelude.{◌≡◌, ◌+◌, ◌*◌, ◌≤◌, ℕ, List, ◌++◌, length}
use Rattle.can_frame.specs.Frame.{CanFrame}
use Rattle.hub_core.specs.Stays.{PortState}
use Rattle.tp_sender.specs.Runs.{clear_from}
use Rattle.tx_mailbox.specs.Boxes.{IsEmitted, Pending, content}
use Rattle.bus_worker.specs.Acts.{Act, sent_at}
use Rattle.bus_worker.specs.Did.{Did}
use Rattle.bus_worker.specs.Emission.{AreLeaving, all_sent_in}
use Rattle.bus_worker.specs.Hearing.{AreHeard}
use Rattle.bus_worker.specs.Phases.{AreTimers, AreTurns, Rests}
use Rattle.bus_worker.specs.Stands.{LieThere}
use Rattle.bus_worker.specs.declared.worker.Worker.{Worker}

-- the acts of a tick after some acts, the newest first
abbrev pub acts_of : (came timers turns left acts : List Act) → List Act
acts_of came timers turns left acts = left ++ (turns ++ (timers ++ (came ++ acts)))

-- in a tick the frames came, then each receiver was told that the tick is over, then each sender took its turn, and then of what lay
-- in the boxes at most a budget of frames left, by arbitration, and their machines were told; after it no frame of a sender is younger
pub record TickIsDone {Home : Type 0} (tick : ℕ) (frames : List CanFrame) (acts : List Act) (v w : Worker) (old new : PortState Home) : Type 0 where
  pub came : List Act
  pub timers : List Act
  pub turns : List Act
  pub left : List Act
  pub at : Rests tick (acts_of came timers turns left acts) w new
  pub did : Did (length frames) (9 * length frames) (left ++ (turns ++ (timers ++ came))) v w old new
  pub heard : AreHeard tick v.routes.items v.channels.items frames came
  pub timed : AreTimers tick (length v.channels.items) v.channels.items timers
  pub turned : AreTurns tick (length v.channels.items) v.channels.items turns
  pub before : List Pending
  pub lay : LieThere (turns ++ (timers ++ (came ++ acts))) v.channels.items (λ number. content number before)
  pub out : List Pending
  pub after : List Pending
  pub emitted : IsEmitted v.budget before out after
  pub told : AreLeaving tick out left
  pub sent : w.sent ≡ v.sent ++ all_sent_in tick out
  pub clear : (place : ℕ) → clear_from (sent_at place (acts_of came timers turns left acts)) ≤ tick + 1

-- whatever was done before, as long as no frame of a sender left in the tick
abbrev pub WorksTick : {Home : Type 0} → (tick : ℕ) → List CanFrame → (v w : Worker) → (old new : PortState Home) → Type 0
WorksTick tick frames v w old new = (since : ℕ) (acts : List Act) → since ≤ tick → Rests since acts v old → ((place : ℕ) → clear_from (sent_at place acts) ≤ tick) → TickIsDone tick frames acts v w old new
