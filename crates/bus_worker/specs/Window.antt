-- The work of a bus in some ticks, one after another.
use Rattle.std.specs.Prelude.{◌≡◌, ◌+◌, ◌*◌, ◌≤◌, ◌==◌, Bool, ℕ, List, [], ◌∷◌, ◌++◌, drop, length, take}
use Rattle.hub_core.specs.Stays.{PortState}
use Rattle.hub_core.specs.Turns.{came_by}
use Rattle.tp_receiver.specs.Runs.{frames_in}
use Rattle.tp_sender.specs.Runs.{clear_from}
use Rattle.gw_law.specs.Channels.{InTick}
use Rattle.bus_worker.specs.Acts.{Act, received_at, sent_at}
use Rattle.bus_worker.specs.Did.{Did}
use Rattle.bus_worker.specs.History.{AreBusTicks, AreInRow, BusTick, acts_after, came_in, last_tick, left_in, next_tick}
use Rattle.bus_worker.specs.Phases.{Rests}
use Rattle.bus_worker.specs.declared.worker.Worker.{Worker}

-- the ticks of frames never fall, and begin at this one or later
abbrev pub NeverFall : (tick : ℕ) → List InTick → Type 0
NeverFall tick [] = Unit {0}
NeverFall tick (f ∷ later) = (tick ≤ f.tick) × NeverFall f.tick later

-- a frame is one of that tick
abbrev pub is_in : (tick : ℕ) → InTick → Bool
is_in tick f = f.tick == tick

-- the ticks from one to below another are done, one after another: the first so many frames came in them, and those after these are
-- of later ticks
pub record TicksAreDone {Home : Type 0} (from to count since : ℕ) (frames : List InTick) (acts : List Act) (v w : Worker) (old new : PortState Home) : Type 0 where
  pub ticks : List BusTick
  pub row : AreInRow from ticks
  pub reached : next_tick from ticks ≡ to
  pub are : AreBusTicks v.budget v.routes.items v.channels.items acts ticks
  pub at : Rests (last_tick since ticks) (acts_after ticks acts) w new
  pub did : Did count (9 * count) (acts_after ticks []) v w old new
  pub fed : came_in ticks ≡ take count frames
  pub sent : w.sent ≡ v.sent ++ left_in ticks
  -- no frame of a sender is younger, and no channel has got more frames
  pub clear : (place : ℕ) → clear_from (sent_at place (acts_after ticks acts)) ≤ to
  pub few : (place : ℕ) → length (came_by frames_in (received_at place (acts_after ticks acts))) ≤ length (came_by frames_in (received_at place acts)) + count

-- whatever was done before, as long as no frame of a sender left in these ticks
abbrev pub DoesTicks : {Home : Type 0} → (from to count : ℕ) → List InTick → (v w : Worker) → (old new : PortState Home) → Type 0
DoesTicks from to count frames v w old new = (since : ℕ) (acts : List Act) → since ≤ from → Rests since acts v old → ((place : ℕ) → clear_from (sent_at place acts) ≤ from) → TicksAreDone from to count since frames acts v w old new

-- so many of the frames came, and the others are of that tick or later ones
pub record CameBefore (to : ℕ) (frames : List InTick) (count : ℕ) : Type 0 where
  pub most : count ≤ length frames
  pub rest : NeverFall to (drop count frames)

-- the work of a window, and how many frames came in it
pub record WorksWindow {Home : Type 0} (from to : ℕ) (frames : List InTick) (count : ℕ) (v w : Worker) (old new : PortState Home) : Type 0 where
  pub came : CameBefore to frames count
  pub does : DoesTicks from to count frames v w old new
