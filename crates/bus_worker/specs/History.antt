-- What a bus did, tick by tick: the frames that came, what its machines did, and the frames that left.
use Rattle.std.specs.Prelude.{◌≡◌, ◌⊎◌, ℕ, ◌+◌, ◌≤◌, Some, List, [], ◌∷◌, ◌++◌, length, map}
use Rattle.can_frame.specs.Frame.{CanFrame}
use Rattle.receiver_law.specs.RxRun.{IsRxIdle}
use Rattle.sender_law.specs.Runs.{IsTxIdle}
use Rattle.tp_receiver.specs.declared.set.RxSet.{RxSet}
use Rattle.tp_sender.specs.declared.set.TxSet.{TxSet}
use Rattle.tp_unit.specs.Box.{Written}
use Rattle.tp_unit.specs.declared.shape.Shape.{Shape}
use Rattle.tx_mailbox.specs.Boxes.{IsEmitted, Pending, content}
use Rattle.gw_law.specs.Channels.{InTick}
use Rattle.bus_worker.specs.Acts.{Act, received_at, sent_at}
use Rattle.bus_worker.specs.Emission.{AreLeaving, all_sent_in}
use Rattle.bus_worker.specs.Hearing.{AreHeard}
use Rattle.bus_worker.specs.Phases.{AreTimers, AreTurns}
use Rattle.bus_worker.specs.Stands.{LieThere, receives_at, sends_at}
use Rattle.bus_worker.specs.Tick.{acts_of}
use Rattle.bus_worker.specs.declared.channel.Channel.{Channel}
use Rattle.bus_worker.specs.declared.comes.Comes.{Comes}

-- a tick of a bus: the frames that came, in order, the acts of its four phases, each the newest first, and the frames that left, in order
pub record BusTick : Type 0 where
  pub tick : ℕ
  pub frames : List CanFrame
  pub came : List Act
  pub timers : List Act
  pub turns : List Act
  pub out : List Pending
  pub left : List Act

-- of ticks, the newest first: all acts after some others, the frames that came and those that left, each with its tick, the oldest first
abbrev pub acts_after : List BusTick → List Act → List Act
acts_after [] acts = acts
acts_after (t ∷ earlier) acts = acts_of t.came t.timers t.turns t.left (acts_after earlier acts)

abbrev pub acts_in : List BusTick → List Act
acts_in ticks = acts_after ticks []

abbrev pub all_came_in : (tick : ℕ) → List CanFrame → List InTick
all_came_in tick frames = map (λ frame. let f : InTick = record { tick = tick; frame = frame } in f) frames

abbrev pub came_in : List BusTick → List InTick
came_in [] = []
came_in (t ∷ earlier) = came_in earlier ++ all_came_in t.tick t.frames

abbrev pub left_in : List BusTick → List Written
left_in [] = []
left_in (t ∷ earlier) = left_in earlier ++ all_sent_in t.tick t.out

-- the tick after the last one, the first one where there is none
abbrev pub next_tick : (first : ℕ) → List BusTick → ℕ
next_tick first [] = first
next_tick first (t ∷ earlier) = t.tick + 1

-- the tick of the last one, and where there is none the tick in which something was done before
abbrev pub last_tick : (since : ℕ) → List BusTick → ℕ
last_tick since [] = since
last_tick since (t ∷ earlier) = t.tick

-- in a tick, after these acts, the frames came; then each receiver was told that the tick is over, and each sender took its turn; then of
-- what lay in the boxes at most a budget of frames left, by arbitration, and their machines were told
pub record IsBusTick (budget : ℕ) (routes : List Comes) (channels : List Channel) (earlier : List Act) (t : BusTick) : Type 0 where
  pub heard : AreHeard t.tick routes channels t.frames t.came
  pub timed : AreTimers t.tick (length channels) channels t.timers
  pub turned : AreTurns t.tick (length channels) channels t.turns
  pub before : List Pending
  pub lay : LieThere (t.turns ++ (t.timers ++ (t.came ++ earlier))) channels (λ number. content number before)
  pub after : List Pending
  pub emitted : IsEmitted budget before t.out after
  pub told : AreLeaving t.tick t.out t.left

-- so is each tick, after some acts
abbrev pub AreBusTicks : (budget : ℕ) → List Comes → List Channel → List Act → List BusTick → Type 0
AreBusTicks budget routes channels acts [] = Unit {0}
AreBusTicks budget routes channels acts (t ∷ earlier) = IsBusTick budget routes channels (acts_after earlier acts) t × AreBusTicks budget routes channels acts earlier

-- the ticks follow one another from the first one on
abbrev pub AreInRow : (first : ℕ) → List BusTick → Type 0
AreInRow first [] = Unit {0}
AreInRow first (t ∷ earlier) = (t.tick ≡ next_tick first earlier) × AreInRow first earlier

-- after these acts no machine of the bus has anything to do, and nothing lies in a box
pub record IsIdle (channels : List Channel) (acts : List Act) : Type 0 where
  pub receivers : (place : ℕ) (one : RxSet × Shape) → receives_at channels place ≡ Some one → IsRxIdle (received_at place acts)
  pub senders : (place : ℕ) (one : TxSet) → sends_at channels place ≡ Some one → IsTxIdle (sent_at place acts)

-- the ticks rise from 0, and none is left out but where the bus is idle
abbrev pub Follow : List Channel → List BusTick → Type 0
Follow channels [] = Unit {0}
Follow channels (t ∷ earlier) = (next_tick 0 earlier ≤ t.tick) × (IsIdle channels (acts_in earlier) ⊎ (t.tick ≡ next_tick 0 earlier)) × Follow channels earlier
