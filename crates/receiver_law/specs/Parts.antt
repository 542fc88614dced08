-- What a receiver does in a tick: the frames that came, its timer, and its flow control that leaves.
use Rattle.std.specs.Prelude.{◌≡◌, ℕ, ◌+◌, ◌≤◌, Option, Some, None, List, [], ◌∷◌, ◌++◌, length}
use Rattle.std.specs.List.{AllByRecursion}
use Rattle.hub_core.specs.View.{View, Event, Asked, Session, grows, session_at}
use Rattle.tp_receiver.specs.Runs.{control_after}
use Rattle.tp_receiver.specs.State.{RxEvent, Came, Timer, FcLeft, RunEnd, RxTurn}
use Rattle.tp_unit.specs.Unit.{Meaning}

-- a turn in which a frame of that tick came
abbrev pub CameIn : ℕ → RxEvent → ℕ → Type 0
CameIn tick (Came size meaning) at = at ≡ tick
CameIn tick Timer at = ⊥
CameIn tick FcLeft at = ⊥
CameIn tick RunEnd at = ⊥

-- what lies in the box leaves in that tick, and where nothing does nothing leaves
abbrev pub ControlLeaves : ℕ → Option Meaning → List RxTurn → Type 0
ControlLeaves tick None turns = turns ≡ []
ControlLeaves tick (Some meaning) [] = ⊥
ControlLeaves tick (Some meaning) (turn ∷ more) = (turn.event ≡ FcLeft) × (turn.did.tick ≡ tick) × (more ≡ [])

-- the receiver's part of a tick: the frames that came, the timer, and its flow control that leaves
pub record ReceivesIn (tick : ℕ) (earlier turns : List RxTurn) : Type 0 where
  pub came : List RxTurn
  pub timer : RxTurn
  pub left : List RxTurn
  pub turns_are : turns ≡ left ++ timer ∷ came
  pub came_only : AllByRecursion (λ (turn : RxTurn). CameIn tick turn.event turn.did.tick) came
  pub timer_is : timer.event ≡ Timer
  pub timer_tick : timer.did.tick ≡ tick
  pub left_is : ControlLeaves tick (control_after (timer ∷ (came ++ earlier))) left

-- each look at the room, among some calls from this view on, counts all of the session's buffer but the cells that were put
abbrev pub LooksCount : View → List Event → Type 0
LooksCount v calls = (before after : List Event) (path seq cells readers : ℕ) (s : Session) → calls ≡ before ++ Asked path seq cells readers ∷ after → session_at (grows before v) path seq ≡ Some s → s.size ≤ cells + length s.cells

-- the receiver is told in that tick that the run ends
abbrev pub EndsReceiving : ℕ → List RxTurn → Type 0
EndsReceiving last [] = ⊥
EndsReceiving last (turn ∷ more) = (turn.event ≡ RunEnd) × (turn.did.tick ≡ last) × (more ≡ [])
