-- A box that a channel's frame lies in until it leaves, the frames that left, and the flow controls that came.
use Rattle.std.specs.Prelude.{◌≡◌, ℕ, ◌≤◌, ◌==◌, Bool, true, false, Option, Some, None, List, [], ◌∷◌, filter, length}
use Rattle.can_frame.specs.Frame.{CanFrame}
use Rattle.tp_unit.specs.Unit.{Meaning, SingleFrame, FirstFrame, ConsecutiveFrame, FlowControl, NoUnit, BoxMeaning, Keeps, Offers, Revokes}
use Rattle.tp_unit.specs.Writing.{frame_of}
use Rattle.tp_unit.specs.declared.shape.Shape.{Shape}

-- a frame that left, with its tick
pub record Written : Type 0 where
  pub tick : ℕ
  pub frame : CanFrame

-- a flow control that came, with its tick
pub record Answer : Type 0 where
  pub tick : ℕ
  pub status : ℕ
  pub block_size : ℕ
  pub separation : ℕ

-- what lies in a box after an act: it keeps what lay there, puts a frame in its place, or takes it out
abbrev pub box_then : BoxMeaning → Option Meaning → Option Meaning
box_then Keeps lies = lies
box_then (Offers meaning) lies = Some meaning
box_then Revokes lies = None

-- the frame that leaves in that tick where this lies in the box, written in the channel's shape
abbrev pub written_of : Shape → ℕ → Option Meaning → List Written
written_of shape tick None = []
written_of shape tick (Some meaning) = record { tick = tick; frame = frame_of shape meaning } ∷ []

-- what lies in a box leaves in that tick, by a turn that says so, or its bus is full for it; where nothing lies nothing leaves
pub data Leaves {T : Type 0} (IsLeft : T → Type 0) (full : ℕ → Bool) (tick : ℕ) (lies : Option Meaning) (left : List T) : Type 0 where
  Nothing : lies ≡ None → left ≡ [] → Leaves IsLeft full tick lies left
  Went : (meaning : Meaning) → (turn : T) → lies ≡ Some meaning → left ≡ turn ∷ [] → IsLeft turn → Leaves IsLeft full tick lies left
  Stays : (meaning : Meaning) → lies ≡ Some meaning → left ≡ [] → full tick ≡ true → Leaves IsLeft full tick lies left

-- a bus always has a place for a frame of a channel
abbrev pub IsNeverFull : (full : ℕ → Bool) → Type 0
IsNeverFull full = (tick : ℕ) → full tick ≡ false

-- the frames that left in that tick
abbrev pub left_in : ℕ → List Written → List Written
left_in tick written = filter (λ (w : Written). w.tick == tick) written

-- the ticks never fall, and begin at this one or later
abbrev pub NeverFall : ℕ → List Written → Type 0
NeverFall tick [] = Unit {0}
NeverFall tick (w ∷ later) = (tick ≤ w.tick) × NeverFall w.tick later

-- in that tick a bus sent as many frames as it may, so that what waited in a box couldn't leave
abbrev pub IsFull : List Written → (budget tick : ℕ) → Type 0
IsFull written budget tick = length (left_in tick written) ≡ budget

-- a frame that is neither a start nor a consecutive frame
abbrev pub IsNoData : Meaning → Type 0
IsNoData (SingleFrame bytes) = ⊥
IsNoData (FirstFrame len bytes) = ⊥
IsNoData (ConsecutiveFrame number bytes) = ⊥
IsNoData (FlowControl status block_size separation) = Unit {0}
IsNoData (NoUnit why) = Unit {0}
