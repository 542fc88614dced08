-- When a transmission's next consecutive frame may leave, by the frames that left and the flow controls that came (ISO 15765-2, flow control).
use Rattle.std.specs.Prelude.{ℕ, ◌+◌, ◌≤◌, nat_le, if◌then◌else◌, zero, suc, Option, Some, None, List, [], ◌∷◌, filter, fold}

-- a flow control that came: its tick, its status, its block size in frames, and the ticks between two frames that it asks for
pub record Control : Type 0 where
  pub tick : ℕ
  pub status : ℕ
  pub block : ℕ
  pub gap : ℕ

-- what a transmission of which a first frame left is at
pub data Pace : Type 0 where
  -- a flow control is awaited: a frame left in tick `left`, and nothing came since tick `since` that asks to wait
  Awaits : (left since : ℕ) → Pace
  -- the next frame may leave from that tick on; so many may leave before a flow control is awaited again, or all that remain
  May : (from gap : ℕ) → (more : Option ℕ) → Pace
  -- a flow control of that tick refused the message
  Refused : (tick status : ℕ) → Pace

-- how many frames a block size lets leave: 0 sets no limit
abbrev pub block_of : ℕ → Option ℕ
block_of zero = None
block_of (suc frames) = Some (suc frames)

-- a flow control where one is awaited, by its status
abbrev pub answered_by : Control → (left : ℕ) → (status : ℕ) → Pace
answered_by control left zero = May control.tick control.gap (block_of control.block)
answered_by control left (suc zero) = Awaits left control.tick
answered_by control left (suc (suc status)) = Refused control.tick (suc (suc status))

-- a flow control counts where one is awaited, and comes in a later tick than the frame before
abbrev pub answered : Pace → Control → Pace
answered (Awaits left since) control = if nat_le control.tick left then Awaits left since else answered_by control left control.status
answered (May from gap more) control = May from gap more
answered (Refused tick status) control = Refused tick status

-- so do several, in their order
abbrev pub answered_all : Pace → List Control → Pace
answered_all pace controls = fold answered pace controls

-- a frame that leaves in a tick: the next one may leave after the gap, or the block is over
abbrev pub gone_on : Pace → (tick : ℕ) → Pace
gone_on (Awaits left since) tick = Awaits left since
gone_on (May from gap None) tick = May (tick + gap) gap None
gone_on (May from gap (Some zero)) tick = Awaits tick tick
gone_on (May from gap (Some (suc zero))) tick = Awaits tick tick
gone_on (May from gap (Some (suc (suc more)))) tick = May (tick + gap) gap (Some (suc more))
gone_on (Refused at status) tick = Refused at status

-- the flow controls that came up to a tick
abbrev pub came_to : (tick : ℕ) → List Control → List Control
came_to tick controls = filter (λ (control : Control). nat_le control.tick tick) controls

-- what a transmission is at after these consecutive frames, by their ticks, each after the flow controls that came up to it
abbrev pub after_frames : List Control → Pace → List ℕ → Pace
after_frames controls pace [] = pace
after_frames controls pace (tick ∷ later) = after_frames controls (gone_on (answered_all pace (came_to tick controls)) tick) later

-- what a transmission whose first frame left in tick `first` is at in a tick, once these consecutive frames left
abbrev pub pace_once : (tick first : ℕ) → List Control → (frames : List ℕ) → Pace
pace_once tick first controls frames = answered_all (after_frames controls (Awaits first first) frames) (came_to tick controls)

-- and in a tick, after the frames that left up to it
abbrev pub pace_in : (tick first : ℕ) → List Control → (frames : List ℕ) → Pace
pace_in tick first controls frames = pace_once tick first controls (filter (λ at. nat_le at tick) frames)

-- the next frame may leave in that tick
abbrev pub MayLeave : Pace → (tick : ℕ) → Type 0
MayLeave (Awaits left since) tick = ⊥
MayLeave (May from gap more) tick = from ≤ tick
MayLeave (Refused at status) tick = ⊥

-- each of these frames may leave in its tick
abbrev pub ArePacedFrom : List Control → Pace → List ℕ → Type 0
ArePacedFrom controls pace [] = Unit {0}
ArePacedFrom controls pace (tick ∷ later) = MayLeave (answered_all pace (came_to tick controls)) tick × ArePacedFrom controls (gone_on (answered_all pace (came_to tick controls)) tick) later

-- a transmission whose first frame left in that tick, and whose consecutive frames left in these, is paced by these flow controls
abbrev pub IsPaced : List Control → (first : ℕ) → List ℕ → Type 0
IsPaced controls first frames = ArePacedFrom controls (Awaits first first) frames
