-- Which frames of a bus are a channel's: those that come to it, and those that leave for it.
use Rattle.std.specs.Prelude.{ℕ, ◌==◌, ◌&&◌, Bool, true, false, Option, Some, None, List, [], ◌∷◌, filter, flat_map, map}
use Rattle.can_frame.specs.Frame.{CanFrame}
use Rattle.can_frame.specs.declared.id.CanId.{CanId}
use Rattle.can_frame.specs.declared.id.CanId.TheVariants.{Std, Ext}
use Rattle.tp_attempts.specs.Seen.{Seen, is_data, seen_frame}
use Rattle.tp_unit.specs.Box.{Answer, Written}
use Rattle.tp_unit.specs.Reading.{unit_of}
use Rattle.tp_unit.specs.Shape.{address_size}
use Rattle.tp_unit.specs.Unit.{Meaning, SingleFrame, FirstFrame, ConsecutiveFrame, FlowControl, NoUnit}
use Rattle.tp_unit.specs.declared.shape.Shape.{Shape}
use Rattle.gw_law.specs.Plan.{Address}

-- a frame of a log, with its tick
pub record InTick : Type 0 where
  pub tick : ℕ
  pub frame : CanFrame

-- the same identifier, in the same format
abbrev pub is_same_id : CanId → CanId → Bool
is_same_id (Std one) (Std other) = one == other
is_same_id (Std one) (Ext other) = false
is_same_id (Ext one) (Std other) = false
is_same_id (Ext one) (Ext other) = one == other

-- where a channel has an address byte, it stands first
abbrev pub begins_with : Option ℕ → List ℕ → Bool
begins_with None bytes = true
begins_with (Some byte) [] = false
begins_with (Some byte) (first ∷ rest) = first == byte

-- a frame is one of a channel
abbrev pub is_addressed : Address → CanFrame → Bool
is_addressed address frame = begins_with address.byte frame.bytes && is_same_id address.id frame.id

abbrev pub frames_for : Address → List InTick → List InTick
frames_for address frames = filter (λ (f : InTick). is_addressed address f.frame) frames

-- the address bytes of a channel's frames: one or none
abbrev pub bytes_of_address : Option ℕ → ℕ
bytes_of_address None = 0
bytes_of_address (Some byte) = 1

-- the frames of a channel with so many address bytes, as reassembly sees them
abbrev pub seen_in : ℕ → List InTick → List Seen
seen_in address frames = map (λ (f : InTick). seen_frame address f.tick f.frame) frames

-- the flow control that a frame is
abbrev pub answer_in : ℕ → Meaning → List Answer
answer_in tick (SingleFrame bytes) = []
answer_in tick (FirstFrame len bytes) = []
answer_in tick (ConsecutiveFrame number bytes) = []
answer_in tick (FlowControl status block_size separation) = record { tick = tick; status = status; block_size = block_size; separation = separation } ∷ []
answer_in tick (NoUnit why) = []

-- the flow controls among the frames of a channel
abbrev pub answers_in : ℕ → List InTick → List Answer
answers_in address frames = flat_map (λ (f : InTick). answer_in f.tick (unit_of address f.frame)) frames

-- the frames that leave on a channel of that shape have its identifier and its address byte
abbrev pub address_in : Shape → Address
address_in shape = record { id = shape.id; byte = shape.address }

-- a flow control
abbrev pub is_control : Meaning → Bool
is_control (SingleFrame bytes) = false
is_control (FirstFrame len bytes) = false
is_control (ConsecutiveFrame number bytes) = false
is_control (FlowControl status block_size separation) = true
is_control (NoUnit why) = false

-- among the frames that left on a bus, the flow controls of a channel, and its data frames
abbrev pub controls_of : Shape → List Written → List Written
controls_of shape left = filter (λ (w : Written). is_addressed (address_in shape) w.frame && is_control (unit_of (address_size shape) w.frame)) left

abbrev pub data_of : Shape → List Written → List Written
data_of shape left = filter (λ (w : Written). is_addressed (address_in shape) w.frame && is_data (unit_of (address_size shape) w.frame)) left
