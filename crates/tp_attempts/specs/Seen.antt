-- The frames of one identifier and address, as reassembly sees them.
use Rattle.std.specs.Prelude.{ℕ, ◌+◌, Bool, true, false, not, List, [], ◌∷◌, length}
use Rattle.can_frame.specs.Frame.{CanFrame}
use Rattle.tp_unit.specs.Reading.{unit_of}
use Rattle.tp_unit.specs.Unit.{Meaning, SingleFrame, FirstFrame, ConsecutiveFrame, FlowControl, NoUnit}

-- a frame: where it stands (its place in a list, or its tick), how many bytes it has, and its unit
pub record Seen : Type 0 where
  pub at : ℕ
  pub size : ℕ
  pub meaning : Meaning

-- the frame as seen where it stands, on a channel with so many address bytes
abbrev pub seen_frame : ℕ → ℕ → CanFrame → Seen
seen_frame address at frame = record { at = at; size = length frame.bytes; meaning = unit_of address frame }

-- the frames as seen, with their places from the first one's on
abbrev pub seen_from : ℕ → ℕ → List CanFrame → List Seen
seen_from address place [] = []
seen_from address place (frame ∷ frames) = seen_frame address place frame ∷ seen_from address (place + 1) frames

-- an attempt starts with a single frame or, unless the channel is functional, with a first frame
abbrev pub is_start : Bool → Meaning → Bool
is_start functional (SingleFrame bytes) = true
is_start functional (FirstFrame len bytes) = not functional
is_start functional (ConsecutiveFrame number bytes) = false
is_start functional (FlowControl status block_size separation) = false
is_start functional (NoUnit why) = false

-- the length of the message that a start announces
abbrev pub len_of : Meaning → ℕ
len_of (SingleFrame bytes) = length bytes
len_of (FirstFrame len bytes) = len
len_of (ConsecutiveFrame number bytes) = 0
len_of (FlowControl status block_size separation) = 0
len_of (NoUnit why) = 0

-- the first bytes of the message, which a start carries
abbrev pub bytes_of : Meaning → List ℕ
bytes_of (SingleFrame bytes) = bytes
bytes_of (FirstFrame len bytes) = bytes
bytes_of (ConsecutiveFrame number bytes) = []
bytes_of (FlowControl status block_size separation) = []
bytes_of (NoUnit why) = []

-- a frame that carries data: a start or a consecutive frame
abbrev pub is_data : Meaning → Bool
is_data (SingleFrame bytes) = true
is_data (FirstFrame len bytes) = true
is_data (ConsecutiveFrame number bytes) = true
is_data (FlowControl status block_size separation) = false
is_data (NoUnit why) = false

abbrev pub carries : Seen → Bool
carries seen = is_data seen.meaning
