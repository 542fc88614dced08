-- Which unit a frame is: the protocol control information of ISO 15765-2. Which frame lengths and which message
-- lengths are accepted is this project's own.
use Rattle.std.specs.Prelude.{ℕ, ◌+◌, ◌-◌, ◌*◌, ◌/◌, ◌%◌, ◌&&◌, ◌==◌, nat_le, nat_lt, if◌then◌else◌, List, [], ◌∷◌, length, take, drop, slice_index}
use Rattle.std.specs.Int.{w32, from_be_bytes}
use Rattle.can_frame.specs.Frame.{CanFrame}
use Rattle.tp_unit.specs.declared.unit.Why.TheVariants.{Short, Kind, Length}
use Rattle.tp_unit.specs.Unit.{Meaning, SingleFrame, FirstFrame, ConsecutiveFrame, FlowControl, NoUnit}

-- the upper and the lower half of the byte that stands after the address bytes
abbrev pub kind_at : ℕ → List ℕ → ℕ
kind_at address bytes = slice_index bytes address / 16

abbrev pub low_nibble_at : ℕ → List ℕ → ℕ
low_nibble_at address bytes = slice_index bytes address % 16

-- a single frame of at most 8 bytes: the nibble is its length, from 1 up to what the address leaves room for, and so many bytes follow
abbrev pub short_single_frame : ℕ → List ℕ → Meaning
short_single_frame address bytes =
    if nat_le 1 (low_nibble_at address bytes) && nat_le (low_nibble_at address bytes) (7 - address) && nat_le (low_nibble_at address bytes + 1 + address) (length bytes)
    then SingleFrame (take (low_nibble_at address bytes) (drop (address + 1) bytes))
    else NoUnit Length

-- a single frame of more than 8 bytes: the nibble is 0, the next byte is a length that the short form hasn't, and so many bytes follow
abbrev pub long_single_frame : ℕ → List ℕ → Meaning
long_single_frame address bytes =
    if low_nibble_at address bytes == 0 && nat_le (8 - address) (slice_index bytes (address + 1)) && nat_le (slice_index bytes (address + 1)) (length bytes - 2 - address)
    then SingleFrame (take (slice_index bytes (address + 1)) (drop (address + 2) bytes))
    else NoUnit Length

-- the length of a first frame in 12 bits: the nibble and the next byte
abbrev pub short_length : ℕ → List ℕ → ℕ
short_length address bytes = low_nibble_at address bytes * 256 + slice_index bytes (address + 1)

-- the length of a first frame in the 32 bits after these 12, the highest byte first
abbrev pub long_length : ℕ → List ℕ → ℕ
long_length address bytes =
    from_be_bytes w32 (slice_index bytes (address + 2) ∷ slice_index bytes (address + 3) ∷ slice_index bytes (address + 4) ∷ slice_index bytes (address + 5) ∷ [])

-- the least length that a first frame of so many bytes may have: one that no single frame of this size can carry
abbrev pub least_segmented : ℕ → ℕ → ℕ
least_segmented address size = if size == 8 then 8 - address else size - 1 - address

-- a first frame whose length is above 4095
abbrev pub long_first_frame : ℕ → List ℕ → Meaning
long_first_frame address bytes =
    if nat_lt 4095 (long_length address bytes) then FirstFrame (long_length address bytes) (drop (address + 6) bytes) else NoUnit Length

-- a first frame of at least 8 bytes: 12 bits of a length that no single frame of this size carries, or these 0 and then 32 bits of length
abbrev pub first_frame : ℕ → List ℕ → Meaning
first_frame address bytes =
    if nat_lt (length bytes) 8 then NoUnit Length
    else if short_length address bytes == 0 then long_first_frame address bytes
    else if nat_le (least_segmented address (length bytes)) (short_length address bytes)
    then FirstFrame (short_length address bytes) (drop (address + 2) bytes)
    else NoUnit Length

-- a consecutive frame: the nibble is the sequence number, and all that follows are its bytes
abbrev pub consecutive_frame : ℕ → List ℕ → Meaning
consecutive_frame address bytes = ConsecutiveFrame (low_nibble_at address bytes) (drop (address + 1) bytes)

-- a flow control: the nibble is the flow status, and the next two bytes are the block size and the separation time
abbrev pub flow_control : ℕ → List ℕ → Meaning
flow_control address bytes =
    if nat_lt (length bytes) (3 + address)
    then NoUnit Short
    else FlowControl (low_nibble_at address bytes) (slice_index bytes (address + 1)) (slice_index bytes (address + 2))

-- the unit of these bytes on a channel with so many address bytes
unfoldable pub unit_in : ℕ → List ℕ → Meaning
unit_in address bytes =
    if nat_le (length bytes) address then NoUnit Short
    else if kind_at address bytes == 0 then (if nat_le (length bytes) 8 then short_single_frame address bytes else long_single_frame address bytes)
    else if kind_at address bytes == 1 then first_frame address bytes
    else if kind_at address bytes == 2 then consecutive_frame address bytes
    else if kind_at address bytes == 3 then flow_control address bytes
    else NoUnit Kind

-- the unit of a frame on a channel with so many address bytes
abbrev pub unit_of : ℕ → CanFrame → Meaning
unit_of address frame = unit_in address frame.bytes
