-- How a unit is written as a frame: the address, the protocol control information of ISO 15765-2, the bytes, the filling.
use Rattle.std.specs.Prelude.{ℕ, ◌+◌, ◌-◌, ◌/◌, ◌%◌, ◌&&◌, nat_le, if◌then◌else◌, max, List, [], ◌∷◌, ◌++◌, length, replicate}
use Rattle.std.specs.Int.{w32, to_be_bytes}
use Rattle.can_frame.specs.Frame.{CanFrame}
use Rattle.can_frame.specs.Length.{least_fd_length}
use Rattle.tp_unit.specs.declared.shape.Shape.{Shape}
use Rattle.tp_unit.specs.Shape.{address_of, address_size}
use Rattle.tp_unit.specs.Unit.{Meaning, SingleFrame, FirstFrame, ConsecutiveFrame, FlowControl, NoUnit}

-- the protocol control information of a single frame: the length in the lower nibble where it is short, else in the next byte
abbrev pub single_control_of : Shape → ℕ → List ℕ
single_control_of shape len = if nat_le len (7 - address_size shape) then len ∷ [] else 0 ∷ len ∷ []

-- the protocol control information of a first frame: the length in 12 bits where it is short, else these 0 and the length in 32 bits
abbrev pub first_control_of : ℕ → List ℕ
first_control_of len = if nat_le len 4095 then (16 + len / 256) ∷ len % 256 ∷ [] else 16 ∷ 0 ∷ to_be_bytes w32 len

-- the protocol control information: the kind in the upper nibble, then a length, a sequence number, or a flow status with its two bytes
abbrev pub control_of : Shape → Meaning → List ℕ
control_of shape (SingleFrame bytes) = single_control_of shape (length bytes)
control_of shape (FirstFrame len bytes) = first_control_of len
control_of shape (ConsecutiveFrame number bytes) = (32 + number) ∷ []
control_of shape (FlowControl status block_size separation) = (48 + status) ∷ block_size ∷ separation ∷ []
control_of shape (NoUnit why) = []

-- the bytes of the message in a unit
abbrev pub data_of : Meaning → List ℕ
data_of (SingleFrame bytes) = bytes
data_of (FirstFrame len bytes) = bytes
data_of (ConsecutiveFrame number bytes) = bytes
data_of (FlowControl status block_size separation) = []
data_of (NoUnit why) = []

-- the bytes of the frame before it is filled
abbrev pub unfilled : Shape → Meaning → List ℕ
unfilled shape unit = address_of shape ++ control_of shape unit ++ data_of unit

-- the length that a frame of so many bytes is filled up to: 8 with padding, and for FD the least lawful one
abbrev pub filled_length : Shape → ℕ → ℕ
filled_length shape len =
    let padded = if shape.pad then max 8 len else len in
    if shape.fd then least_fd_length padded else padded

-- the fill bytes after so many bytes
abbrev pub fill_of : Shape → ℕ → List ℕ
fill_of shape len = replicate (filled_length shape len - len) shape.fill

-- the frame of a unit
abbrev pub frame_of : Shape → Meaning → CanFrame
frame_of shape unit = record {
  id = shape.id;
  fd = shape.fd;
  brs = shape.fd && shape.brs;
  bytes = unfilled shape unit ++ fill_of shape (length (unfilled shape unit));
}

-- what a written frame is read as: the unit, where in a consecutive frame the fill bytes follow
abbrev pub read_back : Shape → Meaning → Meaning
read_back shape (SingleFrame bytes) = SingleFrame bytes
read_back shape (FirstFrame len bytes) = FirstFrame len bytes
read_back shape (ConsecutiveFrame number bytes) =
    ConsecutiveFrame number (bytes ++ fill_of shape (length (unfilled shape (ConsecutiveFrame number bytes))))
read_back shape (FlowControl status block_size separation) = FlowControl status block_size separation
read_back shape (NoUnit why) = NoUnit why
