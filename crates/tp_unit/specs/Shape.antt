-- How a channel's units become frames: the sizes, and what each frame carries.
use Rattle.std.specs.Prelude.{◌≡◌, ℕ, ◌-◌, Bool, true, false, ◌&&◌, ◌||◌, ◌==◌, nat_le, nat_lt, if◌then◌else◌, min, List, length, option_to_list}
use Rattle.can_frame.specs.Id.{id_fits}
use Rattle.can_frame.specs.Length.{length_fits}
use Rattle.tp_unit.specs.declared.shape.Shape.{Shape}
use Rattle.tp_unit.specs.declared.shape.Part.{Part}
use Rattle.tp_unit.specs.Unit.{Meaning, SingleFrame, FirstFrame, ConsecutiveFrame, FlowControl, NoUnit}

-- the most bytes of a frame may be so many: 8, 12, 16, 20, 24, 32, 48 or 64
abbrev pub is_frame_size : ℕ → Bool
is_frame_size size = nat_le 8 size && length_fits true size

-- the identifier is in range, the size is one of those, and the frames are FD frames exactly where it is above 8
pub record IsShape (shape : Shape) : Type 0 where
  pub id : id_fits shape.id ≡ true
  pub size : is_frame_size shape.dl ≡ true
  pub fd : shape.fd ≡ nat_lt 8 shape.dl

-- the address byte, where there is one, and how many there are
abbrev pub address_of : Shape → List ℕ
address_of shape = option_to_list shape.address

abbrev pub address_size : Shape → ℕ
address_size shape = length (address_of shape)

-- the most bytes of a message that a single frame carries
abbrev pub most_single : Shape → ℕ
most_single shape = if shape.dl == 8 then 7 - address_size shape else shape.dl - 2 - address_size shape

-- the bytes that the first frame of a message of this length carries
abbrev pub first_part : Shape → ℕ → ℕ
first_part shape len = if nat_le len 4095 then shape.dl - 2 - address_size shape else shape.dl - 6 - address_size shape

-- the most bytes that a consecutive frame carries
abbrev pub most_consecutive : Shape → ℕ
most_consecutive shape = shape.dl - 1 - address_size shape

-- what the start of a message of this length is and carries
abbrev pub part_of_start : Shape → ℕ → Part
part_of_start shape len =
    if nat_le len (most_single shape) then record { single = true; bytes = len } else record { single = false; bytes = first_part shape len }

-- the bytes that the next consecutive frame carries where so many remain
abbrev pub part_of_consecutive : Shape → ℕ → ℕ
part_of_consecutive shape left = min (most_consecutive shape) left

-- the unit can be written in this shape
abbrev pub fits_shape : Shape → Meaning → Bool
fits_shape shape (SingleFrame bytes) = nat_le 1 (length bytes) && nat_le (length bytes) (most_single shape)
fits_shape shape (FirstFrame len bytes) = nat_lt (most_single shape) len && nat_le len 0xFFFF_FFFF && length bytes == first_part shape len
fits_shape shape (ConsecutiveFrame number bytes) = nat_le number 15 && nat_le 1 (length bytes) && nat_le (length bytes) (most_consecutive shape)
fits_shape shape (FlowControl status block_size separation) =
    nat_le status 15 && (if status == 1 || status == 2 then block_size == 0 && separation == 0 else true)
fits_shape shape (NoUnit why) = false
