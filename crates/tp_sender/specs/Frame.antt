-- The frames of a session, one after another: what each carries and what it is (ISO 15765-2, segmentation).
use Rattle.std.specs.Prelude.{ℕ, ◌-◌, ◌==◌, if◌then◌else◌, List}
use Rattle.tp_unit.specs.declared.shape.Shape.{Shape}
use Rattle.tp_unit.specs.Shape.{part_of_start, part_of_consecutive}
use Rattle.tp_unit.specs.Unit.{Meaning, SingleFrame, FirstFrame, ConsecutiveFrame}

-- the bytes that the frame after so many sent ones carries: those of the start, then of the next consecutive frame
abbrev pub part_after : Shape → (len sent : ℕ) → ℕ
part_after shape len sent = if sent == 0 then (part_of_start shape len).bytes else part_of_consecutive shape (len - sent)

-- the start with these bytes: a single frame, or a first frame with the length
abbrev pub start_with : Shape → ℕ → List ℕ → Meaning
start_with shape len bytes = if (part_of_start shape len).single then SingleFrame bytes else FirstFrame len bytes

-- the frame after so many sent bytes: the start, then consecutive frames
abbrev pub unit_after : Shape → (len sent number : ℕ) → List ℕ → Meaning
unit_after shape len sent number bytes = if sent == 0 then start_with shape len bytes else ConsecutiveFrame number bytes
