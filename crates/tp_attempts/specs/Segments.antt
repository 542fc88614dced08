-- How a message is sent in several frames (ISO 15765-2, segmentation).
use Rattle.std.specs.Prelude.{◌≡◌, ℕ, ◌+◌, ◌%◌, ◌<◌, List, [], ◌∷◌, length, take, drop}
use Rattle.tp_unit.specs.declared.shape.Shape.{Shape}
use Rattle.tp_unit.specs.Shape.{first_part, most_consecutive}
use Rattle.tp_unit.specs.Unit.{Meaning, FirstFrame, ConsecutiveFrame}

-- the first frame of a message
abbrev pub first_of : Shape → List ℕ → Meaning
first_of shape message = FirstFrame (length message) (take (first_part shape (length message)) message)

-- these units carry the rest of a message: consecutive frames, each of them full but perhaps the last one, numbered on modulo 16
abbrev pub AreNext : Shape → ℕ → List ℕ → List Meaning → Type 0
AreNext shape number left [] = left ≡ []
AreNext shape number left (unit ∷ units) =
    (0 < length left) × (unit ≡ ConsecutiveFrame (number % 16) (take (most_consecutive shape) left)) × AreNext shape (number + 1) (drop (most_consecutive shape) left) units

-- after the first frame the consecutive frames from number 1 on carry what remains
abbrev pub Follow : Shape → List ℕ → List Meaning → Type 0
Follow shape message units = AreNext shape 1 (drop (first_part shape (length message)) message) units
