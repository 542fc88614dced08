-- A unit as contracts see it.
use Rattle.std.specs.Prelude.{◌≡◌, ℕ, Bool, true, List, length}
use Rattle.can_frame.specs.Frame.{CanFrame}
use Rattle.can_frame.specs.Length.{length_fits}

-- its number among the units that were offered to its path's queue, whether it came as an FD frame, its data bytes
pub record UnitOf : Type 0 where
  pub number : ℕ
  pub fd : Bool
  pub bytes : List ℕ

-- what a frame carries, under a number
abbrev pub unit_of : ℕ → CanFrame → UnitOf
unit_of number frame = record { number = number; fd = frame.fd; bytes = frame.bytes }

-- a frame of its kind may have so many bytes
abbrev pub IsLawful : UnitOf → Type 0
IsLawful unit = length_fits unit.fd (length unit.bytes) ≡ true
