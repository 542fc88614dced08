-- A frame as contracts see it.
use Rattle.std.specs.Prelude.{◌≡◌, ℕ, Bool, true, false, List, [], length}
use Rattle.can_frame.specs.declared.id.CanId.{CanId}
use Rattle.can_frame.specs.declared.id.CanId.TheVariants.{Std}
use Rattle.can_frame.specs.Id.{id_fits}
use Rattle.can_frame.specs.Length.{length_fits}

-- what a frame says: its identifier, whether it is FD, whether its data is sent at the higher bit rate, its data bytes
pub record CanFrame : Type 0 where
  pub id : CanId
  pub fd : Bool
  pub brs : Bool
  pub bytes : List ℕ

-- the identifier is in range, the length is lawful, and only an FD frame switches its bit rate
pub record IsLawful (frame : CanFrame) : Type 0 where
  pub id : id_fits frame.id ≡ true
  pub len : length_fits frame.fd (length frame.bytes) ≡ true
  pub brs : frame.fd ≡ false → frame.brs ≡ false

-- classic, without data, of the identifier 0
abbrev pub empty_frame : CanFrame
empty_frame = record { id = Std 0; fd = false; brs = false; bytes = [] }
