-- What a machine's step does with its box among those of the bus.
use Rattle.std.specs.Prelude.{◌≡◌, ◌==◌, ℕ, Option, Some, None, List, true, false}
use Rattle.can_frame.specs.Frame.{CanFrame}
use Rattle.tp_unit.specs.Shape.{fits_shape}
use Rattle.tp_unit.specs.Unit.{BoxMeaning, Keeps, Offers, Revokes}
use Rattle.tp_unit.specs.Writing.{frame_of}
use Rattle.tp_unit.specs.declared.shape.Shape.{Shape}
use Rattle.tx_mailbox.specs.Boxes.{Pending, content}

-- what an act offers can be written in the channel's shape
abbrev pub FitsAct : Shape → BoxMeaning → Type 0
FitsAct shape Keeps = Unit {0}
FitsAct shape (Offers meaning) = fits_shape shape meaning ≡ true
FitsAct shape Revokes = Unit {0}

-- the frame that lies in a box after an act: it keeps what lay there, puts the frame of a unit in its place, or takes it out
abbrev pub frame_then : Shape → BoxMeaning → Option CanFrame → Option CanFrame
frame_then shape Keeps lies = lies
frame_then shape (Offers meaning) lies = Some (frame_of shape meaning)
frame_then shape Revokes lies = None

-- the box of that number has what the act leaves there, and the others have what they had
pub record SetsBox (shape : Shape) (number : ℕ) (act : BoxMeaning) (old new : List Pending) : Type 0 where
  pub own : content number new ≡ frame_then shape act (content number old)
  pub others : (other : ℕ) → (other == number) ≡ false → content other new ≡ content other old
