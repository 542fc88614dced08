-- The receptions of a source channel: each with the frame that starts it, its record, and its flow controls
-- that left (ISO 15765-2, flow control).
use Rattle.std.specs.Prelude.{ℕ, ◌+◌, ◌==◌, ◌&&◌, if◌then◌else◌, nat_le, Bool, true, false, Option, Some, None, List, [], ◌∷◌, drop, reverse}
use Rattle.std.specs.List.{flat_map}
use Rattle.hub_core.specs.declared.record.SessionRecord.{SessionRecord}
use Rattle.tp_attempts.specs.Cuts.{Cut}
use Rattle.tp_attempts.specs.Seen.{Seen}
use Rattle.tp_attempts.specs.Walk.{Piece, walk_of}
use Rattle.tp_receiver.specs.Grant.{ask_to_wait, continue_to_send, overflow}
use Rattle.tp_receiver.specs.declared.set.RxSet.{RxSet}
use Rattle.tp_unit.specs.Box.{Written}
use Rattle.tp_unit.specs.Unit.{Meaning}
use Rattle.tp_unit.specs.Writing.{frame_of}
use Rattle.tp_unit.specs.declared.shape.Shape.{Shape}

-- a flow control lets so many frames come, or all that remain where that is 0; it asks to wait; or it refuses the
-- message
pub data ControlKind : Type 0 where
  Continue : (frames : ℕ) → ControlKind
  Wait : ControlKind
  Refuse : ControlKind

abbrev pub control_of : RxSet → ControlKind → Meaning
control_of set (Continue frames) = continue_to_send set frames
control_of set Wait = ask_to_wait
control_of set Refuse = overflow

abbrev pub is_wait : ControlKind → Bool
is_wait (Continue frames) = false
is_wait Wait = true
is_wait Refuse = false

-- a flow control that left in that tick, and as it is written in the channel's shape
pub record ControlLeft : Type 0 where
  pub tick : ℕ
  pub kind : ControlKind

abbrev pub written_as : RxSet → Shape → ControlLeft → Written
written_as set shape control = record { tick = control.tick; frame = frame_of shape (control_of set control.kind) }

-- a reception: the frame that starts it, its record, and its flow controls, the newest first
pub record Received : Type 0 where
  pub start : Seen
  pub told : SessionRecord
  pub controls : List ControlLeft

-- the flow controls of all receptions, as they left
abbrev pub controls_of : List Received → List ControlLeft
controls_of receptions = flat_map (λ (one : Received). reverse one.controls) receptions

-- the consecutive frames of an attempt that count
abbrev pub frames_of : (address : ℕ) → Cut Seen → List Piece
frames_of address attempt = drop 1 (walk_of address attempt).pieces

-- how many frames came in the ticks from one to another
abbrev pub counted : (from to : ℕ) → List Piece → ℕ
counted from to [] = 0
counted from to (piece ∷ frames) = (if nat_le from piece.at && nat_le piece.at to then 1 else 0) + counted from to frames

-- the newest flow control that left by a tick
abbrev pub last_by : ℕ → List ControlLeft → Option ControlLeft
last_by tick [] = None
last_by tick (control ∷ earlier) = if nat_le control.tick tick then Some control else last_by tick earlier

-- how many of the newest flow controls ask to wait, one after another, with no frame up to that tick that came after
-- one of them
abbrev pub waits_in : (tick : ℕ) → List Piece → List ControlLeft → ℕ
waits_in tick frames [] = 0
waits_in tick frames (control ∷ earlier) = if is_wait control.kind && (counted (control.tick + 1) tick frames == 0) then 1 + waits_in tick frames earlier else 0
