-- A source channel: how it is configured, what came and what left on it, and what is told of its receptions.
use Rattle.std.specs.Prelude.{◌≡◌, ℕ, true, List}
use Rattle.hub_core.specs.declared.record.SessionRecord.{SessionRecord}
use Rattle.tp_attempts.specs.Seen.{Seen}
use Rattle.tp_receiver.specs.Own.{IsControl}
use Rattle.tp_receiver.specs.declared.set.RxSet.{RxSet}
use Rattle.tp_unit.specs.Box.{Written}
use Rattle.tp_unit.specs.Shape.{fits_shape}
use Rattle.tp_unit.specs.Unit.{Meaning}
use Rattle.tp_unit.specs.Writing.{frame_of}
use Rattle.tp_unit.specs.declared.shape.Shape.{Shape}

-- a source channel in a run
pub record SourceChannel : Type 0 where
  pub rx : RxSet
  -- the shape of its flow controls, the most frames that its bus sends in a tick, and the run's last tick
  pub shape : Shape
  pub budget : ℕ
  pub last : ℕ
  -- the frames that came, the flow controls that left, and the records of its receptions
  pub seen : List Seen
  pub controls : List Written
  pub sessions : List SessionRecord

-- one of the flow controls of the source's channel, written in its shape
pub record WritesControl (set : RxSet) (shape : Shape) (w : Written) : Type 0 where
  pub meaning : Meaning
  pub control : IsControl set meaning
  pub fits : fits_shape shape meaning ≡ true
  pub frame : w.frame ≡ frame_of shape meaning
