-- A destination's channel: how it is configured, what came and what left on it, and what is told of its transmissions.
use Rattle.std.specs.Prelude.{◌≡◌, ℕ, true, List}
use Rattle.hub_core.specs.declared.record.DestRecord.{DestRecord}
use Rattle.tp_sender.specs.declared.set.TxSet.{TxSet}
use Rattle.tp_unit.specs.Box.{Answer, IsNoData, Written}
use Rattle.tp_unit.specs.Shape.{fits_shape}
use Rattle.tp_unit.specs.Unit.{Meaning}
use Rattle.tp_unit.specs.Writing.{frame_of}
use Rattle.tp_unit.specs.declared.shape.Shape.{Shape}

-- a destination's channel in a run
pub record DestChannel : Type 0 where
  pub tx : TxSet
  -- the most frames that its bus sends in a tick, and the run's last tick
  pub budget : ℕ
  pub last : ℕ
  -- the flow controls that came, the data frames that left, and the records of its transmissions
  pub answers : List Answer
  pub frames : List Written
  pub dests : List DestRecord

-- a data frame of the destination's channel, written in its shape
pub record WritesData (shape : Shape) (w : Written) : Type 0 where
  pub meaning : Meaning
  pub carries : IsNoData meaning → ⊥
  pub fits : fits_shape shape meaning ≡ true
  pub frame : w.frame ≡ frame_of shape meaning

-- a frame that was written of a protocol unit which fits the channel's shape: it has the channel's identifier and format
pub record IsOfChannel (shape : Shape) (written : Written) : Type 0 where
  pub unit : Meaning
  pub fits : fits_shape shape unit ≡ true
  pub frame : written.frame ≡ frame_of shape unit
  pub id : written.frame.id ≡ shape.id
  pub fd : written.frame.fd ≡ shape.fd
