-- That no frame of a bus is of two of its channels.
use Rattle.std.specs.Prelude.{◌≡◌, ℕ, true, List, Some, slice_get}
use Rattle.can_frame.specs.Frame.{CanFrame}
use Rattle.tp_receiver.specs.declared.set.RxSet.{RxSet}
use Rattle.tp_sender.specs.declared.set.TxSet.{TxSet}
use Rattle.tp_unit.specs.declared.shape.Shape.{Shape}
use Rattle.gw_law.specs.Channels.{address_in, is_addressed}
use Rattle.bus_worker.specs.Comes.{address_of}
use Rattle.bus_worker.specs.Stands.{receives_at, sends_at}
use Rattle.bus_worker.specs.declared.channel.Channel.{Channel}
use Rattle.bus_worker.specs.declared.comes.Comes.{Comes}

-- the frames that a channel writes have this shape: the receiver's flow controls, or the sender's data frames
pub data HasShape (channels : List Channel) (place : ℕ) (shape : Shape) : Type 0 where
  Controls : (one : RxSet × Shape) → receives_at channels place ≡ Some one → shape ≡ one.1 → HasShape channels place shape
  Data : (set : TxSet) → sends_at channels place ≡ Some set → shape ≡ set.shape → HasShape channels place shape

-- no frame comes to two channels, a channel's frames have one shape, and no frame is one that two channels write
pub record AreApartOnBus (routes : List Comes) (channels : List Channel) : Type 0 where
  pub comes : (place other : ℕ) (one another : Comes) (frame : CanFrame) → slice_get routes place ≡ Some one → slice_get routes other ≡ Some another →
      is_addressed (address_of one) frame ≡ true → is_addressed (address_of another) frame ≡ true → place ≡ other
  pub one_shape : (place : ℕ) (one another : Shape) → HasShape channels place one → HasShape channels place another → one ≡ another
  pub shapes : (place other : ℕ) (one another : Shape) (frame : CanFrame) → HasShape channels place one → HasShape channels other another →
      is_addressed (address_in one) frame ≡ true → is_addressed (address_in another) frame ≡ true → place ≡ other
