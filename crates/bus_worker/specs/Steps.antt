-- A step of one of the machines of a bus, by its channel's place.
use Rattle.std.specs.Prelude.{◌≡◌, ◌≢◌, ℕ, Some, length}
use Rattle.hub_core.specs.Stays.{PortState}
use Rattle.tp_receiver.specs.State.{RxEvent}
use Rattle.tp_sender.specs.declared.event.TxEvent.{TxEvent}
use Rattle.bus_worker.specs.Stands.{control_box, frame_box, receiver_at, sender_at}
use Rattle.bus_worker.specs.Told.{CanTellReceiver, CanTellSender, TellsReceiver, TellsSender}
use Rattle.bus_worker.specs.declared.channel.Receiving.{Receiving}
use Rattle.bus_worker.specs.declared.channel.Sending.{Sending}
use Rattle.bus_worker.specs.declared.worker.Worker.{Worker}

-- where the channel at that place is a source, its receiver can be told of this
abbrev pub MayTellReceiver : {Home : Type 0} → (place : ℕ) → RxEvent → (tick : ℕ) → Worker → PortState Home → Type 0
MayTellReceiver place event tick w port = (r : Receiving) → receiver_at w.channels.items place ≡ Some r → CanTellReceiver r event tick port

-- all other machines are as they were
pub record OthersAre (place : ℕ) (v w : Worker) : Type 0 where
  pub count : length w.channels.items ≡ length v.channels.items
  pub receivers : (other : ℕ) → other ≢ place → receiver_at w.channels.items other ≡ receiver_at v.channels.items other
  pub senders : (other : ℕ) → other ≢ place → sender_at w.channels.items other ≡ sender_at v.channels.items other
  pub budget : w.budget ≡ v.budget
  pub routes : w.routes ≡ v.routes
  pub sent : w.sent ≡ v.sent

-- a receiver's step, which leaves all other machines as they were
pub record ReceiverWasTold {Home : Type 0} (place : ℕ) (event : RxEvent) (tick : ℕ) (v w : Worker) (old new : PortState Home) : Type 0 where
  pub before : Receiving
  pub after : Receiving
  pub was : receiver_at v.channels.items place ≡ Some before
  pub there : receiver_at w.channels.items place ≡ Some after
  pub tells : TellsReceiver before after event tick old new (control_box place) v.boxes w.boxes v.moves w.moves
  pub sender : sender_at w.channels.items place ≡ sender_at v.channels.items place
  pub others : OthersAre place v w

-- the same of a sender
abbrev pub MayTellSender : {Home : Type 0} → (place : ℕ) → TxEvent → (tick : ℕ) → Worker → PortState Home → Type 0
MayTellSender place event tick w port = (s : Sending) → sender_at w.channels.items place ≡ Some s → CanTellSender s event tick port

pub record SenderWasTold {Home : Type 0} (place : ℕ) (event : TxEvent) (tick : ℕ) (v w : Worker) (old new : PortState Home) : Type 0 where
  pub before : Sending
  pub after : Sending
  pub was : sender_at v.channels.items place ≡ Some before
  pub there : sender_at w.channels.items place ≡ Some after
  pub tells : TellsSender before after event tick old new (frame_box place) v.boxes w.boxes v.moves w.moves
  pub receiver : receiver_at w.channels.items place ≡ receiver_at v.channels.items place
  pub others : OthersAre place v w
