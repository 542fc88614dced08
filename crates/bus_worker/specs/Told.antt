-- One step of a machine of the bus over a port: what it needs, and what it comes to.
use Rattle.std.specs.Prelude.{◌≡◌, ℕ, ◌+◌, ◌≤◌, List, ◌++◌}
use Rattle.hub_core.specs.Calls.{SameMeans}
use Rattle.hub_core.specs.Floors.{AreFresh}
use Rattle.hub_core.specs.Moves.{moves_in}
use Rattle.hub_core.specs.Stays.{IsSamePort, PortState}
use Rattle.hub_core.specs.View.{grows}
use Rattle.hub_core.specs.declared.record.Move.{Move}
use Rattle.tp_receiver.specs.Port.{ActsFor, CanTake, Kept, Knows, spare_for, takes_for}
use Rattle.tp_receiver.specs.State.{RxEvent, RxDid, WaitsBy, state_of as receiver_state}
use Rattle.tp_receiver.specs.Table.{RxStep}
use Rattle.tp_sender.specs.Port.{ActsFor as ActsForSender, Knows as KnowsPort, OthersStay}
use Rattle.tp_sender.specs.State.{HasFrame, IsInBox, StillHasFrame, TxDid, set_of, since_of, state_of as sender_state}
use Rattle.tp_sender.specs.Table.{TxStep}
use Rattle.tp_sender.specs.declared.event.TxEvent.{TxEvent}
use Rattle.tp_sender.specs.declared.event.TxEvent.TheVariants.{Left}
use Rattle.tx_mailbox.specs.Boxes.{Pending}
use Rattle.bus_worker.specs.Boxed.{SetsBox}
use Rattle.bus_worker.specs.declared.channel.Receiving.{Receiving}
use Rattle.bus_worker.specs.declared.channel.Sending.{Sending}

-- the receiver can be told of this in that tick
pub record CanTellReceiver {Home : Type 0} (r : Receiving) (event : RxEvent) (tick : ℕ) (port : PortState Home) : Type 0 where
  pub acts : ActsFor r.machine.set port.means
  pub knows : Knows port.view r.machine
  pub waits : WaitsBy r.machine tick
  pub can : CanTake r.machine.set port.means r.machine.next_n event

-- the receiver was told of this in that tick: its step, its box, and what is noted of it
pub record TellsReceiver {Home : Type 0} (r s : Receiving) (event : RxEvent) (tick : ℕ) (old new : PortState Home) (number : ℕ) (boxes after : List Pending) (moves noted : List Move) : Type 0 where
  pub did : RxDid
  pub tick_is : did.tick ≡ tick
  pub row : RxStep r.machine.set (receiver_state r.machine) event did
  pub fresh : AreFresh old.floors old.view did.calls
  pub grown : new.view ≡ grows did.calls old.view
  pub set : s.machine.set ≡ r.machine.set
  pub shape : s.shape ≡ r.shape
  pub state : receiver_state s.machine ≡ did.new
  pub knows : Knows new.view s.machine
  pub waits : WaitsBy s.machine tick
  pub number_is : s.machine.next_n ≤ r.machine.next_n + takes_for event
  pub kept : Kept r.machine.set.path.0 (takes_for event) (spare_for event) old.view new.view old.means new.means
  pub same : IsSamePort old new
  pub box : SetsBox r.shape number did.act boxes after
  pub sessions : s.sessions ≡ r.sessions ++ did.records
  pub moves_are : noted ≡ moves ++ moves_in did.calls

-- the sender can be told of this in that tick
pub record CanTellSender {Home : Type 0} (s : Sending) (event : TxEvent) (tick : ℕ) (port : PortState Home) : Type 0 where
  pub knows : KnowsPort port.view s.machine
  pub acts : ActsForSender port.means s.machine
  pub since : since_of (sender_state s.machine).live ≤ tick
  pub tick_is : tick ≤ 10000000
  pub left : event ≡ Left → HasFrame (sender_state s.machine).live

-- the sender was told of this in that tick: its step, its box, and what is noted of it
pub record TellsSender {Home : Type 0} (s t : Sending) (event : TxEvent) (tick : ℕ) (old new : PortState Home) (number : ℕ) (boxes after : List Pending) (moves noted : List Move) : Type 0 where
  pub did : TxDid
  pub tick_is : did.tick ≡ tick
  pub row : TxStep (set_of s.machine) (sender_state s.machine) event did
  pub fresh : AreFresh old.floors old.view did.calls
  pub grown : new.view ≡ grows did.calls old.view
  pub set : set_of t.machine ≡ set_of s.machine
  pub state : sender_state t.machine ≡ did.new
  pub knows : KnowsPort new.view t.machine
  pub since : since_of (sender_state t.machine).live ≤ tick
  pub boxed : IsInBox did.act (StillHasFrame event (sender_state s.machine).live) (sender_state t.machine).live
  pub others : OthersStay (set_of s.machine).path.0 (set_of s.machine).dest.0 old.view new.view
  pub means : SameMeans old.means new.means
  pub same : IsSamePort old new
  pub box : SetsBox s.shape number did.act boxes after
  pub dests : t.dests ≡ s.dests ++ did.records
  pub moves_are : noted ≡ moves ++ moves_in did.calls
