-- One step of the gateway: what a step of the receiver or of the sender over the hub needs, what it comes to, and what is noted of it.
use Rattle.std.specs.Prelude.{◌≡◌, ℕ, ◌+◌, ◌≤◌, None, Some, Option, List, ◌++◌, length}
use Rattle.tp_unit.specs.Box.{Written, box_then, written_of}
use Rattle.hub_core.specs.Turns.{calls_by}
use Rattle.tp_sender.specs.Port.{Knows as KnowsPort, ActsFor as ActsForSender}
use Rattle.tp_receiver.specs.Port.{ActsFor, CanTake, Knows, takes_for}
use Rattle.tp_receiver.specs.State.{WaitsBy, RxEvent, RxDid, FcLeft, state_of as receiver_state, RxTurn}
use Rattle.hub_core.specs.Moves.{moves_in}
use Rattle.tp_receiver.specs.Table.{RxStep}
use Rattle.std.specs.List.{AllByRecursion}
use Rattle.sender_law.specs.Parts.{IsStepIn}
use Rattle.hub_core.specs.Calls.{Means}
use Rattle.hub_core.specs.Floors.{AreFresh, floors_of}
use Rattle.hub_core.specs.Journal.{AreInOrder}
use Rattle.hub_core.specs.Groups.{changes_in, IsWordOf}
use Rattle.hub_core.specs.Joint.{Joint}
use Rattle.hub_core.specs.Plain.{hub_means}
use Rattle.hub_core.specs.View.{View, grows}
use Rattle.hub_core.specs.declared.plain.PlainHub.{PlainHub}
use Rattle.tick_clock.specs.declared.clock.Clock.{Clock}
use Rattle.tp_receiver.specs.declared.receiver.Receiver.{Receiver}
use Rattle.tp_sender.specs.State.{HasFrame, IsInBox, StillHasFrame, set_of, since_of, state_of as sender_state, TxTurn}
use Rattle.tp_sender.specs.Table.{TxStep}
use Rattle.tp_sender.specs.declared.event.TxEvent.{TxEvent}
use Rattle.tp_sender.specs.declared.event.TxEvent.TheVariants.{Left, RunEnd}
use Rattle.tp_sender.specs.declared.sender.Sender.{Sender}
use Rattle.tp_unit.specs.Unit.{Meaning}
use Rattle.gw_run.specs.Played.{Told}
use Rattle.gw_run.specs.Standing.{Stands, groups_in, lying, view_in}
use Rattle.gw_run.specs.declared.gateway.Gateway.{Gateway}

-- what the hub may do
abbrev pub means_in : PlainHub → Means
means_in hub = hub_means (groups_in hub) hub.takes

-- the receiver can be told of this in that tick
pub record CanTell (receiver : Receiver) (hub : PlainHub) (event : RxEvent) (tick : ℕ) : Type 0 where
  pub acts : ActsFor receiver.set (means_in hub)
  pub knows : Knows (view_in hub) receiver
  pub waits : WaitsBy receiver tick
  pub can : CanTake receiver.set (means_in hub) receiver.next_n event

-- a step of the receiver over the hub
pub record RxStepped (receiver : Receiver) (hub : PlainHub) (next : Receiver) (later : PlainHub) (event : RxEvent) (tick : ℕ) (did : RxDid) : Type 0 where
  pub tick_is : did.tick ≡ tick
  pub row : RxStep receiver.set (receiver_state receiver) event did
  pub fresh : AreFresh (floors_of (groups_in hub) (view_in hub)) (view_in hub) did.calls
  pub grown : view_in later ≡ grows did.calls (view_in hub)
  pub set : next.set ≡ receiver.set
  pub state : receiver_state next ≡ did.new
  pub knows : Knows (view_in later) next
  pub waits : WaitsBy next tick
  pub number : next.next_n ≤ receiver.next_n + takes_for event
  pub readings : (view_in later).readings ≡ (view_in hub).readings
  pub groups : groups_in later ≡ groups_in hub
  pub takes : hub.takes ≤ later.takes + takes_for event

-- the receiver was told of this in that tick, where this lay in its box and these flow controls had left, and its step is noted
pub record TellsReceiver (g h : Gateway) (event : RxEvent) (tick : ℕ) (lies : Option Meaning) (controls : List Written) : Type 0 where
  pub did : RxDid
  pub stepped : RxStepped g.receiver g.hub h.receiver h.hub event tick did
  pub lies_is : lying h.control ≡ box_then did.act lies
  pub controls_are : h.controls ≡ controls
  pub sessions : h.sessions ≡ g.sessions ++ did.records
  pub moves : h.moves ≡ g.moves ++ moves_in did.calls
  pub rest : h ≡ record g { receiver = h.receiver; hub = h.hub; control = h.control; controls = h.controls; sessions = h.sessions; moves = h.moves }

-- the flow control that lies in the box leaves, and the receiver is told; where nothing lies there nothing is done
abbrev pub LeavesControl : Option Meaning → (g h : Gateway) → (tick : ℕ) → Type 0
LeavesControl None g h tick = h ≡ g
LeavesControl (Some meaning) g h tick = TellsReceiver g h FcLeft tick None (g.controls ++ written_of g.machines.shape tick (Some meaning))

-- the sender can be told of this in that tick
pub record CanTellSender (sender : Sender) (hub : PlainHub) (event : TxEvent) (tick : ℕ) : Type 0 where
  pub knows : KnowsPort (view_in hub) sender
  pub acts : ActsForSender (means_in hub) sender
  pub dest : (set_of sender).dest.0 ≡ 0
  pub group : (set_of sender).group.0 ≡ 0
  pub since : since_of (sender_state sender).live ≤ tick
  pub tick_is : tick ≤ 10000000
  pub left : event ≡ Left → HasFrame (sender_state sender).live

-- a step of the sender over the hub
pub record TxStepped (sender : Sender) (hub : PlainHub) (next : Sender) (later : PlainHub) (event : TxEvent) (tick : ℕ) (turn : TxTurn) : Type 0 where
  pub event_is : turn.event ≡ event
  pub tick_is : turn.did.tick ≡ tick
  pub row : TxStep (set_of sender) (sender_state sender) turn.event turn.did
  pub fresh : AreFresh (floors_of (groups_in hub) (view_in hub)) (view_in hub) turn.did.calls
  pub grown : view_in later ≡ grows turn.did.calls (view_in hub)
  pub set : set_of next ≡ set_of sender
  pub state : sender_state next ≡ turn.did.new
  pub knows : KnowsPort (view_in later) next
  pub since : since_of (sender_state next).live ≤ tick
  pub boxed : IsInBox turn.did.act (StillHasFrame event (sender_state sender).live) (sender_state next).live
  pub sessions : (view_in later).sessions ≡ (view_in hub).sessions
  pub groups : groups_in later ≡ groups_in hub
  pub takes : hub.takes ≤ later.takes

-- the sender was told of this in that tick, where this lay in its box and these frames had left, and its step is noted
pub record TellsSender (g h : Gateway) (event : TxEvent) (tick : ℕ) (lies : Option Meaning) (frames : List Written) : Type 0 where
  pub turn : TxTurn
  pub stepped : TxStepped g.sender g.hub h.sender h.hub event tick turn
  pub lies_is : lying h.frame ≡ box_then turn.did.act lies
  pub frames_are : h.frames ≡ frames
  pub dests : h.dests ≡ g.dests ++ turn.did.records
  pub moves : h.moves ≡ g.moves ++ moves_in turn.did.calls
  pub rest : h ≡ record g { sender = h.sender; hub = h.hub; frame = h.frame; frames = h.frames; dests = h.dests; moves = h.moves }

-- the frame that lies in the box leaves, and the sender is told; where nothing lies there nothing is done
abbrev pub LeavesFrame : Option Meaning → (g h : Gateway) → (tick : ℕ) → Type 0
LeavesFrame None g h tick = h ≡ g
LeavesFrame (Some meaning) g h tick = TellsSender g h Left tick None (g.frames ++ written_of g.machines.tx.shape tick (Some meaning))

-- the sender was told of the run's end, perhaps many times, and all stands
pub record EndsTelling (sizes : List ℕ) (h : Gateway) (last : ℕ) (turns : List RxTurn) (moments : List TxTurn) (view : View) : Type 0 where
  pub more : List TxTurn
  pub only : AllByRecursion (IsStepIn last RunEnd) more
  pub stands : Stands sizes h last turns (more ++ moments) (grows (calls_by more) view)

-- nothing is sent any more, and each session that was entered was joined
pub record IsOver (h : Gateway) : Type 0 where
  pub live : (sender_state h.sender).live ≡ None
  pub joined : length ((view_in h.hub).sessions h.sender.set.path.0) ≤ h.sender.next

-- what the run tells: what was noted, and the pool as it is
pub record Tells (g : Gateway) (clock : Clock) (told : Told) : Type 0 where
  pub controls : told.controls ≡ g.controls
  pub frames : told.frames ≡ g.frames
  pub sessions : told.report.sessions ≡ g.sessions
  pub dests : told.report.dests ≡ g.dests
  pub moves : told.report.moves ≡ g.moves
  pub clock_is : told.report.clock ≡ clock
  pub buffers : told.report.pool.buffers ≡ 1
  pub joint : Joint (groups_in g.hub) (view_in g.hub)
  pub word : IsWordOf (groups_in g.hub) 0 (view_in g.hub) told.report.pool.changes told.report.pool.free
  pub in_order : AreInOrder (changes_in (groups_in g.hub) 0 (view_in g.hub))
