-- The work of a tick, phase by phase: what each machine of a bus does in it.
use Rattle.std.specs.Prelude.{◌≡◌, ◌≢◌, ℕ, ◌≤◌, ◌<◌, None, Some, List, [], ◌∷◌, ◌++◌}
use Rattle.hub_core.specs.Stays.{PortState}
use Rattle.tp_receiver.specs.State.{RxEvent, RxTurn, Timer}
use Rattle.tp_receiver.specs.declared.set.RxSet.{RxSet}
use Rattle.tp_sender.specs.State.{TxTurn}
use Rattle.tp_sender.specs.declared.event.TxEvent.{TxEvent}
use Rattle.tp_sender.specs.declared.event.TxEvent.TheVariants.{Turn}
use Rattle.tp_sender.specs.declared.set.TxSet.{TxSet}
use Rattle.tp_unit.specs.declared.shape.Shape.{Shape}
use Rattle.tx_mailbox.specs.Boxes.{content}
use Rattle.bus_worker.specs.Acts.{Act, received_at, sent_at}
use Rattle.bus_worker.specs.Did.{Did, IsAt}
use Rattle.bus_worker.specs.Stands.{receives_at, sends_at}
use Rattle.bus_worker.specs.declared.channel.Channel.{Channel}
use Rattle.bus_worker.specs.declared.worker.Worker.{Worker}

-- all machines of the bus after these acts, where in each box lies what the worker has there
abbrev pub Rests : {Home : Type 0} → (tick : ℕ) → List Act → Worker → PortState Home → Type 0
Rests tick acts w port = IsAt tick acts (λ number. content number w.boxes) w port

-- they stand so since that tick or an earlier one
pub record RestsBy {Home : Type 0} (tick : ℕ) (w : Worker) (port : PortState Home) : Type 0 where
  pub since : ℕ
  pub acts : List Act
  pub by : since ≤ tick
  pub at : Rests since acts w port

-- one turn of a receiver in a tick, and one of a sender
pub record OneReceived (tick : ℕ) (event : RxEvent) (turns : List RxTurn) : Type 0 where
  pub turn : RxTurn
  pub turns_are : turns ≡ turn ∷ []
  pub event_is : turn.event ≡ event
  pub tick_is : turn.did.tick ≡ tick

pub record OneSent (tick : ℕ) (event : TxEvent) (turns : List TxTurn) : Type 0 where
  pub turn : TxTurn
  pub turns_are : turns ≡ turn ∷ []
  pub event_is : turn.event ≡ event
  pub tick_is : turn.did.tick ≡ tick

-- a channel's receiver was told of this once, where it has one, and nobody else of anything
pub record IsReceived (tick : ℕ) (event : RxEvent) (place : ℕ) (channels : List Channel) (done : List Act) : Type 0 where
  pub own : (one : RxSet × Shape) → receives_at channels place ≡ Some one → OneReceived tick event (received_at place done)
  pub none : receives_at channels place ≡ None → received_at place done ≡ []
  pub others : (other : ℕ) → other ≢ place → received_at other done ≡ []
  pub senders : (other : ℕ) → sent_at other done ≡ []

-- a channel's sender was told of this once, where it has one, and nobody else of anything
pub record IsSent (tick : ℕ) (event : TxEvent) (place : ℕ) (channels : List Channel) (done : List Act) : Type 0 where
  pub own : (one : TxSet) → sends_at channels place ≡ Some one → OneSent tick event (sent_at place done)
  pub none : sends_at channels place ≡ None → sent_at place done ≡ []
  pub others : (other : ℕ) → other ≢ place → sent_at other done ≡ []
  pub receivers : (other : ℕ) → received_at other done ≡ []

-- the receiver was told that the tick is over, and the sender took its turn
abbrev pub IsTimer : (tick place : ℕ) → List Channel → List Act → Type 0
IsTimer tick place channels done = IsReceived tick Timer place channels done

abbrev pub IsTurn : (tick place : ℕ) → List Channel → List Act → Type 0
IsTurn tick place channels done = IsSent tick Turn place channels done

-- each receiver of the first so many channels was told of this once, and nobody else of anything
pub record AreReceived (tick : ℕ) (event : RxEvent) (count : ℕ) (channels : List Channel) (done : List Act) : Type 0 where
  pub each : (place : ℕ) (one : RxSet × Shape) → place < count → receives_at channels place ≡ Some one → OneReceived tick event (received_at place done)
  pub later : (place : ℕ) → count ≤ place → received_at place done ≡ []
  pub none : (place : ℕ) → receives_at channels place ≡ None → received_at place done ≡ []
  pub senders : (place : ℕ) → sent_at place done ≡ []

-- each was told once that the tick is over
abbrev pub AreTimers : (tick count : ℕ) → List Channel → List Act → Type 0
AreTimers tick count channels done = AreReceived tick Timer count channels done

-- each sender of the first so many channels took its turn, and nobody else was told of anything
pub record AreTurns (tick count : ℕ) (channels : List Channel) (done : List Act) : Type 0 where
  pub each : (place : ℕ) (one : TxSet) → place < count → sends_at channels place ≡ Some one → OneSent tick Turn (sent_at place done)
  pub later : (place : ℕ) → count ≤ place → sent_at place done ≡ []
  pub none : (place : ℕ) → sends_at channels place ≡ None → sent_at place done ≡ []
  pub receivers : (place : ℕ) → received_at place done ≡ []

-- some work came to these acts, and all machines stand after them
pub record Works {Home : Type 0} (tick takes spare : ℕ) (Are : List Act → Type 0) (acts : List Act) (v w : Worker) (old new : PortState Home) : Type 0 where
  pub done : List Act
  pub at : Rests tick (done ++ acts) w new
  pub did : Did takes spare done v w old new
  pub are : Are done
  pub sent : w.sent ≡ v.sent

-- whatever was done before
abbrev pub WorksAfter : {Home : Type 0} → (tick takes spare : ℕ) → (List Act → Type 0) → (v w : Worker) → (old new : PortState Home) → Type 0
WorksAfter tick takes spare Are v w old new = (since : ℕ) (acts : List Act) → since ≤ tick → Rests since acts v old → Works tick takes spare Are acts v w old new

abbrev pub TimesAll : {Home : Type 0} → (tick count : ℕ) → (v w : Worker) → (old new : PortState Home) → Type 0
TimesAll tick count v w old new = WorksAfter tick 0 0 (AreTimers tick count v.channels.items) v w old new

abbrev pub TurnsAll : {Home : Type 0} → (tick count : ℕ) → (v w : Worker) → (old new : PortState Home) → Type 0
TurnsAll tick count v w old new = WorksAfter tick 0 0 (AreTurns tick count v.channels.items) v w old new

abbrev pub TimesAt : {Home : Type 0} → (tick place : ℕ) → (v w : Worker) → (old new : PortState Home) → Type 0
TimesAt tick place v w old new = WorksAfter tick 0 0 (IsTimer tick place v.channels.items) v w old new

abbrev pub TurnsAt : {Home : Type 0} → (tick place : ℕ) → (v w : Worker) → (old new : PortState Home) → Type 0
TurnsAt tick place v w old new = WorksAfter tick 0 0 (IsTurn tick place v.channels.items) v w old new
