-- What a receiver is at, and what it is told.
use Rattle.std.specs.Prelude.{◌≡◌, ◌≢◌, ◌≤◌, ℕ, Option, Some, None, option_map}
use Rattle.gw_base.specs.declared.numbers.Tick.{Tick}
use Rattle.hub_core.specs.Turns.{Did, Turn}
use Rattle.hub_core.specs.View.{Event}
use Rattle.hub_core.specs.declared.record.OpenedAt.{OpenedAt}
use Rattle.hub_core.specs.declared.record.RxWait.{RxWait}
use Rattle.hub_core.specs.declared.record.RxWait.TheVariants.{Room, Cf}
use Rattle.hub_core.specs.declared.record.SessionRecord.{SessionRecord}
use Rattle.tp_unit.specs.Unit.{BoxMeaning, Meaning, meaning_of}
use Rattle.tp_receiver.specs.declared.reception.Reception.{Reception as HeldReception}
use Rattle.tp_receiver.specs.declared.reception.State.{State}
use Rattle.tp_receiver.specs.declared.reception.State.TheVariants.{Idle, Busy}
use Rattle.tp_receiver.specs.declared.receiver.Receiver.{Receiver}
use Rattle.tp_receiver.specs.declared.set.RxEvent.{RxEvent as ToldEvent}
use Rattle.tp_receiver.specs.declared.set.RxEvent.TheVariants.{Unit as UnitCame, Timer as TickIsOver, FcLeft as ControlLeft, RunEnd as EndOfRun}

-- a reception in progress
pub record Reception : Type 0 where
  -- the start's number on its channel, the message's length, the bytes of the start's frame, the start's tick
  pub n : ℕ
  pub len : ℕ
  pub size : ℕ
  pub begin : ℕ
  -- the bytes put, the sequence number that is due, what is waited for and since which tick
  pub bytes : ℕ
  pub number : ℕ
  pub wait : RxWait
  pub since : ℕ
  -- how many frames its last flow control lets come yet: no limit, so many, or none where that asked to wait; and how many flow
  -- controls that ask to wait followed one another
  pub left : Option ℕ
  pub waits : ℕ
  pub opened : OpenedAt

-- a receiver's state: the numbers of its next start and of its path's next session, its reception where it isn't idle, and since which
-- tick a flow control lies in its box that refused a message
pub record RxState : Type 0 where
  pub next : ℕ
  pub seq : ℕ
  pub busy : Option Reception
  pub refusing : Option ℕ

-- the same, with no reception, and with that one
abbrev pub idle : RxState → RxState
idle state = record state { busy = None }

abbrev pub busy_with : RxState → Reception → RxState
busy_with state busy = record state { busy = Some busy }

-- what the machine's fields say
abbrev pub reception_of : HeldReception → Reception
reception_of r = record {
  n = r.n;
  len = r.writer.len;
  size = r.size;
  begin = r.begin.0;
  bytes = r.writer.given;
  number = r.number;
  wait = r.wait;
  since = r.since.0;
  left = r.left;
  waits = r.waits;
  opened = record { seq = r.writer.seq; buf = r.writer.buf; change = r.change };
}

abbrev pub reception_in : State → Option Reception
reception_in Idle = None
reception_in (Busy r) = Some (reception_of r)

abbrev pub state_of : Receiver → RxState
state_of r = record { next = r.next_n; seq = r.next_seq; busy = reception_in r.state; refusing = option_map (λ (since : Tick). since.0) r.refusing }

-- what a receiver is told
pub data RxEvent : Type 0 where
  -- a unit in a frame of so many bytes
  Came : (size : ℕ) → (meaning : Meaning) → RxEvent
  Timer : RxEvent
  FcLeft : RxEvent
  RunEnd : RxEvent

abbrev pub event_of : ToldEvent → RxEvent
event_of (UnitCame unit dl) = Came dl (meaning_of unit)
event_of TickIsOver = Timer
event_of ControlLeft = FcLeft
event_of EndOfRun = RunEnd

-- no start came yet
abbrev pub rx_new : RxState
rx_new = record { next = 0; seq = 0; busy = None; refusing = None }

-- what a step of a receiver comes to, and its turn
abbrev pub RxDid : Type 0
RxDid = Did Event BoxMeaning SessionRecord RxState

abbrev pub RxTurn : Type 0
RxTurn = Turn RxEvent Event BoxMeaning SessionRecord RxState

-- what a reception waits for, it waits for since this tick or an earlier one
abbrev pub WaitsIn : State → ℕ → Type 0
WaitsIn Idle tick = Unit {0}
WaitsIn (Busy r) tick = r.since.0 ≤ tick

-- a flow control that refused a message lies in the box since this tick or an earlier one
abbrev pub LiesBy : Option Tick → ℕ → Type 0
LiesBy None tick = Unit {0}
LiesBy (Some since) tick = since.0 ≤ tick

pub record WaitsBy (r : Receiver) (tick : ℕ) : Type 0 where
  pub reception : WaitsIn r.state tick
  pub refusing : LiesBy r.refusing tick

-- a reception between two steps: where a consecutive frame is awaited its block isn't over, where room is awaited no block is granted, and
-- no flow control of an earlier start lies in the box
pub record IsGoingOn (busy : Reception) (refusing : Option ℕ) : Type 0 where
  pub frames : busy.wait ≡ Cf → busy.left ≢ Some 0
  pub pause : busy.wait ≡ Room → busy.left ≡ Some 0
  pub alone : refusing ≡ None

abbrev pub IsConsistent : RxState → Type 0
IsConsistent state = (busy : Reception) → state.busy ≡ Some busy → IsGoingOn busy state.refusing
