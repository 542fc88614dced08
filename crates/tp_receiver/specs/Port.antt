-- A receiver and its port: what they know of one another, what a turn over the port is, and what its calls leave as it is.
use Rattle.std.specs.Prelude.{◌≡◌, ◌≢◌, ℕ, ◌+◌, ◌-◌, ◌<◌, ◌≤◌, true, List, [], ◌∷◌, length}
use Rattle.can_frame.specs.Frame.{CanFrame}
use Rattle.gw_base.specs.Cell.{counted}
use Rattle.hub_core.specs.Calls.{Means, SamePool}
use Rattle.hub_core.specs.Floors.{Floors}
use Rattle.hub_core.specs.Tokens.{Writes}
use Rattle.hub_core.specs.View.{View, Event, Refused}
use Rattle.hub_core.specs.declared.record.SessionRecord.{SessionRecord}
use Rattle.hub_core.specs.declared.token.Opened.{Opened}
use Rattle.tp_receiver.specs.declared.acts.RxActs.{RxActs}
use Rattle.tp_receiver.specs.declared.reception.Reception.{Reception as HeldReception}
use Rattle.tp_receiver.specs.declared.reception.State.{State}
use Rattle.tp_receiver.specs.declared.reception.State.TheVariants.{Idle, Busy}
use Rattle.tp_receiver.specs.declared.receiver.Receiver.{Receiver}
use Rattle.tp_receiver.specs.declared.set.RxSet.{RxSet}
use Rattle.hub_core.specs.Turns.{Over}
use Rattle.tp_receiver.specs.Grant.{need_of}
use Rattle.tp_receiver.specs.State.{RxDid, RxEvent, RxState, Came, Timer, FcLeft, RunEnd, reception_of}
use Rattle.tp_receiver.specs.Table.{Opens, begun, refused}
use Rattle.tp_unit.specs.Reading.{unit_of}
use Rattle.tp_unit.specs.Unit.{Meaning, box_meaning_of}

-- the port acts for the path's writer, sessions may have so many destinations, and the set's group is one of its pool's
pub record ActsFor (set : RxSet) (means : Means) : Type 0 where
  pub writes : means.writes set.path.0 ≡ true
  pub most : set.readers ≤ means.most
  pub group : set.group.0 < length means.groups

-- the port knows the reception's session as its token says, all that was put is published, and bytes remain
pub record KnowsReception (view : View) (path : ℕ) (r : HeldReception) : Type 0 where
  pub path_is : r.writer.path.0 ≡ path
  pub writes : Writes view r.writer
  pub told : r.writer.told ≡ r.writer.given
  pub remains : r.writer.given < r.writer.len
  pub number : r.number < 16
  -- a first frame has eight bytes
  pub size : 8 ≤ r.size

-- the session that is opened for a start: the calls that opened it, and what is known of it
pub record HasOpened (set : RxSet) (next seq len size tick : ℕ) (bytes : List ℕ) (floors : Floors) (old new : View) (r : HeldReception) : Type 0 where
  pub over : Over floors old new (record { change = r.change; took = true; buf = r.writer.buf } ∷ []) (Opens set seq size len bytes (reception_of r).opened)
  pub is : reception_of r ≡ begun next len size (length bytes) tick (reception_of r).opened
  pub path_is : r.writer.path.0 ≡ set.path.0
  pub writes : Writes new r.writer
  pub told : r.writer.told ≡ r.writer.given

abbrev pub KnowsState : View → (path : ℕ) → State → Type 0
KnowsState view path Idle = Unit {0}
KnowsState view path (Busy r) = KnowsReception view path r

-- the number that the port expects of the path's writer next is the receiver's next one, and so is what it knows of its session
pub record Knows (view : View) (receiver : Receiver) : Type 0 where
  pub number : length (view.sessions receiver.set.path.0) ≡ receiver.next_seq
  pub session : KnowsState view receiver.set.path.0 receiver.state

-- the unit is what is read of a frame of so many bytes
pub record IsRead (address size : ℕ) (meaning : Meaning) : Type 0 where
  pub frame : CanFrame
  pub size_is : length frame.bytes ≡ size
  pub most : size ≤ 64
  pub reads : unit_of address frame ≡ meaning

-- a unit needs a take, nine cells, and a number
pub record IsServed (means : Means) (next : ℕ) : Type 0 where
  pub takes : 1 ≤ means.takes
  pub spare : 9 ≤ means.spare
  pub number : next < 1000000

-- what a step needs beside, where it is told of a unit
abbrev pub CanTake : RxSet → Means → (next : ℕ) → RxEvent → Type 0
CanTake set means next (Came size meaning) = IsServed means next × IsRead set.a size meaning
CanTake set means next Timer = Unit {0}
CanTake set means next FcLeft = Unit {0}
CanTake set means next RunEnd = Unit {0}

-- calls of one path's writer: the other parties' lists stay, and no more than so many takes and cells are used
pub record Kept (path takes spare : ℕ) (old new : View) (before after : Means) : Type 0 where
  pub readings : new.readings ≡ old.readings
  pub others : (other : ℕ) → other ≢ path → new.sessions other ≡ old.sessions other
  pub pool : SamePool before after
  pub takes_used : before.takes ≤ after.takes + takes
  pub spare_used : before.spare ≤ after.spare + spare

-- the takes and cells that a step may use
abbrev pub takes_for : RxEvent → ℕ
takes_for (Came size meaning) = 1
takes_for Timer = 0
takes_for FcLeft = 0
takes_for RunEnd = 0

abbrev pub spare_for : RxEvent → ℕ
spare_for (Came size meaning) = 9
spare_for Timer = 0
spare_for FcLeft = 0
spare_for RunEnd = 0

-- the writer's token after cells were put and published
abbrev pub carried : List ℕ → Opened → Opened
carried cells t = record t { put = t.put + length cells; given = t.given + counted cells; told = t.given + counted cells; room = t.room - length cells }

-- a take finds no free buffer, and this is its record
pub record Refuses (set : RxSet) (next size len tick : ℕ) (bytes : List ℕ) (told : SessionRecord) (calls : List Event) : Type 0 where
  pub number : ℕ
  pub free : ℕ
  pub need : ℕ
  pub need_is : need ≡ need_of set size len (length bytes)
  pub calls_are : calls ≡ Refused set.group.0 number free need ∷ []
  pub told_is : told ≡ refused set next len tick number free need

-- what a step in a tick comes to, over a port that did and saw these calls, by what the machine does and its state then
abbrev pub did_by : ℕ → List Event → RxActs → RxState → RxDid
did_by tick calls acts new = record { tick = tick; calls = calls; act = box_meaning_of acts.fc; records = acts.records.items; new = new }
