-- One turn of a receiver, row by row (ISO 15765-2, segmentation and reassembly; the records and sessions are this project's own).
use Rattle.std.specs.Prelude.{◌≡◌, ◌≢◌, ℕ, ◌+◌, ◌<◌, ◌≤◌, Bool, true, false, Option, Some, None, List, [], ◌∷◌, ◌++◌, length, take}
use Rattle.cell_stream.specs.Packing.{IsPacked}
use Rattle.flow_plan.specs.Cells.{cells_for}
use Rattle.flow_plan.specs.declared.block.Grant.TheVariants.{All as AllFrames, Block as BlockOf, Wait as NoFrames}
use Rattle.hub_core.specs.Calls.{freed_by}
use Rattle.hub_core.specs.View.{Event, Took, Refused, Entered, Asked, Closed}
use Rattle.hub_core.specs.declared.port.Left.{Left}
use Rattle.hub_core.specs.declared.record.OpenedAt.{OpenedAt}
use Rattle.hub_core.specs.declared.record.RxLimit.TheVariants.{Box as BoxLimit, Cf as CfLimit}
use Rattle.hub_core.specs.declared.record.RxWait.{RxWait}
use Rattle.hub_core.specs.declared.record.RxWait.TheVariants.{Box, Room, Cf}
use Rattle.hub_core.specs.declared.record.SessionResult.{SessionResult}
use Rattle.hub_core.specs.declared.record.SessionResult.TheVariants.{Whole, WrongSn, RxTimeout, Restarted, NoRoom, WaitOver, NoReaders, RunEnd as EndOfRun}
pub use Rattle.tp_receiver.specs.Receptions.{later_act, revoking, due, ended, begun, awaited_since, one_less, gone_on, awaited_after, limit_of, refused, puts}
use Rattle.tp_receiver.specs.Grant.{ask_to_wait, continue_to_send, grant_in, need_of, overflow}
use Rattle.tp_receiver.specs.State.{Reception, RxDid, RxState, RxEvent, Came, Timer, FcLeft, RunEnd, idle, busy_with}
use Rattle.tp_receiver.specs.declared.set.RxSet.{RxSet}
use Rattle.tp_unit.specs.Unit.{Meaning, SingleFrame, FirstFrame, ConsecutiveFrame, FlowControl, NoUnit, BoxMeaning, Keeps, Offers, Revokes}

-- nothing is done or told, and the state stays
pub record Quiet (old : RxState) (m : RxDid) : Type 0 where
  pub calls : m.calls ≡ []
  pub act : m.act ≡ Keeps
  pub records : m.records ≡ []
  pub new : m.new ≡ old

-- what is left of a move after its first calls
pub record After (before : List Event) (m : RxDid) (Row : RxDid → Type 0) : Type 0 where
  pub rest : List Event
  pub calls : m.calls ≡ before ++ rest
  pub row : Row (record m { calls = rest })

-- rows of a reception that is in progress: `old` is the state without it

-- the reception ends so: the writer leaves, its flow control that lies in the box doesn't leave, the record is made
pub record Ends (set : RxSet) (old : RxState) (busy : Reception) (result : SessionResult) (m : RxDid) : Type 0 where
  pub left : Left
  pub calls : m.calls ≡ Closed set.path.0 busy.opened.seq (freed_by left) ∷ []
  pub act : m.act ≡ revoking busy.wait
  pub records : m.records ≡ ended set busy result m.tick ∷ []
  pub new : m.new ≡ idle old

-- a busy receiver ends its reception before another start
abbrev pub Interrupts : RxSet → RxState → Option Reception → RxDid → Type 0
Interrupts set old None m = Quiet old m
Interrupts set old (Some busy) m = Ends set (idle old) busy Restarted m

-- no free buffer has the cells that the start needs: the record of the overflow
pub record Overflows (set : RxSet) (old : RxState) (size len : ℕ) (bytes : List ℕ) (act : BoxMeaning) (refusing : Option ℕ) (m : RxDid) : Type 0 where
  pub number : ℕ
  pub free : ℕ
  pub need : ℕ
  pub need_is : need ≡ need_of set size len (length bytes)
  pub calls : m.calls ≡ Refused set.group.0 number free need ∷ []
  pub act_is : m.act ≡ act
  pub records : m.records ≡ refused set old.next len m.tick number free need ∷ []
  pub new : m.new ≡ record old { next = old.next + 1; refusing = refusing }

-- a buffer is taken, the path's next session is entered, and the start's bytes are put
pub record Opens (set : RxSet) (seq size len : ℕ) (bytes : List ℕ) (opened : OpenedAt) (calls : List Event) : Type 0 where
  pub need : ℕ
  pub buffer : ℕ
  pub cells : List ℕ
  pub seq_is : opened.seq ≡ seq
  pub need_is : need ≡ need_of set size len (length bytes)
  pub fits : need ≤ buffer
  pub packed : IsPacked bytes cells
  pub calls_are : calls ≡ Took set.group.0 opened.change opened.buf.0 buffer need ∷ Entered set.path.0 seq opened.buf.0 opened.change buffer len set.readers ∷ puts set.path.0 seq cells

-- the numbers go on with a start that opens a session
abbrev pub after_opening : RxState → RxState
after_opening old = record old { next = old.next + 1; seq = old.seq + 1 }

-- a look at the room: what the port answered
abbrev pub asks : RxSet → Reception → (room readers : ℕ) → List Event
asks set busy room readers = Asked set.path.0 busy.opened.seq room readers ∷ []

-- this flow control is put into the box, in place of what lies there
pub record SendsControl (old : RxState) (busy : Reception) (control : Meaning) (left : Option ℕ) (waits : ℕ) (m : RxDid) : Type 0 where
  pub calls : m.calls ≡ []
  pub act : m.act ≡ Offers control
  pub records : m.records ≡ []
  pub new : m.new ≡ record old { busy = Some (record busy { wait = Box; since = m.tick; left = left; waits = waits }); refusing = None }

-- what is granted where so many cells have room: all frames that remain, a block of some, or none yet, unless as many waits as are
-- configured followed one another
pub data Answers (set : RxSet) (old : RxState) (busy : Reception) (room : ℕ) (m : RxDid) : Type 0 where
  All : grant_in set busy room ≡ AllFrames → SendsControl old busy (continue_to_send set 0) None 0 m → Answers set old busy room m
  Block : (frames : ℕ) → grant_in set busy room ≡ BlockOf frames → SendsControl old busy (continue_to_send set frames) (Some frames) 0 m → Answers set old busy room m
  Wait : grant_in set busy room ≡ NoFrames → busy.waits < set.wft_max → SendsControl old busy ask_to_wait (Some 0) (busy.waits + 1) m → Answers set old busy room m
  TooManyWaits : grant_in set busy room ≡ NoFrames → set.wft_max ≤ busy.waits → Ends set old busy WaitOver m → Answers set old busy room m

-- a flow control is asked for: after a look at the room the reception ends where no destination reads any more, and else is answered
pub data Grants (set : RxSet) (old : RxState) (busy : Reception) (m : RxDid) : Type 0 where
  NoneReads : (room readers : ℕ) → readers ≡ 0 → After (asks set busy room readers) m (Ends set old busy NoReaders) → Grants set old busy m
  SomeRead : (room readers : ℕ) → 0 < readers → After (asks set busy room readers) m (Answers set old busy room) → Grants set old busy m

-- a single frame, for a receiver that is idle
pub data BeginsSingle (set : RxSet) (old : RxState) (size : ℕ) (bytes : List ℕ) (m : RxDid) : Type 0 where
  NoBuffer : Overflows set old size (length bytes) bytes Keeps old.refusing m → BeginsSingle set old size bytes m
  Completes : (opened : OpenedAt) (opening : List Event) → Opens set old.seq size (length bytes) bytes opened opening →
      After opening m (Ends set (after_opening old) (begun old.next (length bytes) size (length bytes) m.tick opened) Whole) → BeginsSingle set old size bytes m

-- a first frame, for a receiver that is idle
pub data BeginsFirst (set : RxSet) (old : RxState) (size len : ℕ) (bytes : List ℕ) (m : RxDid) : Type 0 where
  NoBufferFirst : length bytes < len → Overflows set old size len bytes (Offers overflow) (Some m.tick) m → BeginsFirst set old size len bytes m
  Opened : length bytes < len → (opened : OpenedAt) (opening : List Event) → Opens set old.seq size len bytes opened opening →
      After opening m (Grants set (after_opening old) (begun old.next len size (length bytes) m.tick opened)) → BeginsFirst set old size len bytes m

-- a start, for a receiver that is idle
abbrev pub Begins : RxSet → RxState → (size : ℕ) → Meaning → RxDid → Type 0
Begins set old size (SingleFrame bytes) m = BeginsSingle set old size bytes m
Begins set old size (FirstFrame len bytes) m = BeginsFirst set old size len bytes m
Begins set old size (ConsecutiveFrame number bytes) m = ⊥
Begins set old size (FlowControl status block_size separation) m = ⊥
Begins set old size (NoUnit why) m = ⊥

-- a start: what the receiver was at ends, and then the start begins, in the same tick
pub record Starts (set : RxSet) (old : RxState) (size : ℕ) (meaning : Meaning) (m : RxDid) : Type 0 where
  pub earlier : RxDid
  pub later : RxDid
  pub interrupts : Interrupts set old old.busy earlier
  pub begins : Begins set (idle old) size meaning later
  pub earlier_tick : earlier.tick ≡ m.tick
  pub later_tick : later.tick ≡ m.tick
  pub calls : m.calls ≡ earlier.calls ++ later.calls
  pub act : m.act ≡ later_act earlier.act later.act
  pub records : m.records ≡ earlier.records ++ later.records
  pub new : m.new ≡ later.new

-- the frame isn't longer than the start's, and it carries what is due
pub record IsLookedAt (set : RxSet) (busy : Reception) (size : ℕ) (bytes : List ℕ) : Type 0 where
  pub short : size ≤ busy.size
  pub enough : due set.a busy ≤ length bytes

-- more bytes are due
pub record GoesOn (old : RxState) (busy : Reception) (m : RxDid) : Type 0 where
  pub more_due : busy.bytes < busy.len
  pub calls : m.calls ≡ []
  pub act : m.act ≡ Keeps
  pub records : m.records ≡ []
  pub new : m.new ≡ busy_with old busy

-- more bytes are due, and the block is over: a further flow control is asked for
pub record GrantsAnew (set : RxSet) (old : RxState) (busy : Reception) (m : RxDid) : Type 0 where
  pub more_due : busy.bytes < busy.len
  pub grants : Grants set old busy m

-- the due bytes of a consecutive frame: after a look at the room they are put, and the message goes on, its block is over, or it is whole
pub data Carries (set : RxSet) (old : RxState) (busy : Reception) (bytes : List ℕ) (m : RxDid) : Type 0 where
  NoneReadsOn : (room readers : ℕ) → readers ≡ 0 → After (asks set busy room readers) m (Ends set old busy NoReaders) → Carries set old busy bytes m
  TooLittleRoom : (room readers need : ℕ) → 0 < readers → need ≡ cells_for (length bytes) → room < need → After (asks set busy room readers) m (Ends set old busy (NoRoom room need)) → Carries set old busy bytes m
  Adds : (room readers : ℕ) (cells : List ℕ) → 0 < readers → length cells ≤ room → IsPacked bytes cells → busy.left ≢ Some 1 →
      After (asks set busy room readers) m (λ later. After (puts set.path.0 busy.opened.seq cells) later (GoesOn old (gone_on busy (length bytes) m.tick))) → Carries set old busy bytes m
  EndsBlock : (room readers : ℕ) (cells : List ℕ) → 0 < readers → length cells ≤ room → IsPacked bytes cells → busy.left ≡ Some 1 →
      After (asks set busy room readers) m (λ later. After (puts set.path.0 busy.opened.seq cells) later (GrantsAnew set old (gone_on busy (length bytes) m.tick))) → Carries set old busy bytes m
  Fills : (room readers : ℕ) (cells : List ℕ) → 0 < readers → length cells ≤ room → IsPacked bytes cells → busy.bytes + length bytes ≡ busy.len →
      After (asks set busy room readers) m (λ later. After (puts set.path.0 busy.opened.seq cells) later (Ends set old (gone_on busy (length bytes) m.tick) Whole)) → Carries set old busy bytes m

-- a consecutive frame, for a busy receiver: it is passed over, it ends the reception by its number, or its due bytes are put
pub data Continues (set : RxSet) (old : RxState) (busy : Reception) (size number : ℕ) (bytes : List ℕ) (m : RxDid) : Type 0 where
  TooLong : busy.size < size → Quiet (busy_with old busy) m → Continues set old busy size number bytes m
  TooShort : length bytes < due set.a busy → Quiet (busy_with old busy) m → Continues set old busy size number bytes m
  WrongNumber : IsLookedAt set busy size bytes → number ≢ busy.number → Ends set old busy (WrongSn busy.number number) m → Continues set old busy size number bytes m
  RightNumber : IsLookedAt set busy size bytes → number ≡ busy.number → Carries set old busy (take (due set.a busy) bytes) m → Continues set old busy size number bytes m

-- a consecutive frame
abbrev pub ConsecutiveRow : RxSet → RxState → (size number : ℕ) → List ℕ → Option Reception → RxDid → Type 0
ConsecutiveRow set old size number bytes None m = Quiet old m
ConsecutiveRow set old size number bytes (Some busy) m = Continues set (idle old) busy size number bytes m

-- a first frame is ignored where frames are for many receivers at once
abbrev pub FirstRow : RxSet → RxState → (size : ℕ) → Meaning → (functional : Bool) → RxDid → Type 0
FirstRow set old size meaning true m = Quiet old m
FirstRow set old size meaning false m = Starts set old size meaning m

-- a frame, by its unit
abbrev pub FrameRow : RxSet → RxState → (size : ℕ) → Meaning → RxDid → Type 0
FrameRow set old size (SingleFrame bytes) m = Starts set old size (SingleFrame bytes) m
FrameRow set old size (FirstFrame len bytes) m = FirstRow set old size (FirstFrame len bytes) set.functional m
FrameRow set old size (ConsecutiveFrame number bytes) m = ConsecutiveRow set old size number bytes old.busy m
FrameRow set old size (FlowControl status block_size separation) m = Quiet old m
FrameRow set old size (NoUnit why) m = Quiet old m

-- so long it is waited for that
pub record IsDue (set : RxSet) (busy : Reception) (wait : RxWait) (tick : ℕ) : Type 0 where
  pub waits : busy.wait ≡ wait
  pub over : busy.since + limit_of set wait ≤ tick

-- a tick is over, for a busy receiver: its flow control lay in the box for too long, room is looked for again, or the next frame is late
pub data Times (set : RxSet) (old : RxState) (busy : Reception) (m : RxDid) : Type 0 where
  InTime : m.tick < busy.since + limit_of set busy.wait → Quiet (busy_with old busy) m → Times set old busy m
  LiesTooLong : IsDue set busy Box m.tick → Ends set old busy (RxTimeout BoxLimit) m → Times set old busy m
  LooksAgain : IsDue set busy Room m.tick → Grants set old busy m → Times set old busy m
  TooLate : IsDue set busy Cf m.tick → Ends set old busy (RxTimeout CfLimit) m → Times set old busy m

-- a flow control that refused a message isn't in the box any more
pub record Forgets (old : RxState) (act : BoxMeaning) (m : RxDid) : Type 0 where
  pub calls : m.calls ≡ []
  pub act_is : m.act ≡ act
  pub records : m.records ≡ []
  pub new : m.new ≡ record old { refusing = None }

-- a tick is over, for an idle receiver: a flow control that refused a message is revoked once it lay in the box for too long
pub data TimesRefusal (set : RxSet) (old : RxState) (refusing : Option ℕ) (m : RxDid) : Type 0 where
  NoneLies : refusing ≡ None → Quiet old m → TimesRefusal set old refusing m
  MayLie : (since : ℕ) → refusing ≡ Some since → m.tick < since + set.n_ar → Quiet old m → TimesRefusal set old refusing m
  Revoked : (since : ℕ) → refusing ≡ Some since → since + set.n_ar ≤ m.tick → Forgets old Revokes m → TimesRefusal set old refusing m

abbrev pub TimerRow : RxSet → RxState → Option Reception → RxDid → Type 0
TimerRow set old None m = TimesRefusal set old old.refusing m
TimerRow set old (Some busy) m = Times set (idle old) busy m

-- the flow control left: room or a consecutive frame is awaited from this tick on
pub record Awaits (old : RxState) (busy : Reception) (m : RxDid) : Type 0 where
  pub calls : m.calls ≡ []
  pub act : m.act ≡ Keeps
  pub records : m.records ≡ []
  pub new : m.new ≡ busy_with old (record busy { wait = awaited_after busy.left; since = m.tick })

-- the flow control left, for a busy receiver
pub data Leaves (old : RxState) (busy : Reception) (m : RxDid) : Type 0 where
  FromBox : busy.wait ≡ Box → Awaits old busy m → Leaves old busy m
  NotAwaited : busy.wait ≢ Box → Quiet (busy_with old busy) m → Leaves old busy m

abbrev pub LeftRow : RxState → Option Reception → RxDid → Type 0
LeftRow old None m = Forgets old Keeps m
LeftRow old (Some busy) m = Leaves (idle old) busy m

-- the run ends
abbrev pub EndRow : RxSet → RxState → Option Reception → RxDid → Type 0
EndRow set old None m = Quiet old m
EndRow set old (Some busy) m = Ends set (idle old) busy (EndOfRun busy.wait (record { 0 = busy.since })) m

-- one step, by what the receiver is told
abbrev pub RxStep : RxSet → RxState → RxEvent → RxDid → Type 0
RxStep set old (Came size meaning) m = FrameRow set old size meaning m
RxStep set old Timer m = TimerRow set old old.busy m
RxStep set old FcLeft m = LeftRow old old.busy m
RxStep set old RunEnd m = EndRow set old old.busy m
