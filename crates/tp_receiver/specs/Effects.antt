-- The few kinds of effects that a receiver's steps are made of, whatever the row of the table: each leads from one stage of a step to the next.
use Rattle.std.specs.Prelude.{◌≡◌, ◌≢◌, ◌⊎◌, ℕ, ◌+◌, ◌<◌, ◌≤◌, Bool, true, false, Option, Some, None, List, [], ◌∷◌, ◌++◌, length, take}
use Rattle.cell_stream.specs.Packing.{IsPacked}
use Rattle.flow_plan.specs.declared.block.Grant.{Grant}
use Rattle.flow_plan.specs.declared.block.Grant.TheVariants.{Wait as NoFrames}
use Rattle.hub_core.specs.Calls.{freed_by}
use Rattle.hub_core.specs.View.{Event, Refused, Closed}
use Rattle.hub_core.specs.declared.port.Left.{Left}
use Rattle.hub_core.specs.declared.port.Room.{Room}
use Rattle.hub_core.specs.declared.record.OpenedAt.{OpenedAt}
use Rattle.hub_core.specs.declared.record.RxWait.{RxWait}
use Rattle.hub_core.specs.declared.record.RxWait.TheVariants.{Box, Room as ForRoom, Cf}
use Rattle.hub_core.specs.declared.record.SessionRecord.{SessionRecord}
use Rattle.hub_core.specs.declared.record.SessionResult.{SessionResult}
use Rattle.hub_core.specs.declared.record.SessionResult.TheVariants.{Whole, Overflow, WrongSn, RxTimeout, Restarted, NoRoom, WaitOver, NoReaders, Cancelled, RunEnd as EndOfRun}
use Rattle.tp_attempts.specs.Seen.{bytes_of, is_start, len_of}
use Rattle.tp_receiver.specs.declared.set.RxSet.{RxSet}
pub use Rattle.tp_receiver.specs.Own.{OfWriter, IsBlock, IsControl, IsControlAct, IsMadeNow, IsOwnStep, Continues, AsksToWait, TellsOverflow}
use Rattle.tp_receiver.specs.Grant.{MayGrant, control_of, grant_in, left_of, need_of, overflow, waits_of}
use Rattle.tp_receiver.specs.State.{Reception, RxDid, RxEvent, RxState, Came, Timer, FcLeft, RunEnd, busy_with, idle}
use Rattle.tp_receiver.specs.Table.{IsDue, IsLookedAt, Opens as OpensSession, after_opening, asks, awaited_after, begun, due, ended, gone_on, later_act, puts, refused, revoking}
use Rattle.tp_unit.specs.Unit.{Meaning, SingleFrame, FirstFrame, ConsecutiveFrame, FlowControl, NoUnit, BoxMeaning, Keeps, Offers, Revokes}

-- where a step stands between two of its effects
pub record RxStage : Type 0 where
  pub state : RxState
  -- what the last look at the room answered, where nothing was put since
  pub look : Option Room
  -- whether the frame that came is used: it began an attempt, its bytes were put, or its number was wrong
  pub used : Bool

abbrev pub at_stage : RxState → Option Room → Bool → RxStage
at_stage state look used = record { state = state; look = look; used = used }

-- where a step begins
abbrev pub first_stage : RxState → RxStage
first_stage state = at_stage state None false

-- what an effect comes to: its calls, what is done with the box, its records, and the stage after it
pub record RxDone : Type 0 where
  pub calls : List Event
  pub act : BoxMeaning
  pub records : List SessionRecord
  pub new : RxStage

-- a start came, its frame isn't used yet, and no reception is in progress
pub record HasStart (set : RxSet) (event : RxEvent) (old : RxStage) (size : ℕ) (meaning : Meaning) : Type 0 where
  pub came : event ≡ Came size meaning
  pub start : is_start set.functional meaning ≡ true
  pub unused : old.used ≡ false
  pub idle : old.state.busy ≡ None

-- a consecutive frame came whose number is looked at, and its frame isn't used yet
pub record HasConsecutive (set : RxSet) (event : RxEvent) (old : RxStage) (busy : Reception) (size number : ℕ) (bytes : List ℕ) : Type 0 where
  pub came : event ≡ Came size (ConsecutiveFrame number bytes)
  pub looked : IsLookedAt set busy size bytes
  pub unused : old.used ≡ false

-- a first frame that finds no buffer is answered, a single frame isn't
abbrev pub refusal_act : Meaning → BoxMeaning
refusal_act (SingleFrame bytes) = Keeps
refusal_act (FirstFrame len bytes) = Offers overflow
refusal_act (ConsecutiveFrame number bytes) = Keeps
refusal_act (FlowControl status block_size separation) = Keeps
refusal_act (NoUnit why) = Keeps

-- and lies in the box since this tick, in place of what lay there
abbrev pub refusing_since : Meaning → (tick : ℕ) → Option ℕ → Option ℕ
refusing_since (SingleFrame bytes) tick before = before
refusing_since (FirstFrame len bytes) tick before = Some tick
refusing_since (ConsecutiveFrame number bytes) tick before = before
refusing_since (FlowControl status block_size separation) tick before = before
refusing_since (NoUnit why) tick before = before

-- no free buffer has the cells that the start needs
pub record IsRefusal (set : RxSet) (event : RxEvent) (tick : ℕ) (old : RxStage) (done : RxDone) : Type 0 where
  pub size : ℕ
  pub meaning : Meaning
  pub of : HasStart set event old size meaning
  pub number : ℕ
  pub free : ℕ
  pub calls : done.calls ≡ Refused set.group.0 number free (need_of set size (len_of meaning) (length (bytes_of meaning))) ∷ []
  pub act : done.act ≡ refusal_act meaning
  pub records : done.records ≡ refused set old.state.next (len_of meaning) tick number free (need_of set size (len_of meaning) (length (bytes_of meaning))) ∷ []
  pub new : done.new ≡ at_stage (record old.state { next = old.state.next + 1; refusing = refusing_since meaning tick old.state.refusing }) None true

-- a session is opened for the start, and its bytes are put
pub record IsOpening (set : RxSet) (event : RxEvent) (tick : ℕ) (old : RxStage) (done : RxDone) : Type 0 where
  pub size : ℕ
  pub meaning : Meaning
  pub of : HasStart set event old size meaning
  pub within : length (bytes_of meaning) ≤ len_of meaning
  pub opened : OpenedAt
  pub opens : OpensSession set old.state.seq size (len_of meaning) (bytes_of meaning) opened done.calls
  pub act : done.act ≡ Keeps
  pub records : done.records ≡ []
  pub new : done.new ≡ at_stage (busy_with (after_opening old.state) (begun old.state.next (len_of meaning) size (length (bytes_of meaning)) tick opened)) None true

-- a frame came, or a tick is over
abbrev pub MayLook : RxEvent → Type 0
MayLook (Came size meaning) = Unit {0}
MayLook Timer = Unit {0}
MayLook FcLeft = ⊥
MayLook RunEnd = ⊥

-- a look at the room
pub record IsLook (set : RxSet) (event : RxEvent) (old : RxStage) (done : RxDone) : Type 0 where
  pub of : MayLook event
  pub busy : Reception
  pub was : old.state.busy ≡ Some busy
  pub look : Room
  pub calls : done.calls ≡ asks set busy look.cells look.readers
  pub act : done.act ≡ Keeps
  pub records : done.records ≡ []
  pub new : done.new ≡ at_stage old.state (Some look) old.used

-- the due bytes of a consecutive frame of the due number are put, where destinations read and have room
pub record IsPut (set : RxSet) (event : RxEvent) (tick : ℕ) (old : RxStage) (done : RxDone) : Type 0 where
  pub busy : Reception
  pub was : old.state.busy ≡ Some busy
  pub size : ℕ
  pub bytes : List ℕ
  pub of : HasConsecutive set event old busy size busy.number bytes
  pub look : Room
  pub looked : old.look ≡ Some look
  pub some : 0 < look.readers
  pub cells : List ℕ
  pub fits : length cells ≤ look.cells
  pub packed : IsPacked (take (due set.a busy) bytes) cells
  pub calls : done.calls ≡ puts set.path.0 busy.opened.seq cells
  pub act : done.act ≡ Keeps
  pub records : done.records ≡ []
  pub new : done.new ≡ at_stage (busy_with old.state (gone_on busy (length (take (due set.a busy) bytes)) tick)) None true

-- why a flow control is asked for: a first frame opened the session in this step, the last frame of a block was put in it, or room was
-- waited for as long as is configured
pub data IsAskedFor (set : RxSet) (event : RxEvent) (tick : ℕ) (old : RxStage) (busy : Reception) : Type 0 where
  AfterStart : (size len : ℕ) (bytes : List ℕ) → event ≡ Came size (FirstFrame len bytes) → old.used ≡ true → busy.wait ≡ Cf → busy.left ≡ None → IsAskedFor set event tick old busy
  AfterBlock : (size number : ℕ) (bytes : List ℕ) → event ≡ Came size (ConsecutiveFrame number bytes) → old.used ≡ true → busy.left ≡ Some 0 → IsAskedFor set event tick old busy
  AfterPause : event ≡ Timer → IsDue set busy ForRoom tick → IsAskedFor set event tick old busy

-- the last look at the room shows that destinations read, and what is granted
pub record IsSeen (set : RxSet) (old : RxStage) (busy : Reception) (grant : Grant) : Type 0 where
  pub look : Room
  pub looked : old.look ≡ Some look
  pub some : 0 < look.readers
  pub grant_is : grant_in set busy look.cells ≡ grant

-- the flow control of what is granted is put into the box, in place of what lies there
pub record IsGranted (set : RxSet) (event : RxEvent) (tick : ℕ) (old : RxStage) (busy : Reception) (act : BoxMeaning) (left : Option ℕ) (waits : ℕ) (refusing : Option ℕ) : Type 0 where
  pub asked : IsAskedFor set event tick old busy
  pub grant : Grant
  pub seen : IsSeen set old busy grant
  pub may : MayGrant set busy grant
  pub act_is : act ≡ Offers (control_of set grant)
  pub left_is : left ≡ left_of grant
  pub waits_is : waits ≡ waits_of grant busy.waits
  pub refusing_is : refusing ≡ None

-- the flow control left the box, and what it asks for is awaited
pub record IsGone (event : RxEvent) (old : RxStage) (busy : Reception) (act : BoxMeaning) (wait : RxWait) (left : Option ℕ) (waits : ℕ) (refusing : Option ℕ) : Type 0 where
  pub act_is : act ≡ Keeps
  pub was_boxed : busy.wait ≡ Box
  pub told : event ≡ FcLeft
  pub wait_is : wait ≡ awaited_after busy.left
  pub left_is : left ≡ busy.left
  pub waits_is : waits ≡ busy.waits
  pub refusing_is : refusing ≡ old.state.refusing

-- why a reception waits: its flow control is put into its box, or left from there
abbrev pub Because : RxSet → RxEvent → (tick : ℕ) → RxStage → Reception → BoxMeaning → RxWait → (left : Option ℕ) → (waits : ℕ) → (refusing : Option ℕ) → Type 0
Because set event tick old busy act Box left waits refusing = IsGranted set event tick old busy act left waits refusing
Because set event tick old busy act ForRoom left waits refusing = IsGone event old busy act ForRoom left waits refusing
Because set event tick old busy act Cf left waits refusing = IsGone event old busy act Cf left waits refusing

-- from this tick on the reception waits for that
pub record IsWait (set : RxSet) (event : RxEvent) (tick : ℕ) (old : RxStage) (done : RxDone) : Type 0 where
  pub busy : Reception
  pub was : old.state.busy ≡ Some busy
  pub wait : RxWait
  pub left : Option ℕ
  pub waits : ℕ
  pub refusing : Option ℕ
  pub because : Because set event tick old busy done.act wait left waits refusing
  pub calls : done.calls ≡ []
  pub records : done.records ≡ []
  pub new : done.new ≡ at_stage (record old.state { busy = Some (record busy { wait = wait; since = tick; left = left; waits = waits }); refusing = refusing }) None old.used

-- a flow control that refused a message isn't in the box any more: it left, or it lay there too long and is revoked
pub data IsForgotten (set : RxSet) (event : RxEvent) (tick : ℕ) (old : RxStage) (act : BoxMeaning) : Type 0 where
  HasLeft : event ≡ FcLeft → act ≡ Keeps → IsForgotten set event tick old act
  LayTooLong : (since : ℕ) → event ≡ Timer → old.state.refusing ≡ Some since → since + set.n_ar ≤ tick → act ≡ Revokes → IsForgotten set event tick old act

pub record IsForgetting (set : RxSet) (event : RxEvent) (tick : ℕ) (old : RxStage) (done : RxDone) : Type 0 where
  pub idle : old.state.busy ≡ None
  pub because : IsForgotten set event tick old done.act
  pub calls : done.calls ≡ []
  pub records : done.records ≡ []
  pub new : done.new ≡ at_stage (record old.state { refusing = None }) old.look old.used

-- what a result says of the stage in which the reception ends
abbrev pub EndsAt : RxSet → RxEvent → RxStage → Reception → SessionResult → Type 0
EndsAt set event old busy Whole = (busy.bytes ≡ busy.len) × (old.used ≡ true)
EndsAt set event old busy (Overflow change free need) = ⊥
EndsAt set event old busy (WrongSn want got) = (want ≡ busy.number) × (got ≢ busy.number) × ((size : ℕ) × (bytes : List ℕ) × HasConsecutive set event old busy size got bytes)
EndsAt set event old busy (RxTimeout limit) = event ≡ Timer
EndsAt set event old busy Restarted = (size : ℕ) × (meaning : Meaning) × (event ≡ Came size meaning) × (is_start set.functional meaning ≡ true)
EndsAt set event old busy (NoRoom room need) = (look : Room) × (old.look ≡ Some look) × (0 < look.readers) × (look.cells ≡ room) × (room < need)
EndsAt set event old busy WaitOver = IsSeen set old busy NoFrames × (set.wft_max ≤ busy.waits) × (event ≡ RunEnd → ⊥)
EndsAt set event old busy NoReaders = (look : Room) × (old.look ≡ Some look) × (look.readers ≡ 0) × (event ≡ RunEnd → ⊥)
EndsAt set event old busy Cancelled = ⊥
EndsAt set event old busy (EndOfRun wait since) = (event ≡ RunEnd) × (wait ≡ busy.wait) × (since.0 ≡ busy.since)

-- a frame of a wrong number is used by the end that it brings
abbrev pub used_after : SessionResult → Bool → Bool
used_after Whole used = used
used_after (Overflow change free need) used = used
used_after (WrongSn want got) used = true
used_after (RxTimeout limit) used = used
used_after Restarted used = used
used_after (NoRoom room need) used = used
used_after WaitOver used = used
used_after NoReaders used = used
used_after Cancelled used = used
used_after (EndOfRun wait since) used = used

-- the reception ends so: its writer leaves, its flow control that lies in the box doesn't leave, the record is made
pub record IsEnd (set : RxSet) (event : RxEvent) (tick : ℕ) (old : RxStage) (done : RxDone) : Type 0 where
  pub busy : Reception
  pub was : old.state.busy ≡ Some busy
  pub result : SessionResult
  pub at : EndsAt set event old busy result
  -- what was begun or put in this step is whole only where that is the result
  pub part : old.used ≡ true → (result ≡ Whole → ⊥) → busy.bytes < busy.len
  pub left : Left
  pub calls : done.calls ≡ Closed set.path.0 busy.opened.seq (freed_by left) ∷ []
  pub act : done.act ≡ revoking busy.wait
  pub records : done.records ≡ ended set busy result tick ∷ []
  pub new : done.new ≡ at_stage (idle old.state) None (used_after result old.used)

-- an effect, in a step of a tick that is told an event
pub data RxEffect (set : RxSet) (event : RxEvent) (tick : ℕ) (old : RxStage) (done : RxDone) : Type 0 where
  Refuses : IsRefusal set event tick old done → RxEffect set event tick old done
  Opens : IsOpening set event tick old done → RxEffect set event tick old done
  Looks : IsLook set event old done → RxEffect set event tick old done
  Puts : IsPut set event tick old done → RxEffect set event tick old done
  Waits : IsWait set event tick old done → RxEffect set event tick old done
  Forgets : IsForgetting set event tick old done → RxEffect set event tick old done
  Ends : IsEnd set event tick old done → RxEffect set event tick old done

-- effects one after another, from a stage to the last one
abbrev pub AreEffects : RxSet → RxEvent → ℕ → RxStage → List RxDone → RxStage → Type 0
AreEffects set event tick old [] new = new ≡ old
AreEffects set event tick old (done ∷ rest) new = RxEffect set event tick old done × AreEffects set event tick done.new rest new

-- what effects come to together: their calls, what is done with the box, and their records
abbrev pub calls_of : List RxDone → List Event
calls_of [] = []
calls_of (done ∷ rest) = done.calls ++ calls_of rest

abbrev pub act_of : List RxDone → BoxMeaning
act_of [] = Keeps
act_of (done ∷ rest) = later_act done.act (act_of rest)

abbrev pub records_of : List RxDone → List SessionRecord
records_of [] = []
records_of (done ∷ rest) = done.records ++ records_of rest

-- a frame that a reception passes over: no consecutive frame, or one that is longer than the start's or carries too little
abbrev pub IsPassed : RxSet → Reception → (size : ℕ) → Meaning → Type 0
IsPassed set busy size (SingleFrame bytes) = Unit {0}
IsPassed set busy size (FirstFrame len bytes) = Unit {0}
IsPassed set busy size (ConsecutiveFrame number bytes) = (busy.size < size) ⊎ (length bytes < due set.a busy)
IsPassed set busy size (FlowControl status block_size separation) = Unit {0}
IsPassed set busy size (NoUnit why) = Unit {0}

-- a frame that isn't used is no start, and a reception that goes on passes it over
abbrev pub IsUnused : RxSet → RxEvent → RxState → Type 0
IsUnused set (Came size meaning) state = (is_start set.functional meaning ≡ false) × ((busy : Reception) → state.busy ≡ Some busy → IsPassed set busy size meaning)
IsUnused set Timer state = Unit {0}
IsUnused set FcLeft state = Unit {0}
IsUnused set RunEnd state = Unit {0}

-- where a start began a reception that goes on, its flow control lies in its box
abbrev pub HasAsked : RxSet → RxEvent → RxStage → Type 0
HasAsked set event last = (busy : Reception) (size : ℕ) (meaning : Meaning) → event ≡ Came size meaning → is_start set.functional meaning ≡ true → last.used ≡ true → last.state.busy ≡ Some busy → busy.wait ≡ Box

-- what a step comes to from a stage on is what its effects come to together
pub record IsMade (set : RxSet) (event : RxEvent) (old : RxStage) (m : RxDid) : Type 0 where
  pub effects : List RxDone
  pub last : RxStage
  pub are : AreEffects set event m.tick old effects last
  pub state : m.new ≡ last.state
  pub calls : m.calls ≡ calls_of effects
  pub act : m.act ≡ act_of effects
  pub records : m.records ≡ records_of effects
  pub unused : last.used ≡ false → IsUnused set event last.state
  -- what was begun or put in this step and goes on has bytes to come
  pub more : (busy : Reception) → last.used ≡ true → last.state.busy ≡ Some busy → busy.bytes < busy.len
  -- what was begun in this step and goes on waits for its flow control to leave
  pub asked : HasAsked set event last
