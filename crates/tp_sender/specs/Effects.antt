-- What a step of a sender is made of: eight effects, one after another. A row of the table is a list of them, so that a law of all
-- steps is one of eight effects, and a further row changes none of those laws.
use Rattle.std.specs.Prelude.{◌≡◌, ℕ, ◌+◌, ◌-◌, ◌%◌, ◌<◌, ◌≤◌, false, true, List, [], ◌∷◌, ◌++◌, length, map, take, drop, All, Option, Some, None}
use Rattle.flow_plan.specs.Gap.{gap_in}
use Rattle.gw_base.specs.Cell.{IsCell}
use Rattle.gw_base.specs.declared.numbers.Tick.{Tick}
use Rattle.hub_core.specs.Calls.{freed_by}
use Rattle.hub_core.specs.Turns.{Did}
use Rattle.hub_core.specs.View.{Event, Joining, Missed, Read, Parted}
use Rattle.hub_core.specs.declared.port.Left.{Left as LeftOver}
use Rattle.hub_core.specs.declared.port.Seen.{Seen as Look}
use Rattle.hub_core.specs.declared.record.DestRecord.{DestRecord}
use Rattle.hub_core.specs.declared.record.DestResult.{DestResult}
use Rattle.hub_core.specs.declared.record.DestResult.TheVariants.{Sent, SourceEnded, BsTimeout, FcOverflow, InvalidFs, CsTimeout, AsTimeout, Cancelled, RunEnd as EndOfRun}
use Rattle.tp_unit.specs.Shape.{fits_shape}
use Rattle.tp_unit.specs.Unit.{BoxMeaning, Keeps, Offers as OffersUnit, Revokes, Meaning}
use Rattle.tp_sender.specs.declared.event.TxEvent.{TxEvent}
use Rattle.tp_sender.specs.declared.event.TxEvent.TheVariants.{Turn, Fc as CameFc, Left, RunEnd}
use Rattle.tp_sender.specs.declared.transmission.Phase.{Phase}
use Rattle.tp_sender.specs.declared.transmission.Phase.TheVariants.{Start, Bytes, Box, Fc, Gap}
use Rattle.tp_sender.specs.declared.set.TxSet.{TxSet}
use Rattle.tp_sender.specs.Frame.{unit_after}
use Rattle.tp_sender.specs.State.{Transmission, TxDid, TxState}
use Rattle.tp_sender.specs.Table.{fetched, in_phase, is_reached, joined_in, look_at, next_part, revoked}

-- how far a step is: the event while it isn't dealt with, what the session saw last in this step, the number of the session that
-- is joined next, and the one that is sent
pub record TxStage : Type 0 where
  pub event : Option TxEvent
  pub look : Option Look
  pub next : ℕ
  pub live : Option Transmission

-- one thing that a step does
pub data TxEffect : Type 0 where
  -- no session stands to be sent, or the next one is joined
  Misses : TxEffect
  Joins : (buf len : ℕ) → TxEffect
  -- the session looks at what is published of it, and reads cells
  Looks : (s : Transmission) → (look : Look) → TxEffect
  Reads : (s : Transmission) → (cells : List ℕ) → TxEffect
  -- its next frame is offered into the box, or has left, which makes so many sent bytes and leaves so many frames of the block
  Offers : (s : Transmission) → TxEffect
  Leaves : (s : Transmission) → (sent number block : ℕ) → (phase : Phase) → TxEffect
  -- it waits for something else, by such a block and gap
  Waits : (s : Transmission) → (phase : Phase) → (block gap : ℕ) → TxEffect
  -- it ends with so many sent bytes, and its destination leaves
  Ends : (s : Transmission) → (sent : ℕ) → (act : BoxMeaning) → (result : DestResult) → (left : LeftOver) → TxEffect

-- the session that an effect finds
abbrev pub found_by : TxEffect → Option Transmission
found_by Misses = None
found_by (Joins buf len) = None
found_by (Looks s look) = Some s
found_by (Reads s cells) = Some s
found_by (Offers s) = Some s
found_by (Leaves s sent number block phase) = Some s
found_by (Waits s phase block gap) = Some s
found_by (Ends s sent act result left) = Some s

-- what is left of an event once a session waits for something else: a turn goes on
abbrev pub once_waited : Option TxEvent → Option TxEvent
once_waited None = None
once_waited (Some Turn) = Some Turn
once_waited (Some (CameFc fs bs st)) = None
once_waited (Some Left) = None
once_waited (Some RunEnd) = None

-- the bytes and the unit of the session's next frame
abbrev pub next_bytes : TxSet → Transmission → List ℕ
next_bytes set s = take (next_part set s) s.carried

abbrev pub next_unit : TxSet → Transmission → Meaning
next_unit set s = unit_after set.shape s.len s.sent s.number (next_bytes set s)

-- the session once its next frame is offered, and once it has left
abbrev pub once_offered : TxSet → (tick : ℕ) → Transmission → Transmission
once_offered set tick s = in_phase Box tick (record s { carried = drop (next_part set s) s.carried })

abbrev pub once_left : (tick sent number block : ℕ) → Phase → Transmission → Transmission
once_left tick sent number block phase s = in_phase phase tick (record s { sent = sent; number = number; block = block })

-- and once it waits for something else
abbrev pub once_waiting : (tick : ℕ) → Phase → (block gap : ℕ) → Transmission → Transmission
once_waiting tick phase block gap s = in_phase phase tick (record s { block = block; gap = gap })

-- the record of a session that ends in that tick
abbrev pub record_of : TxSet → (tick : ℕ) → Transmission → (sent : ℕ) → DestResult → DestRecord
record_of set tick s sent result =
    record { path = set.path; dest = set.dest; seq = s.seq; begin = record { 0 = s.begin }; sent = sent; end = record { 0 = tick }; result = result }

-- what effects come to: their calls, what they do with the box, their records, and how far the step is afterwards
abbrev pub TxDone : Type 0
TxDone = Did Event BoxMeaning DestRecord TxStage

-- nothing but that the step is so far
abbrev pub nothing_at : (tick : ℕ) → TxStage → TxDone
nothing_at tick p = record { tick = tick; calls = []; act = Keeps; records = []; new = p }

-- what one effect comes to
abbrev pub done_by : TxSet → (tick : ℕ) → TxStage → TxEffect → TxDone
done_by set tick p Misses = record (nothing_at tick (record p { event = None })) { calls = Missed set.group.0 set.path.0 set.dest.0 p.next ∷ [] }
done_by set tick p (Joins buf len) =
    record (nothing_at tick (record p { look = None; next = p.next + 1; live = Some (joined_in tick p.next len) })) { calls = Joining set.path.0 set.dest.0 p.next buf len ∷ [] }
done_by set tick p (Looks s look) = record (nothing_at tick (record p { look = Some look; live = Some s })) { calls = look_at set s look ∷ [] }
done_by set tick p (Reads s cells) = record (nothing_at tick (record p { live = Some (fetched cells s) })) { calls = map (Read set.path.0 set.dest.0 s.seq) cells }
done_by set tick p (Offers s) = record (nothing_at tick (record p { event = None; live = Some (once_offered set tick s) })) { act = OffersUnit (next_unit set s) }
done_by set tick p (Leaves s sent number block phase) = nothing_at tick (record p { event = None; live = Some (once_left tick sent number block phase s) })
done_by set tick p (Waits s phase block gap) = nothing_at tick (record p { event = once_waited p.event; live = Some (once_waiting tick phase block gap s) })
done_by set tick p (Ends s sent act result left) =
    record (nothing_at tick (record p { event = None; live = None })) { calls = Parted set.path.0 set.dest.0 s.seq (freed_by left) ∷ []; act = act; records = record_of set tick s sent result ∷ [] }

-- what two acts with a box come to
abbrev pub act_then : BoxMeaning → BoxMeaning → BoxMeaning
act_then Keeps later = later
act_then (OffersUnit unit) Keeps = OffersUnit unit
act_then (OffersUnit unit) (OffersUnit later) = OffersUnit later
act_then (OffersUnit unit) Revokes = Revokes
act_then Revokes Keeps = Revokes
act_then Revokes (OffersUnit later) = OffersUnit later
act_then Revokes Revokes = Revokes

-- one after another
abbrev pub done_then : TxDone → TxDone → TxDone
done_then first later = record { tick = later.tick; calls = first.calls ++ later.calls; act = act_then first.act later.act; records = first.records ++ later.records; new = later.new }

abbrev pub done_by_all : TxSet → (tick : ℕ) → TxStage → List TxEffect → TxDone
done_by_all set tick p [] = nothing_at tick p
done_by_all set tick p (effect ∷ later) = done_then (done_by set tick p effect) (done_by_all set tick (done_by set tick p effect).new later)

-- the event asks for a session: in a turn, and where the run ends
abbrev pub AsksForOne : TxEvent → Type 0
AsksForOne Turn = Unit {0}
AsksForOne (CameFc fs bs st) = ⊥
AsksForOne Left = ⊥
AsksForOne RunEnd = Unit {0}

-- a consecutive frame is one more of the transmission, and one less of its block
pub record IsOneMore (set : TxSet) (s : Transmission) (sent number block : ℕ) : Type 0 where
  pub some : 0 < s.sent
  pub sent_is : sent ≡ s.sent + next_part set s
  pub number_is : number ≡ (s.number + 1) % 16
  pub block_is : block ≡ s.block - 1

-- after a frame that isn't the last one left, a first frame and the last one of a block await a flow control, each other one its gap
pub data AwaitsNext (set : TxSet) (tick : ℕ) (s : Transmission) (sent number block : ℕ) (phase : Phase) : Type 0 where
  AfterFirst : s.sent ≡ 0 → sent ≡ next_part set s → number ≡ s.number → block ≡ s.block → phase ≡ Fc → AwaitsNext set tick s sent number block phase
  AfterBlock : IsOneMore set s sent number block → s.block ≡ 1 → phase ≡ Fc → AwaitsNext set tick s sent number block phase
  AfterNext : IsOneMore set s sent number block → (s.block ≡ 1 → ⊥) → phase ≡ Gap (record { 0 = tick + s.gap }) → AwaitsNext set tick s sent number block phase

-- what is kept of the last flow control that let frames come
abbrev pub KeepsBlock : Transmission → (block gap : ℕ) → Type 0
KeepsBlock s block gap = (block ≡ s.block) × (gap ≡ s.gap)

-- when a session waits for something else, and by which block and gap
pub data MayWait (set : TxSet) (tick : ℕ) (event : TxEvent) (s : Transmission) (phase : Phase) (block gap : ℕ) : Type 0 where
  IsReached : event ≡ Turn → s.phase ≡ Start → phase ≡ Bytes → KeepsBlock s block gap → MayWait set tick event s phase block gap
  GapIsOver : (until : Tick) → event ≡ Turn → s.phase ≡ Gap until → until.0 ≤ tick → phase ≡ Bytes → KeepsBlock s block gap → MayWait set tick event s phase block gap
  IsContinued : (bs st : ℕ) → event ≡ CameFc 0 bs st → s.phase ≡ Fc → phase ≡ Bytes → block ≡ bs → gap ≡ gap_in st set.period → MayWait set tick event s phase block gap
  IsPaused : (bs st : ℕ) → event ≡ CameFc 1 bs st → s.phase ≡ Fc → phase ≡ Fc → KeepsBlock s block gap → MayWait set tick event s phase block gap

-- all that was seen is read, and it is fewer bytes than the next frame takes
pub record IsShort (set : TxSet) (s : Transmission) (look : Look) : Type 0 where
  pub phase : s.phase ≡ Bytes
  pub all : s.at ≡ look.cells
  pub few : length s.carried < next_part set s

-- by what was seen the next frame's bytes will never be there
pub data NeverComes (set : TxSet) (s : Transmission) (look : Look) : Type 0 where
  NoNext : IsShort set s look → NeverComes set s look
  NoStart : s.phase ≡ Start → is_reached set s look ≡ false → NeverComes set s look

-- what was seen last, where there was a look
abbrev pub WasSeen : (Look → Type 0) → Option Look → Type 0
WasSeen P None = ⊥
WasSeen P (Some look) = P look

-- what an unfinished session shows of the result that it ends with
abbrev pub ShowsEnd : TxSet → (event : TxEvent) → Option Look → Transmission → DestResult → Type 0
ShowsEnd set event look s Sent = ⊥
ShowsEnd set event look s SourceEnded = WasSeen (λ seen. (seen.writer ≡ false) × NeverComes set s seen) look
ShowsEnd set event look s BsTimeout = s.phase ≡ Fc
ShowsEnd set event look s FcOverflow = s.phase ≡ Fc
ShowsEnd set event look s (InvalidFs status) = s.phase ≡ Fc
ShowsEnd set event look s (CsTimeout bytes) = WasSeen (λ seen. (seen.bytes ≡ bytes) × IsShort set s seen) look
ShowsEnd set event look s AsTimeout = s.phase ≡ Box
ShowsEnd set event look s Cancelled = ⊥
ShowsEnd set event look s (EndOfRun wait since) = event ≡ RunEnd

-- how a session ends: its last frame has left, or it is cut short, and a frame of it that lies in the box is revoked
pub data MayEnd (set : TxSet) (event : TxEvent) (look : Option Look) (s : Transmission) (sent : ℕ) (act : BoxMeaning) (result : DestResult) : Type 0 where
  IsWhole : event ≡ Left → s.phase ≡ Box → s.sent + next_part set s ≡ s.len → sent ≡ s.len → act ≡ Keeps → result ≡ Sent → MayEnd set event look s sent act result
  IsCut : (event ≡ Left → ⊥) → (result ≡ Sent → ⊥) → sent ≡ s.sent → act ≡ revoked s.phase → ShowsEnd set event look s result → MayEnd set event look s sent act result

-- the next frame is offered in a turn, once its bytes are there, and fits the channel's shape
pub record MayOffer (set : TxSet) (event : TxEvent) (s : Transmission) : Type 0 where
  pub turn : event ≡ Turn
  pub phase : s.phase ≡ Bytes
  pub enough : next_part set s ≤ length s.carried
  pub fits : fits_shape set.shape (next_unit set s) ≡ true

-- the frame in the box leaves, and more bytes are to come
pub record MayLeave (set : TxSet) (tick : ℕ) (event : TxEvent) (s : Transmission) (sent number block : ℕ) (phase : Phase) : Type 0 where
  pub left : event ≡ Left
  pub box : s.phase ≡ Box
  pub more : s.sent + next_part set s < s.len
  pub next : AwaitsNext set tick s sent number block phase

-- when an effect may be, by the event and what was seen last
abbrev pub MayBe : TxSet → (tick : ℕ) → TxEvent → Option Look → TxEffect → Type 0
MayBe set tick event look Misses = AsksForOne event
MayBe set tick event look (Joins buf len) = AsksForOne event × (0 < len)
MayBe set tick event look (Looks s seen) = event ≡ Turn
MayBe set tick event look (Reads s cells) = (event ≡ Turn) × All IsCell cells
MayBe set tick event look (Offers s) = MayOffer set event s
MayBe set tick event look (Leaves s sent number block phase) = MayLeave set tick event s sent number block phase
MayBe set tick event look (Waits s phase block gap) = MayWait set tick event s phase block gap
MayBe set tick event look (Ends s sent act result left) = MayEnd set event look s sent act result

-- the next effect of a step
pub record IsEffect (set : TxSet) (tick : ℕ) (p : TxStage) (effect : TxEffect) : Type 0 where
  pub event : TxEvent
  pub told : p.event ≡ Some event
  pub finds : p.live ≡ found_by effect
  pub may : MayBe set tick event p.look effect

-- effects one after another
abbrev pub AreEffects : TxSet → (tick : ℕ) → TxStage → List TxEffect → Type 0
AreEffects set tick p [] = Unit {0}
AreEffects set tick p (effect ∷ later) = IsEffect set tick p effect × AreEffects set tick (done_by set tick p effect).new later

-- a flow control is awaited
abbrev pub IsAwaiting : Phase → Type 0
IsAwaiting Start = ⊥
IsAwaiting Bytes = ⊥
IsAwaiting Box = ⊥
IsAwaiting Fc = Unit {0}
IsAwaiting (Gap until) = ⊥

abbrev pub Awaits : Option Transmission → Type 0
Awaits None = ⊥
Awaits (Some s) = IsAwaiting s.phase

-- nothing of the event is left to be done: a turn may come to nothing, and a flow control where none is awaited
abbrev pub IsSettled : Option TxEvent → Option Transmission → Type 0
IsSettled None live = Unit {0}
IsSettled (Some Turn) live = Unit {0}
IsSettled (Some (CameFc fs bs st)) live = Awaits live → ⊥
IsSettled (Some Left) live = ⊥
IsSettled (Some RunEnd) live = ⊥

-- as a step begins
abbrev pub first_stage : TxState → TxEvent → TxStage
first_stage old event = record { event = Some event; look = None; next = old.next; live = old.live }

-- a step is made of effects, whose calls, acts and records together are the step's
pub record IsMade (set : TxSet) (old : TxState) (event : TxEvent) (did : TxDid) : Type 0 where
  pub effects : List TxEffect
  pub are : AreEffects set did.tick (first_stage old event) effects
  pub calls : did.calls ≡ (done_by_all set did.tick (first_stage old event) effects).calls
  pub act : did.act ≡ (done_by_all set did.tick (first_stage old event) effects).act
  pub records : did.records ≡ (done_by_all set did.tick (first_stage old event) effects).records
  pub next : did.new.next ≡ (done_by_all set did.tick (first_stage old event) effects).new.next
  pub live : did.new.live ≡ (done_by_all set did.tick (first_stage old event) effects).new.live
  pub settled : IsSettled (done_by_all set did.tick (first_stage old event) effects).new.event did.new.live
