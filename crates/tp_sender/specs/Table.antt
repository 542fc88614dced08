-- What a step of a sender comes to: a row for each phase, event and case.
use Rattle.std.specs.Prelude.{◌≡◌, ℕ, ◌+◌, ◌-◌, ◌%◌, ◌<◌, ◌≤◌, Bool, true, false, not, ◌&&◌, ◌||◌, ◌==◌, nat_le, List, [], ◌∷◌, ◌++◌, length, map, take, drop, All, Option, Some, None}
use Rattle.flow_plan.specs.Gap.{gap_in}
use Rattle.gw_base.specs.Cell.{IsCell, bytes_of, count_of}
use Rattle.hub_core.specs.Calls.{freed_by}
use Rattle.hub_core.specs.View.{Event, Joining, Missed, Saw, Read, Parted}
use Rattle.hub_core.specs.declared.port.Left.{Left as LeftOver}
use Rattle.hub_core.specs.declared.port.Seen.{Seen as Look}
use Rattle.hub_core.specs.declared.record.DestResult.{DestResult}
use Rattle.hub_core.specs.declared.record.DestResult.TheVariants.{Sent, SourceEnded, BsTimeout, FcOverflow, InvalidFs, CsTimeout, AsTimeout, RunEnd as EndOfRun}
use Rattle.hub_core.specs.declared.record.TxWait.{TxWait}
use Rattle.hub_core.specs.declared.record.TxWait.TheVariants.{Start as ForStart, Turn as ForTurn, Fc as ForFc, Gap as ForGap, Bytes as ForBytes, Bus as ForBus}
use Rattle.tp_unit.specs.Shape.{fits_shape}
use Rattle.tp_unit.specs.Unit.{BoxMeaning, Keeps, Offers, Revokes}
use Rattle.tp_sender.specs.declared.event.TxEvent.{TxEvent}
use Rattle.tp_sender.specs.declared.event.TxEvent.TheVariants.{Turn, Fc as CameFc, Left, RunEnd}
use Rattle.tp_sender.specs.declared.transmission.Phase.{Phase}
use Rattle.tp_sender.specs.declared.transmission.Phase.TheVariants.{Start, Bytes, Box, Fc, Gap}
use Rattle.tp_sender.specs.declared.set.TxSet.{TxSet}
use Rattle.tp_sender.specs.Frame.{part_after, unit_after}
use Rattle.tp_sender.specs.State.{Transmission, TxDid, TxState}

-- nothing is done but that the session goes on so
pub record GoesOn (s : Transmission) (calls : List Event) (did : TxDid) : Type 0 where
  pub calls_are : calls ≡ []
  pub act : did.act ≡ Keeps
  pub records : did.records ≡ []
  pub live : did.new.live ≡ Some s

-- the destination leaves, and the session ends with this result in this tick
pub record Ends (set : TxSet) (s : Transmission) (act : BoxMeaning) (result : DestResult) (calls : List Event) (did : TxDid) : Type 0 where
  pub left : LeftOver
  pub calls_are : calls ≡ Parted set.path.0 set.dest.0 s.seq (freed_by left) ∷ []
  pub act_is : did.act ≡ act
  pub records : did.records ≡ record { path = set.path; dest = set.dest; seq = s.seq; begin = record { 0 = s.begin }; sent = s.sent; end = record { 0 = did.tick }; result = result } ∷ []
  pub live : did.new.live ≡ None

-- a frame that lies in the box is revoked
abbrev pub revoked : Phase → BoxMeaning
revoked Start = Keeps
revoked Bytes = Keeps
revoked Box = Revokes
revoked Fc = Keeps
revoked (Gap until) = Keeps

-- the phase begins in this tick
abbrev pub in_phase : Phase → ℕ → Transmission → Transmission
in_phase phase tick s = record s { phase = phase; since = tick }

-- the destination looks at what is published of the session
abbrev pub look_at : TxSet → Transmission → Look → Event
look_at set s look = Saw set.path.0 set.dest.0 s.seq look.cells look.bytes look.writer

-- the bytes that the session's next frame carries
abbrev pub next_part : TxSet → Transmission → ℕ
next_part set s = part_after set.shape s.len s.sent

-- each of these cells is read while fewer bytes than wanted are carried
abbrev pub AreWanted : (wanted carried : ℕ) → List ℕ → Type 0
AreWanted wanted carried [] = Unit {0}
AreWanted wanted carried (cell ∷ cells) = (carried < wanted) × AreWanted wanted (carried + count_of cell) cells

-- the session looks, and cells are read while fewer bytes are carried than the next frame takes, and cells are left
pub record Fetches (set : TxSet) (s : Transmission) (look : Look) (cells : List ℕ) (calls more : List Event) : Type 0 where
  pub calls_are : calls ≡ look_at set s look ∷ (map (Read set.path.0 set.dest.0 s.seq) cells ++ more)
  pub cells_only : All IsCell cells
  pub wanted : AreWanted (next_part set s) (length s.carried) cells
  pub left : s.at + length cells ≤ look.cells

-- the session with these cells
abbrev pub fetched : List ℕ → Transmission → Transmission
fetched cells s = record s { at = s.at + length cells; carried = s.carried ++ bytes_of cells }

-- all cells are read, and the bytes carried are fewer than the next frame takes
pub record FallsShort (set : TxSet) (s : Transmission) (look : Look) (cells : List ℕ) : Type 0 where
  pub all : s.at + length cells ≡ look.cells
  pub few : length (s.carried ++ bytes_of cells) < next_part set s

-- the next frame is offered into the box
pub record OffersNext (set : TxSet) (s : Transmission) (did : TxDid) : Type 0 where
  pub enough : next_part set s ≤ length s.carried
  pub act : did.act ≡ Offers (unit_after set.shape s.len s.sent s.number (take (next_part set s) s.carried))
  pub fits : fits_shape set.shape (unit_after set.shape s.len s.sent s.number (take (next_part set s) s.carried)) ≡ true
  pub records : did.records ≡ []
  pub live : did.new.live ≡ Some (in_phase Box did.tick (record s { carried = drop (next_part set s) s.carried }))

-- what comes of that: the session ends with its writer or with the limit, or goes on
pub data Lacks (set : TxSet) (s : Transmission) (look : Look) (calls : List Event) (did : TxDid) : Type 0 where
  WriterGone : look.writer ≡ false → Ends set s Keeps SourceEnded calls did → Lacks set s look calls did
  TooLate : look.writer ≡ true → s.since + set.n_cs ≤ did.tick → Ends set s Keeps (CsTimeout look.bytes) calls did → Lacks set s look calls did
  MayCome : look.writer ≡ true → did.tick < s.since + set.n_cs → GoesOn s calls did → Lacks set s look calls did

-- a turn in phase Bytes
pub data InBytes (set : TxSet) (s : Transmission) (calls : List Event) (did : TxDid) : Type 0 where
  Enough : (look : Look) (cells : List ℕ) → Fetches set s look cells calls [] → OffersNext set (fetched cells s) did → InBytes set s calls did
  Short : (look : Look) (cells : List ℕ) (more : List Event) → Fetches set s look cells calls more → FallsShort set s look cells → Lacks set (fetched cells s) look more did → InBytes set s calls did

-- enough is published to begin with: all bytes or, unless whole units are stored, as many cells as the threshold
abbrev pub is_reached : TxSet → Transmission → Look → Bool
is_reached set s look = look.bytes == s.len || not set.store && nat_le set.threshold look.cells

-- a turn in phase Start
pub data InStart (set : TxSet) (s : Transmission) (calls : List Event) (did : TxDid) : Type 0 where
  Reached : (look : Look) (more : List Event) → calls ≡ look_at set s look ∷ more → is_reached set s look ≡ true → InBytes set (in_phase Bytes did.tick s) more did → InStart set s calls did
  NeverReached : (look : Look) (more : List Event) → calls ≡ look_at set s look ∷ more → is_reached set s look ≡ false → look.writer ≡ false → Ends set s Keeps SourceEnded more did → InStart set s calls did
  NotReached : (look : Look) (more : List Event) → calls ≡ look_at set s look ∷ more → is_reached set s look ≡ false → look.writer ≡ true → GoesOn s more did → InStart set s calls did

-- a turn in a phase that waits for something else, up to a limit
pub data InWait (set : TxSet) (s : Transmission) (limit : ℕ) (result : DestResult) (calls : List Event) (did : TxDid) : Type 0 where
  Due : s.since + limit ≤ did.tick → Ends set s (revoked s.phase) result calls did → InWait set s limit result calls did
  NotDue : did.tick < s.since + limit → GoesOn s calls did → InWait set s limit result calls did

-- a turn in phase Gap
pub data InGap (set : TxSet) (s : Transmission) (until : ℕ) (calls : List Event) (did : TxDid) : Type 0 where
  GapOver : until ≤ did.tick → InBytes set (in_phase Bytes did.tick s) calls did → InGap set s until calls did
  GapLasts : did.tick < until → GoesOn s calls did → InGap set s until calls did

-- a turn, phase by phase
abbrev pub InTurn : TxSet → Transmission → Phase → List Event → TxDid → Type 0
InTurn set s Start calls did = InStart set s calls did
InTurn set s Bytes calls did = InBytes set s calls did
InTurn set s Box calls did = InWait set s set.n_as AsTimeout calls did
InTurn set s Fc calls did = InWait set s set.n_bs BsTimeout calls did
InTurn set s (Gap until) calls did = InGap set s until.0 calls did

-- a session as it is joined
abbrev pub joined_in : (tick seq len : ℕ) → Transmission
joined_in tick seq len = record { seq = seq; len = len; at = 0; carried = []; begin = tick; sent = 0; number = 1; block = 0; gap = 0; phase = Start; since = tick }

-- no session stands, and none is sent
pub record NoneStands (set : TxSet) (next : ℕ) (did : TxDid) : Type 0 where
  pub calls_are : did.calls ≡ Missed set.group.0 set.path.0 set.dest.0 next ∷ []
  pub act : did.act ≡ Keeps
  pub records : did.records ≡ []
  pub live : did.new.live ≡ None
  pub next_is : did.new.next ≡ next

-- the next session is joined
pub record JoinsNext (set : TxSet) (next buf len : ℕ) (more : List Event) (did : TxDid) : Type 0 where
  pub calls_are : did.calls ≡ Joining set.path.0 set.dest.0 next buf len ∷ more
  pub some : 0 < len
  pub next_is : did.new.next ≡ next + 1

-- a turn where nothing is sent
pub data IdleTurn (set : TxSet) (next : ℕ) (did : TxDid) : Type 0 where
  NothingToSend : NoneStands set next did → IdleTurn set next did
  Joins : (buf len : ℕ) (more : List Event) → JoinsNext set next buf len more did → InStart set (joined_in did.tick next len) more did → IdleTurn set next did

-- the run's end where nothing is sent: a session that stands is joined, and ends unsent
pub data IdleEnd (set : TxSet) (next : ℕ) (did : TxDid) : Type 0 where
  NothingStands : NoneStands set next did → IdleEnd set next did
  FindsOne : (buf len : ℕ) (more : List Event) → JoinsNext set next buf len more did →
      Ends set (joined_in did.tick next len) Keeps (EndOfRun ForTurn (record { 0 = did.tick })) more did → IdleEnd set next did

-- the whole unit left
abbrev pub all_sent : Transmission → Transmission
all_sent s = record s { sent = s.len }

-- a consecutive frame left: so many bytes were sent with it, and one frame less of its block may leave
abbrev pub next_sent : TxSet → Transmission → Transmission
next_sent set s = record s { sent = s.sent + next_part set s; number = (s.number + 1) % 16; block = s.block - 1 }

-- the frame in the box left: the last one ends the session, a first frame and the last one of a block await a flow control, each
-- other one its gap
pub data FrameLeft (set : TxSet) (s : Transmission) (calls : List Event) (did : TxDid) : Type 0 where
  LastLeft : s.sent + next_part set s ≡ s.len → Ends set (all_sent s) Keeps Sent calls did → FrameLeft set s calls did
  FirstLeft : s.sent ≡ 0 → next_part set s < s.len → GoesOn (in_phase Fc did.tick (record s { sent = next_part set s })) calls did → FrameLeft set s calls did
  BlockLeft : 0 < s.sent → s.sent + next_part set s < s.len → s.block ≡ 1 → GoesOn (in_phase Fc did.tick (next_sent set s)) calls did → FrameLeft set s calls did
  NextLeft : 0 < s.sent → s.sent + next_part set s < s.len → (s.block ≡ 1 → ⊥) → GoesOn (in_phase (Gap (record { 0 = did.tick + s.gap })) did.tick (next_sent set s)) calls did → FrameLeft set s calls did

-- the session with the block size and the separation time of a flow control that lets frames come
abbrev pub continued : TxSet → (bs st : ℕ) → Transmission → Transmission
continued set bs st s = record s { block = bs; gap = gap_in st set.period }

-- a flow control where one is awaited
pub data Answered (set : TxSet) (s : Transmission) (fs bs st : ℕ) (calls : List Event) (did : TxDid) : Type 0 where
  Continues : fs ≡ 0 → GoesOn (in_phase Bytes did.tick (continued set bs st s)) calls did → Answered set s fs bs st calls did
  AsksToWait : fs ≡ 1 → GoesOn (in_phase Fc did.tick s) calls did → Answered set s fs bs st calls did
  Overflows : fs ≡ 2 → Ends set s Keeps FcOverflow calls did → Answered set s fs bs st calls did
  IsInvalid : 2 < fs → Ends set s Keeps (InvalidFs fs) calls did → Answered set s fs bs st calls did

-- a flow control: in every phase but Fc it is ignored
abbrev pub InAnswer : TxSet → Transmission → Phase → (fs bs st : ℕ) → List Event → TxDid → Type 0
InAnswer set s Start fs bs st calls did = GoesOn s calls did
InAnswer set s Bytes fs bs st calls did = GoesOn s calls did
InAnswer set s Box fs bs st calls did = GoesOn s calls did
InAnswer set s Fc fs bs st calls did = Answered set s fs bs st calls did
InAnswer set s (Gap until) fs bs st calls did = GoesOn s calls did

-- what a phase waits for, in a record of the run's end
abbrev pub wait_of : Phase → TxWait
wait_of Start = ForStart
wait_of Bytes = ForBytes
wait_of Box = ForBus
wait_of Fc = ForFc
wait_of (Gap until) = ForGap

-- what happens to a session, event by event
abbrev pub LiveRow : TxSet → Transmission → TxEvent → List Event → TxDid → Type 0
LiveRow set s Turn calls did = InTurn set s s.phase calls did
LiveRow set s (CameFc fs bs st) calls did = InAnswer set s s.phase fs bs st calls did
LiveRow set s Left calls did = (s.phase ≡ Box) × FrameLeft set s calls did
LiveRow set s RunEnd calls did = Ends set s (revoked s.phase) (EndOfRun (wait_of s.phase) (record { 0 = s.since })) calls did

-- nothing is done, and nothing is sent
pub record StaysIdle (next : ℕ) (did : TxDid) : Type 0 where
  pub calls_are : did.calls ≡ []
  pub act : did.act ≡ Keeps
  pub records : did.records ≡ []
  pub live : did.new.live ≡ None
  pub next_is : did.new.next ≡ next

-- what happens where nothing is sent, event by event
abbrev pub IdleRow : TxSet → ℕ → TxEvent → TxDid → Type 0
IdleRow set next Turn did = IdleTurn set next did
IdleRow set next (CameFc fs bs st) did = StaysIdle next did
IdleRow set next Left did = ⊥
IdleRow set next RunEnd did = IdleEnd set next did

-- the rows of the table, state by state
abbrev pub TxRow : TxSet → ℕ → Option Transmission → TxEvent → TxDid → Type 0
TxRow set next None event did = IdleRow set next event did
TxRow set next (Some s) event did = LiveRow set s event did.calls did × (did.new.next ≡ next)

-- a step from this state
abbrev pub TxStep : TxSet → TxState → TxEvent → TxDid → Type 0
TxStep set old event did = TxRow set old.next old.live event did
