-- What the record of a reception comes of (ISO 15765-2, segmentation and reassembly, N_Ar, N_Br, N_Cr and N_WFTmax).
use Rattle.std.specs.Prelude.{◌≡◌, ◌⊎◌, ℕ, ◌+◌, ◌<◌, ◌≤◌, Bool, max, Some, List, ◌∷◌, ◌++◌, drop, length, map, slice_get}
use Rattle.std.specs.List.{AllByRecursion, AllZip}
use Rattle.flow_plan.specs.Cells.{cells_for}
use Rattle.hub_core.specs.declared.record.RxLimit.{RxLimit}
use Rattle.hub_core.specs.declared.record.RxLimit.TheVariants.{Box as BoxLimit, Cf as CfLimit}
use Rattle.hub_core.specs.declared.record.RxWait.{RxWait}
use Rattle.hub_core.specs.declared.record.RxWait.TheVariants.{Box, Room, Cf}
use Rattle.hub_core.specs.declared.record.SessionRecord.{SessionRecord}
use Rattle.hub_core.specs.declared.record.SessionResult.{SessionResult}
use Rattle.hub_core.specs.declared.record.SessionResult.TheVariants.{Whole, Overflow, WrongSn, RxTimeout, Restarted, NoRoom, WaitOver, NoReaders, Cancelled, RunEnd}
use Rattle.tp_attempts.specs.Attempts.{attempts_in}
use Rattle.tp_attempts.specs.Cuts.{Cut}
use Rattle.tp_attempts.specs.Seen.{Seen}
use Rattle.tp_attempts.specs.Walk.{Piece, joined, last_place, walk_of}
use Rattle.tp_receiver.specs.declared.set.RxSet.{RxSet}
use Rattle.receiver_law.specs.Channel.{SourceChannel}
use Rattle.receiver_law.specs.FlowControls.{IsAnswered, IsFullFrom, IsLate, LetsNoneCome}
use Rattle.receiver_law.specs.Receptions.{Continue, ControlLeft, Received, Wait, controls_of, counted, frames_of, last_by, waits_in, written_as}

-- the next start of the channel has its record, which begins in that tick
pub record NextBegins (records : List SessionRecord) (n tick : ℕ) : Type 0 where
  pub next : SessionRecord
  pub is : slice_get records (n + 1) ≡ Some next
  pub begins : next.begin.0 ≡ tick

-- the start and the counted frames that were put, whose bytes are told
pub record ArePut (pieces : List Piece) (bytes : ℕ) (put : List Piece) : Type 0 where
  pub rest : List Piece
  pub are : pieces ≡ put ++ rest
  pub sum : bytes ≡ length (joined put)

-- the next counted frame after those that were put stands in that tick
pub record IsNextIn (pieces : List Piece) (bytes tick : ℕ) (piece : Piece) : Type 0 where
  pub put : List Piece
  pub rest : List Piece
  pub are : pieces ≡ put ++ piece ∷ rest
  pub sum : bytes ≡ length (joined put)
  pub at : piece.at ≡ tick

-- a flow control was asked for in that tick: after the start or the last frame put, or as the pause was over that the
-- newest one asked for
pub data IsAskedIn (set : RxSet) (put : List Piece) (begin tick : ℕ) (controls : List ControlLeft) : Type 0 where
  AfterFrame : last_place begin put ≡ tick → IsAskedIn set put begin tick controls
  AfterPause : (control : ControlLeft) (earlier : List ControlLeft) → controls ≡ control ∷ earlier →
      control.kind ≡ Wait → control.tick + set.n_br ≡ tick → IsAskedIn set put begin tick controls

-- a flow control lay in the box from that tick on, and none of the session leaves from then on
pub record LiesSince (full : ℕ → Bool) (begin since to : ℕ) (controls : List ControlLeft) : Type 0 where
  pub from : begin ≤ since
  pub kept : IsFullFrom full since to
  pub none_later : AllByRecursion (λ (control : ControlLeft). control.tick < since) controls

-- a time limit is over in the tick of the end: of the flow control in its box, or of the next consecutive frame
pub record IsBoxLate (full : ℕ → Bool) (set : RxSet) (one : Received) : Type 0 where
  pub since : ℕ
  pub limit : since + set.n_ar ≡ one.told.end.0
  pub lies : LiesSince full one.told.begin.0 since one.told.end.0 one.controls

abbrev pub IsOverLimit : (full : ℕ → Bool) → RxSet → Cut Seen → Received → RxLimit → Type 0
IsOverLimit full set attempt one BoxLimit = IsBoxLate full set one
IsOverLimit full set attempt one CfLimit = IsLate set (frames_of set.a attempt) (last_by one.told.end.0 one.controls) one.told.end.0

-- as many flow controls as are configured asked to wait, one after another, since the last frame put, as a further one
-- was asked for
pub record IsWaitOver (set : RxSet) (attempt : Cut Seen) (one : Received) : Type 0 where
  pub put : List Piece
  pub are_put : ArePut (walk_of set.a attempt).pieces one.told.bytes put
  pub many : set.wft_max ≤ waits_in one.told.end.0 (drop 1 put) one.controls
  pub asked : IsAskedIn set put one.told.begin.0 one.told.end.0 one.controls

-- no destination reads, as the next counted frame found, or as a flow control was asked for
pub data IsUnread (set : RxSet) (attempt : Cut Seen) (one : Received) : Type 0 where
  FoundByFrame : (piece : Piece) → IsNextIn (walk_of set.a attempt).pieces one.told.bytes one.told.end.0 piece →
      IsUnread set attempt one
  FoundByGrant : (put : List Piece) → ArePut (walk_of set.a attempt).pieces one.told.bytes put →
      IsAskedIn set put one.told.begin.0 one.told.end.0 one.controls → IsUnread set attempt one

-- the next counted frame takes so many cells, and fewer had room; it wasn't let come
pub record IsTooFull (full : ℕ → Bool) (set : RxSet) (attempt : Cut Seen) (one : Received) (room need : ℕ) : Type 0 where
  pub piece : Piece
  pub next : IsNextIn (walk_of set.a attempt).pieces one.told.bytes one.told.end.0 piece
  pub need_is : need ≡ cells_for (length piece.bytes)
  pub little : room < need
  pub none : LetsNoneCome full (drop 1 next.put) one.controls one.told.end.0

-- a consecutive frame is awaited since the newest flow control left that lets frames come, or since the last counted
-- frame
pub record IsAwaited (set : RxSet) (attempt : Cut Seen) (one : Received) (since last : ℕ) : Type 0 where
  pub left : ℕ
  pub block : ℕ
  pub earlier : List ControlLeft
  pub newest : one.controls ≡ record { tick = left; kind = Continue block } ∷ earlier
  pub lets : (block ≡ 0) ⊎ (counted (left + 1) last (frames_of set.a attempt) < block)
  pub since_is : since ≡ max left (last_place one.told.begin.0 (walk_of set.a attempt).pieces)
  pub in_time : last < since + set.n_cr

-- room is awaited since the newest flow control left, which asked to wait
pub record IsPaused (set : RxSet) (one : Received) (since last : ℕ) : Type 0 where
  pub earlier : List ControlLeft
  pub newest : one.controls ≡ record { tick = since; kind = Wait } ∷ earlier
  pub in_time : last < since + set.n_br

-- what is waited for at the run's end, since a tick
abbrev pub StillWaits : (full : ℕ → Bool) → RxSet → (last : ℕ) → Cut Seen → Received → ℕ → RxWait → Type 0
StillWaits full set last attempt one since Box = LiesSince full one.told.begin.0 since (last + 1) one.controls ×
    (last < since + set.n_ar)
StillWaits full set last attempt one since Room = IsPaused set one since last
StillWaits full set last attempt one since Cf = IsAwaited set attempt one since last

-- what a result comes of; that a buffer was missing, which need a start has and which number was wrong is told by
-- other laws
abbrev pub HasCause : (full : ℕ → Bool) → SourceChannel → Cut Seen → Received → SessionResult → Type 0
HasCause full r attempt one Whole = one.told.end.0 ≡ last_place one.told.begin.0 (walk_of r.rx.a attempt).pieces
HasCause full r attempt one (Overflow change free need) = Unit {0}
HasCause full r attempt one (WrongSn want got) = Unit {0}
HasCause full r attempt one (RxTimeout limit) = IsOverLimit full r.rx attempt one limit
HasCause full r attempt one Restarted = NextBegins r.sessions one.told.n one.told.end.0
HasCause full r attempt one (NoRoom room need) = IsTooFull full r.rx attempt one room need
HasCause full r attempt one WaitOver = IsWaitOver r.rx attempt one
HasCause full r attempt one NoReaders = IsUnread r.rx attempt one
HasCause full r attempt one Cancelled = ⊥
HasCause full r attempt one (RunEnd wait since) = (one.told.end.0 ≡ r.last) × (since.0 ≤ r.last) ×
    StillWaits full r.rx r.last attempt one since.0 wait

-- a reception has its flow controls, and its record comes of its cause
pub record IsReception (full : ℕ → Bool) (r : SourceChannel) (attempt : Cut Seen) (one : Received) : Type 0 where
  pub answered : IsAnswered full r attempt one
  pub caused : HasCause full r attempt one one.told.result

-- each attempt of the channel is a reception, whose record is told; and the flow controls that left are those of the
-- receptions, in order, written in the channel's shape
pub record ReceptionLaw (full : ℕ → Bool) (r : SourceChannel) : Type 0 where
  pub receptions : List Received
  pub are : AllZip (IsReception full r) (attempts_in r.rx.functional r.seen) receptions
  pub sessions : r.sessions ≡ map (λ (one : Received). one.told) receptions
  pub controls : r.controls ≡ map (written_as r.rx r.shape) (controls_of receptions)
