-- Why records of a source and of a destination end, where the other one's part decides it (ISO 15765-2, timers; the causes are this project's own).
use Rattle.std.specs.Prelude.{◌≡◌, ◌≢◌, ℕ, ◌+◌, ◌<◌, ◌≤◌, max, min, nat_lt, false, Some, List, [], filter, length, map, slice_get}
use Rattle.flow_plan.specs.Cells.{cells_for}
use Rattle.std.specs.List.{AllByRecursion, AllZip}
use Rattle.hub_core.specs.declared.record.DestRecord.{DestRecord}
use Rattle.hub_core.specs.declared.record.DestResult.{DestResult}
use Rattle.hub_core.specs.declared.record.DestResult.TheVariants.{Sent, SourceEnded, BsTimeout, FcOverflow, InvalidFs, CsTimeout, AsTimeout, Cancelled, RunEnd}
use Rattle.hub_core.specs.declared.record.OpenedAt.{OpenedAt}
use Rattle.hub_core.specs.declared.record.SessionRecord.{SessionRecord}
use Rattle.hub_core.specs.declared.record.SessionResult.TheVariants.{Whole, NoReaders}
use Rattle.tp_attempts.specs.Attempts.{attempts_in}
use Rattle.tp_attempts.specs.Cuts.{Cut}
use Rattle.tp_attempts.specs.Seen.{Seen}
use Rattle.tp_attempts.specs.Walk.{Piece, joined, walk_of}
use Rattle.tp_sender.specs.Frame.{part_after}
use Rattle.tp_unit.specs.Shape.{address_size}
use Rattle.gw_law.specs.Delivery.{IsNamed}
use Rattle.gw_law.specs.Account.{Route}
use Rattle.gw_law.specs.Timely.{came_by, delivery_of_route}
use Rattle.sender_law.specs.Pacing.{controls_of}
use Rattle.sender_law.specs.Transfer.{has_sent}
use Rattle.sender_law.specs.TransmissionCauses.{AllowedFrom, IsLate, left_in}

-- a destination ended neither whole, nor with its source, nor with the run
abbrev pub IsOwnEnd : DestResult → Type 0
IsOwnEnd Sent = ⊥
IsOwnEnd SourceEnded = ⊥
IsOwnEnd BsTimeout = Unit {0}
IsOwnEnd FcOverflow = Unit {0}
IsOwnEnd (InvalidFs status) = Unit {0}
IsOwnEnd (CsTimeout seen) = Unit {0}
IsOwnEnd AsTimeout = Unit {0}
IsOwnEnd Cancelled = Unit {0}
IsOwnEnd (RunEnd wait since) = ⊥

-- a destination no longer reads a session: it ended by itself, in a tick below a window from the session's end on
pub record IsUnread (r : Route) (session : SessionRecord) : Type 0 where
  pub opened : OpenedAt
  pub opened_is : session.opened ≡ Some opened
  pub told : DestRecord
  pub told_is : slice_get r.leg.dests opened.seq ≡ Some told
  pub seq_is : told.seq ≡ opened.seq
  pub before : told.end.0 < session.end.0 + r.window
  pub cause : IsOwnEnd told.result

-- each record that tells that no destination reads
abbrev pub AreUnread : Route → Type 0
AreUnread r = AllByRecursion (λ (session : SessionRecord). session.result ≡ NoReaders → IsUnread r session) r.source.sessions

-- what a session lacks: bytes of the next frame or, where no frame left, the bytes and cells from which on it is sent; its cells
-- are the fewest that hold its bytes, which says all where the threshold is one cell
pub data Lacks (r : Route) (session : SessionRecord) (sent : ℕ) : Type 0 where
  LacksNext : session.bytes < sent + part_after r.leg.tx.shape session.len sent → Lacks r session sent
  LacksStart : sent ≡ 0 → session.bytes ≢ session.len → (r.leg.tx.store ≡ false → cells_for session.bytes < r.leg.tx.threshold) → Lacks r session sent

-- the source ended below a window from then on, before its unit was whole, and without what comes next
pub record HasLostSource (r : Route) (told : DestRecord) : Type 0 where
  pub unit : Cut Seen
  pub session : SessionRecord
  pub named : IsNamed (delivery_of_route r) told.seq unit session
  pub broken : session.result ≢ Whole
  pub ended : session.end.0 < told.end.0 + r.window
  pub lacks : Lacks r session told.sent

-- so many bytes of the source's unit were seen, and they are fewer than the next frame takes
pub record HasSeenFew (r : Route) (told : DestRecord) (seen : ℕ) : Type 0 where
  pub unit : Cut Seen
  pub session : SessionRecord
  pub named : IsNamed (delivery_of_route r) told.seq unit session
  pub least : told.sent ≤ seen
  pub most : seen ≤ session.bytes
  pub few : seen < told.sent + part_after r.leg.tx.shape session.len told.sent

-- what a destination's record says of its source, by the result
abbrev pub IsShortBy : Route → DestRecord → DestResult → Type 0
IsShortBy r told Sent = Unit {0}
IsShortBy r told SourceEnded = HasLostSource r told
IsShortBy r told BsTimeout = Unit {0}
IsShortBy r told FcOverflow = Unit {0}
IsShortBy r told (InvalidFs status) = Unit {0}
IsShortBy r told (CsTimeout seen) = HasSeenFew r told seen
IsShortBy r told AsTimeout = Unit {0}
IsShortBy r told Cancelled = Unit {0}
IsShortBy r told (RunEnd wait since) = Unit {0}

-- each record that tells that bytes were lacking
abbrev pub AreShort : Route → Type 0
AreShort r = AllByRecursion (λ (told : DestRecord). IsShortBy r told told.result) r.leg.dests

-- a destination that ended with its source, and whose frames left in these ticks, did so at most in the greatest of its record's
-- begin, the tick from which its next frame was allowed, and the tick a window after the session's end
abbrev pub IsSoonOver : Route → List ℕ → DestRecord → Type 0
IsSoonOver r ticks told = (unit : Cut Seen) (session : SessionRecord) → IsNamed (delivery_of_route r) told.seq unit session → told.result ≡ SourceEnded →
    (from : ℕ) → AllowedFrom (controls_of r.leg.tx.period r.leg.answers) told.begin.0 ticks told.end.0 from → told.end.0 ≤ max (max told.begin.0 from) (session.end.0 + r.window)

-- each record of the destination: those with sent bytes by their transmissions, and the others by no frames
pub record AreSoonOver (r : Route) : Type 0 where
  pub sent : AllZip (λ cut told. IsSoonOver r (left_in (address_size r.leg.tx.shape) cut) told) (attempts_in false (delivery_of_route r).frames) (filter has_sent r.leg.dests)
  pub unsent : AllByRecursion (λ (told : DestRecord). told.sent ≡ 0 → IsSoonOver r [] told) r.leg.dests

-- the frames of a transmission that left before a tick
abbrev pub left_before : ℕ → List Piece → List Piece
left_before tick pieces = filter (λ (piece : Piece). nat_lt piece.at tick) pieces

-- by a tick a destination waits too long for bytes: its start left before, the next frame was allowed at least as many ticks ago as the limit,
-- and fewer bytes of the session came in ticks below a window from it on than were sent and the next frame carries
pub record WaitsTooLong (r : Route) (unit : Cut Seen) (session : SessionRecord) (begin : ℕ) (pieces : List Piece) (tick : ℕ) : Type 0 where
  pub started : 0 < length (left_before tick pieces)
  pub late : IsLate r.leg.tx.n_cs (controls_of r.leg.tx.period r.leg.answers) begin (map (λ (piece : Piece). piece.at) (left_before tick pieces)) tick
  pub lacks : came_by r unit session tick < length (joined (left_before tick pieces)) + part_after r.leg.tx.shape session.len (length (joined (left_before tick pieces)))

-- a transmission doesn't wait so in a tick below its record's end
abbrev pub EndsInTime : Route → Cut Seen → DestRecord → Type 0
EndsInTime r cut told = (unit : Cut Seen) (session : SessionRecord) → IsNamed (delivery_of_route r) told.seq unit session → (tick : ℕ) → tick < told.end.0 →
    WaitsTooLong r unit session told.begin.0 (walk_of (address_size r.leg.tx.shape) cut).pieces tick → ⊥

-- none of a run's transmissions does
abbrev pub NoneWaitsTooLong : Route → Type 0
NoneWaitsTooLong r = AllZip (EndsInTime r) (attempts_in false (delivery_of_route r).frames) (filter has_sent r.leg.dests)

-- each record whose end the other party's part decides comes of its cause
pub record JointCauses (r : Route) : Type 0 where
  pub unread : AreUnread r
  pub short : AreShort r
  pub soon : AreSoonOver r
  pub in_time : NoneWaitsTooLong r
