-- Why each session of a destination ended, as far as its own frames and flow controls tell it (ISO 15765-2, network layer timing).
use Rattle.std.specs.Prelude.{◌≡◌, ℕ, ◌+◌, ◌<◌, ◌≤◌, Bool, true, false, nat_le, Option, List, [], ◌∷◌, length, filter, map}
use Rattle.flow_plan.specs.Pace.{Awaits, Control, May, Refused, pace_once}
use Rattle.tp_unit.specs.Box.{Written}
use Rattle.std.specs.List.{AllByRecursion, AllZip}
use Rattle.hub_core.specs.declared.record.DestRecord.{DestRecord}
use Rattle.hub_core.specs.declared.record.DestResult.{DestResult}
use Rattle.hub_core.specs.declared.record.DestResult.TheVariants.{Sent, SourceEnded, BsTimeout, FcOverflow, InvalidFs, CsTimeout, AsTimeout, Cancelled, RunEnd}
use Rattle.hub_core.specs.declared.record.TxWait.{TxWait}
use Rattle.hub_core.specs.declared.record.TxWait.TheVariants.{Start, Turn, Fc, Gap, Bytes, Bus}
use Rattle.tp_attempts.specs.Attempts.{attempts_in}
use Rattle.tp_attempts.specs.Cuts.{Cut}
use Rattle.tp_attempts.specs.Seen.{Seen, carries}
use Rattle.tp_attempts.specs.Walk.{walk_of}
use Rattle.tp_sender.specs.declared.set.TxSet.{TxSet}
use Rattle.tp_unit.specs.Shape.{address_size}
use Rattle.sender_law.specs.Channel.{DestChannel}
use Rattle.sender_law.specs.Pacing.{controls_of}
use Rattle.sender_law.specs.Runs.{TxRun, leg_of}
use Rattle.sender_law.specs.Transfer.{has_sent, seen_of}

-- the frames of a transmission that left up to a tick, by their ticks
abbrev pub left_up_to : ℕ → List ℕ → List ℕ
left_up_to tick ticks = filter (λ at. nat_le at tick) ticks

-- the last of some ticks
abbrev pub last_of : ℕ → List ℕ → ℕ
last_of tick [] = tick
last_of tick (next ∷ later) = last_of next later

-- by what came up to a tick the next frame of a transmission may leave from that one on: where none left, from the session's begin;
-- else by its pace, once its frames left
abbrev pub AllowedFrom : List Control → (begin : ℕ) → List ℕ → (tick from : ℕ) → Type 0
AllowedFrom controls begin [] tick from = from ≡ begin
AllowedFrom controls begin (first ∷ later) tick from = (gap : ℕ) × (more : Option ℕ) × (pace_once tick first controls later ≡ May from gap more)

-- it was allowed by a tick
pub record IsAllowed (controls : List Control) (begin : ℕ) (ticks : List ℕ) (tick by : ℕ) : Type 0 where
  pub from : ℕ
  pub allowed : AllowedFrom controls begin ticks tick from
  pub by_is : from ≤ by

-- it was allowed at least as many ticks ago as the limit
pub record IsLate (limit : ℕ) (controls : List Control) (begin : ℕ) (ticks : List ℕ) (tick : ℕ) : Type 0 where
  pub from : ℕ
  pub allowed : AllowedFrom controls begin ticks tick from
  pub late : from + limit ≤ tick

-- by what came up to a tick a flow control is awaited since that one, once these frames left
abbrev pub AwaitsSince : List Control → List ℕ → (tick since : ℕ) → Type 0
AwaitsSince controls [] tick since = ⊥
AwaitsSince controls (first ∷ later) tick since = (left : ℕ) × (pace_once tick first controls later ≡ Awaits left since)

-- by what left and came up to a tick, a flow control is awaited for as many ticks as the limit in that one
pub record IsOverdue (limit : ℕ) (controls : List Control) (ticks : List ℕ) (tick : ℕ) : Type 0 where
  pub since : ℕ
  pub awaits : AwaitsSince controls (left_up_to tick ticks) tick since
  pub due : since + limit ≡ tick

-- by what came up to a tick a flow control of that one refused the message, with that status
abbrev pub IsRefused : List Control → List ℕ → (tick at status : ℕ) → Type 0
IsRefused controls [] tick at status = ⊥
IsRefused controls (first ∷ later) tick at status = pace_once tick first controls later ≡ Refused at status

-- the last frame left in that tick
abbrev pub LeftIn : List ℕ → (tick : ℕ) → Type 0
LeftIn [] tick = ⊥
LeftIn (first ∷ later) tick = last_of first later ≡ tick

-- the bus is full in each tick from one on, below another
abbrev pub IsFullFrom : (full : ℕ → Bool) → (from to : ℕ) → Type 0
IsFullFrom full from to = (tick : ℕ) → from ≤ tick → tick < to → full tick ≡ true

-- the next frame was allowed as many ticks ago as the limit, and the bus was full for it ever since
pub record IsBlocked (limit : ℕ) (full : ℕ → Bool) (controls : List Control) (begin : ℕ) (ticks : List ℕ) (tick : ℕ) : Type 0 where
  pub since : ℕ
  pub allowed : IsAllowed controls begin ticks tick since
  pub blocked : IsFullFrom full since tick
  pub over : since + limit ≡ tick

-- the gap isn't over in a tick
pub record IsInGap (controls : List Control) (begin : ℕ) (ticks : List ℕ) (tick : ℕ) : Type 0 where
  pub until : ℕ
  pub allowed : AllowedFrom controls begin ticks tick until
  pub lasts : tick < until

-- the run's last tick cuts a session short while it waits, since a tick, for its start, its turn, a flow control, the gap, bytes or the bus
abbrev pub WaitOf : (full : ℕ → Bool) → TxSet → List Control → (last begin : ℕ) → List ℕ → (sent : ℕ) → TxWait → (since : ℕ) → Type 0
WaitOf full tx controls last begin ticks sent Start since = (since ≡ begin) × (sent ≡ 0)
WaitOf full tx controls last begin ticks sent Turn since = (since ≡ last) × (begin ≡ last) × (sent ≡ 0)
WaitOf full tx controls last begin ticks sent Fc since = AwaitsSince controls ticks last since × (last < since + tx.n_bs)
WaitOf full tx controls last begin ticks sent Gap since = LeftIn ticks since × IsInGap controls begin ticks last
WaitOf full tx controls last begin ticks sent Bytes since = IsAllowed controls begin ticks last since × (last < since + tx.n_cs)
WaitOf full tx controls last begin ticks sent Bus since = IsAllowed controls begin ticks last since × IsFullFrom full since (last + 1) × (last < since + tx.n_as)

-- what brings each result about, of a session that began, whose frames left in these ticks, and that ended; nothing is cancelled
abbrev pub CauseOf : (full : ℕ → Bool) → TxSet → List Control → (last begin : ℕ) → List ℕ → (end sent : ℕ) → DestResult → Type 0
CauseOf full tx controls last begin ticks end sent Sent = LeftIn ticks end
CauseOf full tx controls last begin ticks end sent SourceEnded = IsAllowed controls begin ticks end end
CauseOf full tx controls last begin ticks end sent BsTimeout = IsOverdue tx.n_bs controls ticks end
CauseOf full tx controls last begin ticks end sent FcOverflow = IsRefused controls ticks end end 2
CauseOf full tx controls last begin ticks end sent (InvalidFs status) = IsRefused controls ticks end end status × (2 < status)
CauseOf full tx controls last begin ticks end sent (CsTimeout seen) = IsLate tx.n_cs controls begin ticks end
CauseOf full tx controls last begin ticks end sent AsTimeout = IsBlocked tx.n_as full controls begin ticks end
CauseOf full tx controls last begin ticks end sent Cancelled = ⊥
CauseOf full tx controls last begin ticks end sent (RunEnd wait since) = (end ≡ last) × (since.0 ≤ last) × WaitOf full tx controls last begin ticks sent wait since.0

-- in a tick nothing is passed over: no flow control refuses the message, none is overdue, and where the start left and the bus has a
-- place, the next frame, which didn't leave up to that tick, isn't late
pub record IsInTime (full : ℕ → Bool) (tx : TxSet) (controls : List Control) (begin : ℕ) (ticks : List ℕ) (tick : ℕ) : Type 0 where
  pub accepted : (at status : ℕ) → IsRefused controls (left_up_to tick ticks) tick at status → ⊥
  pub answered : IsOverdue tx.n_bs controls ticks tick → ⊥
  pub leaves : full tick ≡ false → 0 < length (left_up_to tick ticks) → IsLate tx.n_cs controls begin (left_up_to tick ticks) tick → ⊥

-- a record whose session's frames left in these ticks tells the cause of its end, and none stood before
pub record IsCaused (full : ℕ → Bool) (tx : TxSet) (controls : List Control) (last : ℕ) (ticks : List ℕ) (told : DestRecord) : Type 0 where
  pub cause : CauseOf full tx controls last told.begin.0 ticks told.end.0 told.sent told.result
  pub in_time : (tick : ℕ) → told.begin.0 ≤ tick → tick < told.end.0 → IsInTime full tx controls told.begin.0 ticks tick

-- the ticks in which the frames of a transmission left
abbrev pub left_in : (address : ℕ) → Cut Seen → List ℕ
left_in address cut = map (λ piece. piece.at) (walk_of address cut).pieces

-- a route's record, with its transmission
abbrev pub IsCausedWith : (full : ℕ → Bool) → DestChannel → Cut Seen → DestRecord → Type 0
IsCausedWith full r cut told = IsCaused full r.tx (controls_of r.tx.period r.answers) r.last (left_in (address_size r.tx.shape) cut) told

-- a record of no sent bytes has no transmission
abbrev pub IsCausedUnsent : (full : ℕ → Bool) → DestChannel → DestRecord → Type 0
IsCausedUnsent full r told = told.sent ≡ 0 → IsCaused full r.tx (controls_of r.tx.period r.answers) r.last [] told

-- each record of the destination is caused, by the ticks in which its bus was full: those with sent bytes by their transmissions,
-- one for one and in order
pub record TransmissionCauses (full : ℕ → Bool) (r : DestChannel) : Type 0 where
  pub sent : AllZip (IsCausedWith full r) (attempts_in false (map (seen_of (address_size r.tx.shape)) r.frames)) (filter has_sent r.dests)
  pub unsent : AllByRecursion (IsCausedUnsent full r) r.dests

-- these are all frames of the channel: those that carry data are the destination's own
abbrev pub HasDataOf : DestChannel → List Written → Type 0
HasDataOf c out = filter carries (map (seen_of (address_size c.tx.shape)) out) ≡ map (seen_of (address_size c.tx.shape)) c.frames

-- with these as all frames of a run's channel each record has its cause
abbrev pub CausesAmong : (budget : ℕ) → TxRun → List Written → Type 0
CausesAmong budget run out = HasDataOf (leg_of budget run) out → TransmissionCauses run.full (record (leg_of budget run) { frames = out })
