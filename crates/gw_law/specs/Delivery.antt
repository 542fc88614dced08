-- What a destination delivers of a source channel's units, by the records of both (ISO 15765-2, segmentation and reassembly).
use Rattle.std.specs.Prelude.{◌≡◌, ℕ, ◌≤◌, ◌↔◌, Bool, false, Some, None, List, filter, map, slice_get, take}
use Rattle.flow_plan.specs.Pace.{Control}
use Rattle.tp_sender.specs.Runs.{HasSent}
use Rattle.tp_sender.specs.State.{TxTurn, tx_new}
use Rattle.tp_receiver.specs.State.{RxTurn, rx_new}
use Rattle.tp_receiver.specs.Runs.{HasReceived, frames_in}
use Rattle.hub_core.specs.Turns.{calls_by, came_by, state_after, records_by}
use Rattle.std.specs.List.{AllByRecursion, AllZip}
use Rattle.hub_core.specs.Joint.{AreStreams}
use Rattle.hub_core.specs.View.{View, empty_view, grows}
use Rattle.hub_core.specs.declared.record.DestRecord.{DestRecord}
use Rattle.hub_core.specs.declared.record.DestResult.TheVariants.{Sent}
use Rattle.hub_core.specs.declared.record.OpenedAt.{OpenedAt}
use Rattle.hub_core.specs.declared.record.SessionRecord.{SessionRecord}
use Rattle.tp_attempts.specs.Attempts.{attempts_in}
use Rattle.tp_attempts.specs.Cuts.{Cut}
use Rattle.tp_attempts.specs.Seen.{Seen, len_of}
use Rattle.tp_attempts.specs.Walk.{walk_of, reassembled}
use Rattle.tp_receiver.specs.declared.set.RxSet.{RxSet}
use Rattle.tp_sender.specs.declared.set.TxSet.{TxSet}
use Rattle.tp_unit.specs.Shape.{IsShape}
use Rattle.receiver_law.specs.Source.{CountsFrom, sessions_in}
use Rattle.sender_law.specs.Transfer.{NumberedFrom, has_sent, transfer_of}
use Rattle.sender_law.specs.Pacing.{Paced}

-- what is told of a source channel, and of one destination of its path
pub record Delivery : Type 0 where
  -- the source channel: whether its frames are for many receivers at once, their address bytes, the frames that came, and the records of its units
  pub functional : Bool
  pub source : ℕ
  pub seen : List Seen
  pub received : List SessionRecord
  -- the destination's channel: the address bytes of its frames, the frames that left, what the flow controls that came ask for, and the destination's records
  pub address : ℕ
  pub frames : List Seen
  pub answers : List Control
  pub records : List DestRecord

-- the source unit that a session's number names: an attempt of the source, and the record at its place, which opened that session
pub record IsNamed (d : Delivery) (seq : ℕ) (unit : Cut Seen) (session : SessionRecord) : Type 0 where
  pub place : ℕ
  pub unit_is : slice_get (attempts_in d.functional d.seen) place ≡ Some unit
  pub session_is : slice_get d.received place ≡ Some session
  pub opened : OpenedAt
  pub opened_is : session.opened ≡ Some opened
  pub seq_is : opened.seq ≡ seq

-- a destination's record names a source unit, tells no more bytes than it has, and Sent exactly where it tells all of them
pub record Names (d : Delivery) (told : DestRecord) : Type 0 where
  pub unit : Cut Seen
  pub session : SessionRecord
  pub named : IsNamed d told.seq unit session
  pub most : told.sent ≤ len_of unit.start.meaning
  pub whole : (told.result ≡ Sent) ↔ (told.sent ≡ len_of unit.start.meaning)
  pub ticks : told.begin.0 ≤ told.end.0

-- a transmission has the length of the source unit that its record names, and reassembles to the first bytes of it, as many as the record tells
pub record Delivers (d : Delivery) (cut : Cut Seen) (told : DestRecord) : Type 0 where
  pub names : Names d told
  pub len : len_of cut.start.meaning ≡ len_of names.unit.start.meaning
  pub within : told.sent ≤ names.session.bytes
  pub bytes : reassembled d.address cut ≡ take told.sent (reassembled d.source names.unit)
  -- each of its frames counts, and they leave in the record's ticks and as the flow controls permit
  pub right : (walk_of d.address cut).wrong ≡ None
  pub ticks : AllByRecursion (λ piece. (told.begin.0 ≤ piece.at) × (piece.at ≤ told.end.0)) (walk_of d.address cut).pieces
  pub paced : Paced d.answers (walk_of d.address cut).pieces

-- the source's sessions are numbered in the order of its units, the destination's records are of those sessions, in order,
-- and its transmissions belong to the records with sent bytes, one for one and in order
pub record DeliveryLaw (d : Delivery) : Type 0 where
  pub sessions : CountsFrom 0 (sessions_in d.received)
  pub numbered : NumberedFrom 0 d.records
  pub names : AllByRecursion (Names d) d.records
  pub delivers : AllZip (Delivers d) (attempts_in false d.frames) (filter has_sent d.records)

-- what the runs of a receiver and of a sender tell
abbrev pub delivery_of : RxSet → List RxTurn → TxSet → List TxTurn → Delivery
delivery_of rx turns tx moments = record {
  functional = rx.functional;
  source = rx.a;
  seen = came_by frames_in turns;
  received = records_by turns;
  address = (transfer_of tx moments).address;
  frames = (transfer_of tx moments).frames;
  answers = (transfer_of tx moments).answers;
  records = (transfer_of tx moments).records;
}

-- whole runs of a receiver and of a sender of one path, and the joined view of their hub: the path's sessions are what the
-- receiver's calls made, the destination's readings what the sender's calls made, and what was read is a front of what was put
pub record AreWholeRuns (rx : RxSet) (turns : List RxTurn) (tx : TxSet) (moments : List TxTurn) (v : View) : Type 0 where
  pub shape : IsShape tx.shape
  pub path : tx.path ≡ rx.path
  pub received : HasReceived rx turns
  pub idle : (state_after rx_new turns).busy ≡ None
  pub sent : HasSent tx moments
  pub ended : (state_after tx_new moments).live ≡ None
  pub streams : AreStreams v
  pub sessions : v.sessions rx.path.0 ≡ (grows (calls_by turns) empty_view).sessions rx.path.0
  pub readings : v.readings tx.path.0 tx.dest.0 ≡ (grows (calls_by moments) empty_view).readings tx.path.0 tx.dest.0

-- the destination's records are of the source's sessions: of each one, in order, and of no others
abbrev pub AreOfEach : List SessionRecord → List DestRecord → Type 0
AreOfEach received records = map (λ (told : DestRecord). told.seq) records ≡ sessions_in received
