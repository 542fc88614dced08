-- What a destination's channel wrote, by the records of its sessions (ISO 15765-2, segmentation and flow control).
use Rattle.std.specs.Prelude.{◌≡◌, ℕ, ◌+◌, ◌<◌, ◌≤◌, ◌↔◌, nat_lt, Bool, true, false, Option, Some, None, List, [], ◌∷◌, ◌++◌, length, map, filter, slice_get, take}
use Rattle.flow_plan.specs.Pace.{Control}
use Rattle.tp_unit.specs.Box.{Written}
use Rattle.tp_sender.specs.Runs.{controls_in, cells_in, left_by, lens_in}
use Rattle.tp_sender.specs.State.{TxTurn, tx_new, Transmission}
use Rattle.hub_core.specs.Turns.{came_by, calls_by, now_of, state_after, records_by}
use Rattle.std.specs.List.{AllByRecursion, AllZip}
use Rattle.gw_base.specs.Cell.{bytes_of}
use Rattle.hub_core.specs.declared.record.DestRecord.{DestRecord}
use Rattle.hub_core.specs.declared.record.DestResult.TheVariants.{Sent}
use Rattle.tp_attempts.specs.Attempts.{attempts_in}
use Rattle.tp_attempts.specs.Cuts.{Cut}
use Rattle.tp_attempts.specs.Seen.{Seen, seen_frame, len_of, is_data}
use Rattle.tp_attempts.specs.Walk.{walk_of, reassembled}
use Rattle.tp_sender.specs.declared.set.TxSet.{TxSet}
use Rattle.tp_unit.specs.Shape.{address_size}
use Rattle.sender_law.specs.Pacing.{Paced, controls_of}
use Rattle.tp_unit.specs.Unit.{Meaning, SingleFrame, FirstFrame, ConsecutiveFrame, FlowControl, NoUnit}

-- what is told of a destination and its channel
pub record Transfer : Type 0 where
  -- the address bytes of the channel's frames, the frames that left, and what the flow controls that came ask for
  pub address : ℕ
  pub frames : List Seen
  pub answers : List Control
  -- the length of each session that was joined, in bytes, and the bytes that were read of it, by its number
  pub lens : List ℕ
  pub read : ℕ → List ℕ
  -- the records of the sessions that ended, and the session that is being sent
  pub records : List DestRecord
  pub live : Option Transmission
  -- the present tick
  pub now : ℕ

-- a consecutive frame
abbrev pub is_consecutive : Meaning → Bool
is_consecutive (SingleFrame bytes) = false
is_consecutive (FirstFrame len bytes) = false
is_consecutive (ConsecutiveFrame number bytes) = true
is_consecutive (FlowControl status block_size separation) = false
is_consecutive (NoUnit why) = false

-- the ticks of a transmission's frames: its start, and the consecutive frames up to the next start
abbrev pub ticks_of : Cut Seen → List ℕ
ticks_of cut = cut.start.at ∷ map (λ seen. seen.at) (filter (λ seen. is_consecutive seen.meaning) cut.after)

-- a transmission of the session with that number sends its first bytes in these ticks: each of its frames counts, and all are paced
pub record Sends (t : Transfer) (seq : ℕ) (sent begin end : ℕ) (cut : Cut Seen) : Type 0 where
  pub len : slice_get t.lens seq ≡ Some (len_of cut.start.meaning)
  pub within : sent ≤ length (t.read seq)
  pub bytes : reassembled t.address cut ≡ take sent (t.read seq)
  pub right : (walk_of t.address cut).wrong ≡ None
  pub counts : map (λ piece. piece.at) (walk_of t.address cut).pieces ≡ ticks_of cut
  pub ticks : AllByRecursion (λ piece. (begin ≤ piece.at) × (piece.at ≤ end)) (walk_of t.address cut).pieces
  pub paced : Paced t.answers (walk_of t.address cut).pieces

-- as a record tells
abbrev pub SendsFor : Transfer → Cut Seen → DestRecord → Type 0
SendsFor t cut told = Sends t told.seq told.sent told.begin.0 told.end.0 cut

-- a record's session was joined, no more of it was sent than read, and Sent is told exactly where that is its length
pub record Tells (t : Transfer) (told : DestRecord) : Type 0 where
  pub len : ℕ
  pub joined : slice_get t.lens told.seq ≡ Some len
  pub most : told.sent ≤ len
  pub whole : (told.result ≡ Sent) ↔ (told.sent ≡ len)
  pub ticks : told.begin.0 ≤ told.end.0

-- the records are of the sessions with these numbers, in order, each once
abbrev pub NumberedFrom : ℕ → List DestRecord → Type 0
NumberedFrom number [] = Unit {0}
NumberedFrom number (told ∷ later) = (told.seq ≡ number) × NumberedFrom (number + 1) later

-- some bytes were sent
abbrev pub has_sent : DestRecord → Bool
has_sent told = nat_lt 0 told.sent

-- the transmission that is still going on, where one is, is of the session that is being sent
abbrev pub GoesOnWith : Transfer → ℕ → Option Transmission → List (Cut Seen) → Type 0
GoesOnWith t now None going = going ≡ []
GoesOnWith t now (Some s) [] = s.sent ≡ 0
GoesOnWith t now (Some s) (cut ∷ more) = (more ≡ []) × (0 < s.sent) × Sends t s.seq s.sent s.begin now cut

-- the transmissions that ended belong to the records with sent bytes, one for one and in order, and at most one goes on
pub record TransferLaw (t : Transfer) : Type 0 where
  pub numbered : NumberedFrom 0 t.records
  pub told : AllByRecursion (Tells t) t.records
  pub ended : List (Cut Seen)
  pub going : List (Cut Seen)
  pub cut : attempts_in false t.frames ≡ ended ++ going
  pub sends : AllZip (SendsFor t) ended (filter has_sent t.records)
  pub goes_on : GoesOnWith t t.now t.live going

-- a written frame as reassembly sees it
abbrev pub seen_of : ℕ → Written → Seen
seen_of address written = seen_frame address written.tick written.frame

-- what a run tells
abbrev pub transfer_of : TxSet → List TxTurn → Transfer
transfer_of set moments = record {
  address = address_size set.shape;
  frames = map (seen_of (address_size set.shape)) (left_by set.shape moments);
  answers = controls_of set.period (came_by controls_in moments);
  lens = lens_in (calls_by moments);
  read = λ number. bytes_of (cells_in number (calls_by moments));
  records = records_by moments;
  live = (state_after tx_new moments).live;
  now = now_of moments;
}

-- the law of all frames that left on a channel, with frames between the sender's that carry no data
abbrev pub TransfersAmong : TxSet → List TxTurn → List Seen → Type 0
TransfersAmong set turns frames = filter (λ (s : Seen). is_data s.meaning) frames ≡ (transfer_of set turns).frames → TransferLaw (record (transfer_of set turns) { frames = frames })
