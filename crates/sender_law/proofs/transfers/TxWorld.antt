-- How far a destination and its channel are: what holds of all lists so far.
use Rattle.std.proofs.Common.{◌≡◌, ℕ, ◌+◌, ◌%◌, ◌<◌, ◌≤◌, Option, Some, None, List, [], ◌∷◌, ◌++◌, length, true, false, sym, subst, ◌∙◌, arith, length-append}
use Rattle.tp_sender.specs.declared.transmission.Phase.{Phase}
use Rattle.tp_sender.specs.declared.transmission.Phase.TheVariants.{Start, Bytes, Box, Fc, Gap}
use Rattle.flow_plan.specs.Pace.{Awaits, Control}
use Rattle.tp_sender.specs.State.{Transmission}
use Rattle.std.proofs.lemmas.List.{take-append-le}
use Rattle.std.specs.Prelude.{filter, map, slice_get}
use Rattle.std.specs.List.{AllByRecursion, AllZip}
use Rattle.hub_core.specs.declared.record.DestRecord.{DestRecord}
use Rattle.tp_attempts.specs.Attempts.{attempts_in}
use Rattle.tp_attempts.specs.Cuts.{Cut}
use Rattle.tp_attempts.specs.Seen.{Seen, len_of}
use Rattle.tp_attempts.specs.Walk.{Piece, Walk, joined, walk_of}
use Rattle.tp_sender.specs.Frame.{part_after, unit_after}
use Rattle.tp_unit.specs.declared.shape.Shape.{Shape}
use Rattle.tp_unit.specs.Shape.{address_size, fits_shape}
use Rattle.tp_unit.specs.Unit.{Meaning}
use Rattle.sender_law.specs.Transfer.{NumberedFrom, Sends, SendsFor, Tells, Transfer, has_sent, ticks_of}
use Rattle.sender_law.specs.Pacing.{Paced}
use Rattle.gw_base.proofs.Lists.{all-weaker, slice_get-more, zip-weaker}
use Rattle.sender_law.proofs.transfers.TxPaces.{Permits, come-after, pace_after, paced-more}

-- what is told, and besides: what lies in the box, the tick after the last frame's, the number of the next session
pub record World : Type 0 where
  pub told : Transfer
  pub box : Option Meaning
  pub clear : ℕ
  pub next : ℕ

-- before the first frame left
abbrev pub IsEarly : Phase → Type 0
IsEarly Start = Unit {0}
IsEarly Bytes = Unit {0}
IsEarly Box = Unit {0}
IsEarly Fc = ⊥
IsEarly (Gap until) = ⊥

-- a flow control is awaited that answers a frame which left before
pub record Unanswered (answers : List Control) (clear : ℕ) (pieces : List Piece) : Type 0 where
  pub left : ℕ
  pub since : ℕ
  pub is : pace_after answers pieces ≡ Awaits left since
  pub before : left < clear

-- from which tick on the next frame may leave
abbrev pub Ready : List Control → (clear : ℕ) → List Piece → (block gap : ℕ) → Phase → ℕ → Type 0
Ready answers clear pieces block gap Start since = ⊥
Ready answers clear pieces block gap Bytes since = Permits answers pieces block gap since
Ready answers clear pieces block gap Box since = Permits answers pieces block gap since
Ready answers clear pieces block gap Fc since = Unanswered answers clear pieces
Ready answers clear pieces block gap (Gap until) since = Permits answers pieces block gap until.0

-- the frames that left carry the first bytes
pub record IsOnWay (shape : Shape) (answers : List Control) (clear begin now len : ℕ) (taken : List ℕ) (walk : Walk) : Type 0 where
  pub len_is : walk.len ≡ len
  pub size : length taken < len → walk.size ≡ shape.dl
  pub right : walk.wrong ≡ None
  pub bytes : joined walk.pieces ≡ taken
  pub ticks : AllByRecursion (λ piece. (begin ≤ piece.at) × (piece.at ≤ now)) walk.pieces
  pub clear_is : AllByRecursion (λ piece. piece.at < clear) walk.pieces
  pub paced : Paced answers walk.pieces

-- nothing left yet, or a transmission is going on
pub data Way (shape : Shape) (answers : List Control) (clear begin now len number sent block gap : ℕ) (taken : List ℕ) (phase : Phase) (since : ℕ) (going : List (Cut Seen)) : Type 0 where
  Unsent : sent ≡ 0 → number ≡ 1 → taken ≡ [] → going ≡ [] → IsEarly phase → Way shape answers clear begin now len number sent block gap taken phase since going
  UnderWay : (cut : Cut Seen) → 0 < sent → going ≡ cut ∷ [] → number ≡ length (walk_of (address_size shape) cut).pieces % 16 → IsOnWay shape answers clear begin now len taken (walk_of (address_size shape) cut) →
      map (λ piece. piece.at) (walk_of (address_size shape) cut).pieces ≡ ticks_of cut → Ready answers clear (walk_of (address_size shape) cut).pieces block gap phase since → Way shape answers clear begin now len number sent block gap taken phase since going

-- the next frame lies in the box
pub record IsBoxed (shape : Shape) (len sent number : ℕ) (box : Option Meaning) (offered : List ℕ) : Type 0 where
  pub lies : box ≡ Some (unit_after shape len sent number offered)
  pub part : length offered ≡ part_after shape len sent
  pub fits : fits_shape shape (unit_after shape len sent number offered) ≡ true

-- what is offered in the box
abbrev pub Boxed : Shape → (len sent number : ℕ) → Phase → Option Meaning → List ℕ → Type 0
Boxed shape len sent number Start box offered = offered ≡ []
Boxed shape len sent number Bytes box offered = offered ≡ []
Boxed shape len sent number Box box offered = IsBoxed shape len sent number box offered
Boxed shape len sent number Fc box offered = offered ≡ []
Boxed shape len sent number (Gap until) box offered = offered ≡ []

-- the session that is being sent
pub record GoesOn (shape : Shape) (w : World) (s : Transmission) (going : List (Cut Seen)) : Type 0 where
  pub joined_is : slice_get w.told.lens s.seq ≡ Some s.len
  pub next : s.seq + 1 ≡ w.next
  pub before : length w.told.records ≡ s.seq
  pub unfinished : s.sent < s.len
  pub begin : s.begin ≤ w.told.now
  pub since : s.since ≤ w.told.now
  pub taken : List ℕ
  pub offered : List ℕ
  pub read : w.told.read s.seq ≡ taken ++ (offered ++ s.carried)
  pub sent : length taken ≡ s.sent
  pub box : Boxed shape s.len s.sent s.number s.phase w.box offered
  pub way : Way shape w.told.answers w.clear s.begin w.told.now s.len s.number s.sent s.block s.gap taken s.phase s.since going

abbrev pub Lives : Shape → World → Option Transmission → List (Cut Seen) → Type 0
Lives shape w None going = (going ≡ []) × (length w.told.records ≡ w.next)
Lives shape w (Some s) going = GoesOn shape w s going

-- a transmission is as its record tells, and all of its frames left
pub record HasSentFor (t : Transfer) (clear : ℕ) (cut : Cut Seen) (told : DestRecord) : Type 0 where
  pub sends : SendsFor t cut told
  pub clear_is : AllByRecursion (λ (piece : Piece). piece.at < clear) (walk_of t.address cut).pieces

-- all so far
pub record SoFar (shape : Shape) (w : World) : Type 0 where
  pub address : w.told.address ≡ address_size shape
  pub past : AllByRecursion (λ (c : Control). c.tick ≤ w.told.now) w.told.answers
  pub clear_now : w.clear ≤ w.told.now + 1
  pub numbered : NumberedFrom 0 w.told.records
  pub tells : AllByRecursion (Tells w.told) w.told.records
  pub lens : length w.told.lens ≡ w.next
  pub unread : (number : ℕ) → w.next ≤ number → w.told.read number ≡ []
  pub ended : List (Cut Seen)
  pub going : List (Cut Seen)
  pub cut : attempts_in false w.told.frames ≡ ended ++ going
  pub sends : AllZip (HasSentFor w.told w.clear) ended (filter has_sent w.told.records)
  pub lives : Lives shape w w.told.live going

-- flow controls are added that come after all frames
pub record AnswersMore (clear : ℕ) (old new : List Control) : Type 0 where
  pub more : List Control
  pub are : new ≡ old ++ more
  pub after : AllByRecursion (λ (c : Control). clear ≤ c.tick) more

-- what is told grows: flow controls, lengths and bytes are added
pub record Grows (v w : World) : Type 0 where
  pub address : w.told.address ≡ v.told.address
  pub clear : v.clear ≤ w.clear
  pub answers : AnswersMore v.clear v.told.answers w.told.answers
  pub lens : (more : List ℕ) × (w.told.lens ≡ v.told.lens ++ more)
  pub read : (number : ℕ) → (more : List ℕ) × (w.told.read number ≡ v.told.read number ++ more)

sends-on : (v w : World) (seq sent begin end : ℕ) (cut : Cut Seen) → Grows v w → AllByRecursion (λ (piece : Piece). piece.at < v.clear) (walk_of v.told.address cut).pieces → Sends v.told seq sent begin end cut → Sends w.told seq sent begin end cut
sends-on v w seq sent begin end cut grows clear is = record {
  len = rw grows.lens.1 (slice_get-more v.told.lens grows.lens.0 seq (len_of cut.start.meaning) is.len);
  within = rw (grows.read seq).1 (omega (arith, length-append (v.told.read seq) (grows.read seq).0, is.within));
  bytes = rw (grows.address, (grows.read seq).1) (is.bytes ∙ sym (take-append-le sent (v.told.read seq) (grows.read seq).0 is.within));
  right = rw grows.address is.right;
  counts = rw grows.address is.counts;
  ticks = rw grows.address is.ticks;
  paced = rw (grows.address, grows.answers.are) (paced-more v.told.answers grows.answers.more (walk_of v.told.address cut).pieces (come-after v.clear (walk_of v.told.address cut).pieces grows.answers.more clear grows.answers.after) is.paced);
}

pub sent-on : (v w : World) (cut : Cut Seen) (told : DestRecord) → Grows v w → HasSentFor v.told v.clear cut told → HasSentFor w.told w.clear cut told
sent-on v w cut told grows is = record {
  sends = sends-on v w told.seq told.sent told.begin.0 told.end.0 cut grows is.clear_is is.sends;
  clear_is = rw grows.address (all-weaker (λ (piece : Piece). piece.at < v.clear) (λ (piece : Piece). piece.at < w.clear) (walk_of v.told.address cut).pieces (λ piece lt. omega (arith, lt, grows.clear)) is.clear_is);
}

pub tells-on : (v w : World) (told : DestRecord) → Grows v w → Tells v.told told → Tells w.told told
tells-on v w told grows is = record {
  len = is.len;
  joined = rw grows.lens.1 (slice_get-more v.told.lens grows.lens.0 told.seq is.len is.joined);
  most = is.most;
  whole = is.whole;
  ticks = is.ticks;
}

-- records stay, and the session goes on or is joined; the frames are cut so
pub so-cut : (shape : Shape) (v w : World) (going : List (Cut Seen)) → (so : SoFar shape v) → Grows v w → AllByRecursion (λ (c : Control). c.tick ≤ w.told.now) w.told.answers → w.clear ≤ w.told.now + 1 →
    attempts_in false w.told.frames ≡ so.ended ++ going → w.told.records ≡ v.told.records → length w.told.lens ≡ w.next →
    ((number : ℕ) → w.next ≤ number → w.told.read number ≡ []) → Lives shape w w.told.live going → SoFar shape w
so-cut shape v w going so grows past clear cut records lens unread lives =
    let T : List DestRecord → Type 0 = λ r. AllByRecursion (Tells w.told) r in
    let Z : List DestRecord → Type 0 = λ r. AllZip (HasSentFor w.told w.clear) so.ended (filter has_sent r) in
    record {
      address = grows.address ∙ so.address;
      past = past;
      clear_now = clear;
      numbered = rw records so.numbered;
      tells = subst T (sym records) (all-weaker (Tells v.told) (Tells w.told) v.told.records (λ told. tells-on v w told grows) so.tells);
      lens = lens;
      unread = unread;
      ended = so.ended;
      going = going;
      cut = cut;
      sends = subst Z (sym records) (zip-weaker (HasSentFor v.told v.clear) (HasSentFor w.told w.clear) so.ended (filter has_sent v.told.records) (λ c told. sent-on v w c told grows) so.sends);
      lives = lives;
    }

-- frames stay too
pub so-on : (shape : Shape) (v w : World) → (so : SoFar shape v) → Grows v w → AllByRecursion (λ (c : Control). c.tick ≤ w.told.now) w.told.answers → w.clear ≤ w.told.now + 1 → w.told.frames ≡ v.told.frames →
    w.told.records ≡ v.told.records → length w.told.lens ≡ w.next → ((number : ℕ) → w.next ≤ number → w.told.read number ≡ []) → Lives shape w w.told.live so.going → SoFar shape w
so-on shape v w so grows past clear frames records lens unread lives = so-cut shape v w so.going so grows past clear (rw frames so.cut) records lens unread lives
