-- A frame leaves, a session ends, or another frame of the channel leaves.
use Rattle.std.proofs.Common.{◌≡◌, ℕ, ◌+◌, ◌-◌, ◌%◌, ◌<◌, ◌≤◌, Option, Some, None, List, [], ◌∷◌, ◌++◌, length, true, false, refl, ap, sym, subst, ◌∙◌, arith, append-nil, length-append}
use Rattle.tp_sender.specs.declared.transmission.Phase.{Phase}
use Rattle.flow_plan.specs.Pace.{Control}
use Rattle.tp_sender.specs.State.{Transmission}
use Rattle.std.proofs.Common.{Bool}
use Rattle.tp_unit.proofs.RoundTrip.{reads_back}
use Rattle.std.specs.Prelude.{filter, map, slice_get, ◌==◌, if◌then◌else◌}
use Rattle.std.specs.List.{AllByRecursion, AllZip}
use Rattle.std.proofs.Math.Seq.{take-append_seam}
use Rattle.std.proofs.lemmas.Bool.Decides.{nat_tests}
use Rattle.std.proofs.lemmas.List.Elements.{filter-append}
use Rattle.hub_core.specs.declared.record.DestRecord.{DestRecord}
use Rattle.hub_core.specs.declared.record.DestResult.{DestResult}
use Rattle.hub_core.specs.declared.record.DestResult.TheVariants.{Sent}
use Rattle.gw_base.specs.declared.numbers.DestNo.{DestNo}
use Rattle.gw_base.specs.declared.numbers.PathNo.{PathNo}
use Rattle.tp_attempts.specs.Attempts.{attempts_in}
use Rattle.tp_attempts.specs.Cuts.{Cut}
use Rattle.tp_attempts.specs.Seen.{Seen, bytes_of, is_start}
use Rattle.tp_attempts.specs.Walk.{Piece, Walk, joined, walk_of}
use Rattle.tp_attempts.proofs.Cuts.{cuts-begin, cuts-more}
use Rattle.tp_attempts.proofs.Walks.{joined-more, len-walk_of, walk_of-more}
use Rattle.tp_sender.specs.Frame.{part_after, start_with, unit_after}
use Rattle.tp_unit.specs.declared.shape.Shape.{Shape}
use Rattle.tp_unit.specs.Shape.{IsShape, address_size, fits_shape, part_of_consecutive, part_of_start}
use Rattle.tp_unit.specs.Unit.{Meaning, ConsecutiveFrame}
use Rattle.std.proofs.lemmas.List.{map-append}
use Rattle.sender_law.specs.Transfer.{Sends, SendsFor, Tells, Transfer, has_sent, is_consecutive, ticks_of}
use Rattle.sender_law.proofs.transfers.TxFrames.{Begins, begins, looks-next, seen_unit}
use Rattle.gw_base.proofs.Lists.{all-push, all-weaker, zip-push, zip-weaker}
use Rattle.sender_law.proofs.Lists.{numbered-next}
use Rattle.sender_law.proofs.transfers.TxMoves.{grows-same, lives-some}
use Rattle.sender_law.proofs.transfers.TxPaces.{Permits, paced-next}
use Rattle.sender_law.proofs.transfers.TxWorld.{GoesOn, Grows, HasSentFor, IsOnWay, Lives, SoFar, Way, World, Unsent, UnderWay, sent-on, tells-on}
use Rattle.tp_attempts.proofs.Segments.{with_piece}

-- the frames that left are a transmission of the session
pub sends-way : (shape : Shape) (t : Transfer) (seq len sent begin clear : ℕ) (taken rest : List ℕ) (cut : Cut Seen) → t.address ≡ address_size shape → slice_get t.lens seq ≡ Some len → t.read seq ≡ taken ++ rest → length taken ≡ sent →
    IsOnWay shape t.answers clear begin t.now len taken (walk_of (address_size shape) cut) → map (λ piece. piece.at) (walk_of (address_size shape) cut).pieces ≡ ticks_of cut → Sends t seq sent begin t.now cut
sends-way shape t seq len sent begin clear taken rest cut address joined_is read count way every = record {
  len = joined_is ∙ ap Some (sym way.len_is ∙ len-walk_of (address_size shape) cut);
  within = rw read (omega (arith, length-append taken rest, count));
  bytes = rw (address, read, ← count) (way.bytes ∙ sym (take-append_seam taken rest));
  right = rw address way.right;
  counts = rw address every;
  ticks = rw address way.ticks;
  paced = rw address way.paced;
}

-- the last transmission is as the record tells, where it tells of sent bytes
pub data LastIs (t : Transfer) (clear : ℕ) (told : DestRecord) (last : List (Cut Seen)) : Type 0 where
  NoneSent : last ≡ [] → told.sent ≡ 0 → LastIs t clear told last
  OneSent : (cut : Cut Seen) → last ≡ cut ∷ [] → 0 < told.sent → HasSentFor t clear cut told → LastIs t clear told last

filter-sent : (records : List DestRecord) (told : DestRecord) (b : Bool) → has_sent told ≡ b → filter has_sent (records ++ told ∷ []) ≡ filter has_sent records ++ (if b then told ∷ [] else [])
filter-sent records told b is = filter-append has_sent records (told ∷ []) ∙ rw is refl

-- the transmissions that ended, with the last one
pub record Closes (t : Transfer) (clear : ℕ) (frames : List Seen) (records : List DestRecord) (told : DestRecord) : Type 0 where
  pub all : List (Cut Seen)
  pub cut : attempts_in false frames ≡ all ++ []
  pub sends : AllZip (HasSentFor t clear) all (filter has_sent (records ++ told ∷ []))

closes : (t : Transfer) (clear : ℕ) (frames : List Seen) (records : List DestRecord) (told : DestRecord) (ended last : List (Cut Seen)) → attempts_in false frames ≡ ended ++ last → AllZip (HasSentFor t clear) ended (filter has_sent records) →
    LastIs t clear told last → Closes t clear frames records told
closes t clear frames records told ended last cut sends (NoneSent none zero_sent) =
    let kept : filter has_sent (records ++ told ∷ []) ≡ filter has_sent records = filter-sent records told false (grind (arith, nat_tests)) ∙ append-nil (filter has_sent records) in
    let Z : List DestRecord → Type 0 = λ r. AllZip (HasSentFor t clear) ended r in
    record { all = ended; cut = cut ∙ ap (λ l. ended ++ l) none; sends = subst Z (sym kept) sends }
closes t clear frames records told ended last cut sends (OneSent one is some right) =
    let more : filter has_sent (records ++ told ∷ []) ≡ filter has_sent records ++ told ∷ [] = filter-sent records told true (grind (arith, nat_tests)) in
    let Z : List DestRecord → Type 0 = λ r. AllZip (HasSentFor t clear) (ended ++ one ∷ []) r in
    record { all = ended ++ one ∷ []; cut = cut ∙ ap (λ l. ended ++ l) is ∙ sym (append-nil (ended ++ one ∷ [])); sends = subst Z (sym more) (zip-push (HasSentFor t clear) ended (filter has_sent records) one told sends right) }

-- one more session is told of
pub finishes : (shape : Shape) (v w : World) (told : DestRecord) (last : List (Cut Seen)) → (so : SoFar shape v) → Grows v w → AllByRecursion (λ (c : Control). c.tick ≤ w.told.now) w.told.answers → w.clear ≤ w.told.now + 1 →
    attempts_in false w.told.frames ≡ so.ended ++ last → w.told.records ≡ v.told.records ++ told ∷ [] → w.told.live ≡ None → told.seq ≡ length v.told.records → length v.told.records + 1 ≡ w.next → length w.told.lens ≡ w.next →
    ((number : ℕ) → w.next ≤ number → w.told.read number ≡ []) → Tells w.told told → LastIs w.told w.clear told last → SoFar shape w
finishes shape v w told last so grows past clear cut records idle seq next lens unread tells last_is =
    let T : List DestRecord → Type 0 = λ r. AllByRecursion (Tells w.told) r in
    let sends : AllZip (HasSentFor w.told w.clear) so.ended (filter has_sent v.told.records) =
    zip-weaker (HasSentFor v.told v.clear) (HasSentFor w.told w.clear) so.ended (filter has_sent v.told.records) (λ c d. sent-on v w c d grows) so.sends in
    let all : Closes w.told w.clear w.told.frames v.told.records told = closes w.told w.clear w.told.frames v.told.records told so.ended last cut sends last_is in
    let Z : List DestRecord → Type 0 = λ r. AllZip (HasSentFor w.told w.clear) all.all (filter has_sent r) in
    let L : Option Transmission → Type 0 = λ l. Lives shape w l [] in
    let count : length w.told.records ≡ w.next = ap length records ∙ length-append v.told.records (told ∷ []) ∙ next in
    record {
      address = grows.address ∙ so.address;
      past = past;
      clear_now = clear;
      numbered = rw records (numbered-next 0 v.told.records told so.numbered (omega (arith, seq)));
      tells = subst T (sym records) (all-push (Tells w.told) v.told.records told (all-weaker (Tells v.told) (Tells w.told) v.told.records (λ d. tells-on v w d grows) so.tells) tells);
      lens = lens;
      unread = unread;
      ended = all.all;
      going = [];
      cut = all.cut;
      sends = subst Z (sym records) all.sends;
      lives = subst L (sym idle) (refl, count);
    }

-- the session ends with that record
abbrev pub record_of : PathNo → DestNo → Transmission → ℕ → ℕ → DestResult → DestRecord
record_of path dest s sent tick result = record { path = path; dest = dest; seq = s.seq; begin = record { 0 = s.begin }; sent = sent; end = record { 0 = tick }; result = result }

abbrev pub ends : PathNo → DestNo → Transmission → DestResult → Option Meaning → World → World
ends path dest s result box w = record w { told = record w.told { records = w.told.records ++ record_of path dest s s.sent w.told.now result ∷ []; live = None }; box = box }

last-way : (shape : Shape) (t : Transfer) (told : DestRecord) (clear number block gap : ℕ) (s : Transmission) (taken rest : List ℕ) (phase : Phase) (since : ℕ) (going : List (Cut Seen)) → told.sent ≡ s.sent →
    ((cut : Cut Seen) → Sends t s.seq s.sent s.begin t.now cut → SendsFor t cut told) → t.address ≡ address_size shape → slice_get t.lens s.seq ≡ Some s.len → t.read s.seq ≡ taken ++ rest → length taken ≡ s.sent →
    Way shape t.answers clear s.begin t.now s.len number s.sent block gap taken phase since going → LastIs t clear told going
last-way shape t told clear number block gap s taken rest phase since going sent same address joined_is read count (Unsent none first bytes cuts early) = NoneSent cuts (sent ∙ none)
last-way shape t told clear number block gap s taken rest phase since going sent same address joined_is read count (UnderWay cut some cuts pieces way every ready) =
    OneSent cut cuts (omega (arith, sent, some)) (record { sends = same cut (sends-way shape t s.seq s.len s.sent s.begin clear taken rest cut address joined_is read count way every); clear_is = rw address way.clear_is })

pub ended : (shape : Shape) (w : World) (s : Transmission) (path : PathNo) (dest : DestNo) (result : DestResult) (box : Option Meaning) → w.told.live ≡ Some s → (result ≡ Sent → ⊥) → SoFar shape w → SoFar shape (ends path dest s result box w)
ended shape w s path dest result box is not_sent so =
    let on : GoesOn shape w s so.going = lives-some shape w w.told.live s so.going is so.lives in
    let told : DestRecord = record_of path dest s s.sent w.told.now result in
    let t : Transfer = (ends path dest s result box w).told in
    finishes shape w (ends path dest s result box w) told so.going so (grows-same w (ends path dest s result box w) (omega arith) refl refl refl (λ number. refl)) so.past so.clear_now so.cut refl refl (sym on.before) (omega (arith, on.before, on.next)) so.lens so.unread
    (record { len = s.len; joined = on.joined_is; most = omega (arith, on.unfinished); whole = ((λ e. absurd (not_sent e)), (λ e. absurd (omega (arith, e, on.unfinished)))); ticks = on.begin })
    (last-way shape t told w.clear s.number s.block s.gap s on.taken (on.offered ++ s.carried) s.phase s.since so.going refl (λ cut sends. sends) so.address on.joined_is on.read on.sent on.way)

-- the frame in the box leaves
unit-first : (shape : Shape) (len sent number : ℕ) (bytes : List ℕ) → sent ≡ 0 → unit_after shape len sent number bytes ≡ start_with shape len bytes
unit-first shape len sent number bytes is = rw is refl

part-first : (shape : Shape) (len sent : ℕ) → sent ≡ 0 → part_after shape len sent ≡ (part_of_start shape len).bytes
part-first shape len sent is = rw is refl

not-first : (sent : ℕ) → 0 < sent → (sent == 0) ≡ false
not-first sent some = grind (arith, nat_tests)

unit-next : (shape : Shape) (len sent number : ℕ) (bytes : List ℕ) → 0 < sent → unit_after shape len sent number bytes ≡ ConsecutiveFrame number bytes
unit-next shape len sent number bytes some = rw (not-first sent some) refl

part-next : (shape : Shape) (len sent : ℕ) → 0 < sent → part_after shape len sent ≡ part_of_consecutive shape (len - sent)
part-next shape len sent some = rw (not-first sent some) refl

-- the frames with one more: it belongs to this transmission, which carries these bytes
pub record Leaves (shape : Shape) (answers : List Control) (begin now len : ℕ) (taken : List ℕ) (frames : List Seen) (unit : Meaning) (ended : List (Cut Seen)) (pieces : List Piece) (offered : List ℕ) : Type 0 where
  pub cut : Cut Seen
  pub cuts : attempts_in false (frames ++ seen_unit shape now unit ∷ []) ≡ ended ++ cut ∷ []
  pub way : IsOnWay shape answers (now + 1) begin now len (taken ++ offered) (walk_of (address_size shape) cut)
  pub every : map (λ piece. piece.at) (walk_of (address_size shape) cut).pieces ≡ ticks_of cut
  pub pieces_are : (walk_of (address_size shape) cut).pieces ≡ pieces ++ record { at = now; bytes = offered } ∷ []

ticks-by : (cut : Cut Seen) (seen : Seen) (b : Bool) → is_consecutive seen.meaning ≡ b → ticks_of (record { start = cut.start; after = cut.after ++ seen ∷ [] }) ≡ ticks_of cut ++ map (λ (s : Seen). s.at) (if b then seen ∷ [] else [])
ticks-by cut seen b is =
    let kept : filter (λ (s : Seen). is_consecutive s.meaning) (cut.after ++ seen ∷ []) ≡ filter (λ (s : Seen). is_consecutive s.meaning) cut.after ++ (if b then seen ∷ [] else []) =
    filter-append (λ (s : Seen). is_consecutive s.meaning) cut.after (seen ∷ []) ∙ rw is refl in
    ap (λ l. cut.start.at ∷ map (λ (s : Seen). s.at) l) kept ∙ ap (λ l. cut.start.at ∷ l) (map-append (λ (s : Seen). s.at) (filter (λ (s : Seen). is_consecutive s.meaning) cut.after) (if b then seen ∷ [] else []))

pub ticks-next : (cut : Cut Seen) (seen : Seen) → is_consecutive seen.meaning ≡ true → ticks_of (record { start = cut.start; after = cut.after ++ seen ∷ [] }) ≡ ticks_of cut ++ seen.at ∷ []
ticks-next cut seen is = ticks-by cut seen true is

pub ticks-same : (cut : Cut Seen) (seen : Seen) → is_consecutive seen.meaning ≡ false → ticks_of (record { start = cut.start; after = cut.after ++ seen ∷ [] }) ≡ ticks_of cut
ticks-same cut seen is = ticks-by cut seen false is ∙ append-nil (ticks_of cut)

pub leaves-first : (shape : Shape) (answers : List Control) (begin now len sent number : ℕ) (frames : List Seen) (ended : List (Cut Seen)) (offered : List ℕ) → IsShape shape → begin ≤ now → attempts_in false frames ≡ ended → sent ≡ 0 →
    length offered ≡ part_after shape len sent → fits_shape shape (unit_after shape len sent number offered) ≡ true →
    Leaves shape answers begin now len [] frames (unit_after shape len sent number offered) ended [] offered
leaves-first shape answers begin now len sent number frames ended offered sound le cut none part fits =
    let F : Meaning → Type 0 = λ u. fits_shape shape u ≡ true in
    let G : Meaning → Type 0 = λ u. Leaves shape answers begin now len [] frames u ended [] offered in
    let unit : unit_after shape len sent number offered ≡ start_with shape len offered = unit-first shape len sent number offered none in
    let x : Seen = seen_unit shape now (start_with shape len offered) in
    let is : Begins shape len offered x = begins shape now len offered sound (subst F unit fits) (part ∙ part-first shape len sent none) in
    subst G (sym unit) (record {
      cut = record { start = x; after = [] };
      cuts = cuts-begin (λ (s : Seen). is_start false s.meaning) frames x is.is ∙ ap (λ l. l ++ record { start = x; after = [] } ∷ []) cut;
      way = record {
        len_is = is.len_is;
        size = is.size;
        right = refl;
        bytes = append-nil (bytes_of x.meaning) ∙ is.bytes_are;
        ticks = ((le, omega arith), tt);
        clear_is = (omega arith, tt);
        paced = tt;
      };
      every = refl;
      pieces_are = ap (λ b. record { at = now; bytes = b } ∷ []) is.bytes_are;
    })

pub leaves-next : (shape : Shape) (answers : List Control) (clear begin now len sent number block gap : ℕ) (taken : List ℕ) (frames : List Seen) (ended : List (Cut Seen)) (cut : Cut Seen) (offered : List ℕ) → IsShape shape → begin ≤ now →
    attempts_in false frames ≡ ended ++ cut ∷ [] → 0 < sent → sent < len → length taken ≡ sent → number ≡ length (walk_of (address_size shape) cut).pieces % 16 → length offered ≡ part_after shape len sent →
    fits_shape shape (unit_after shape len sent number offered) ≡ true → map (λ piece. piece.at) (walk_of (address_size shape) cut).pieces ≡ ticks_of cut → AllByRecursion (λ (c : Control). c.tick ≤ now) answers → Permits answers (walk_of (address_size shape) cut).pieces block gap now → IsOnWay shape answers clear begin now len taken (walk_of (address_size shape) cut) →
    Leaves shape answers begin now len taken frames (unit_after shape len sent number offered) ended (walk_of (address_size shape) cut).pieces offered
leaves-next shape answers clear begin now len sent number block gap taken frames ended cut offered sound le is some more count numbered part fits every past may way =
    let F : Meaning → Type 0 = λ u. fits_shape shape u ≡ true in
    let G : Meaning → Type 0 = λ u. Leaves shape answers begin now len taken frames u ended (walk_of (address_size shape) cut).pieces offered in
    let unit : unit_after shape len sent number offered ≡ ConsecutiveFrame number offered = unit-next shape len sent number offered some in
    let fits_it : fits_shape shape (ConsecutiveFrame number offered) ≡ true = subst F unit fits in
    let walk : Walk = walk_of (address_size shape) cut in
    let x : Seen = seen_unit shape now (ConsecutiveFrame number offered) in
    let piece : Piece = record { at = now; bytes = offered } in
    let other : is_start false x.meaning ≡ false = ap (is_start false) (reads_back shape (ConsecutiveFrame number offered) sound fits_it) in
    let held : length (joined walk.pieces) ≡ sent = ap length way.bytes ∙ count in
    let due : length offered ≡ part_of_consecutive shape (walk.len - length (joined walk.pieces)) = rw (way.len_is, held) (part ∙ part-next shape len sent some) in
    let looked : walk_of (address_size shape) (record { start = cut.start; after = cut.after ++ x ∷ [] }) ≡ with_piece walk now offered =
    walk_of-more (address_size shape) cut x ∙ looks-next shape now number offered walk sound fits_it (way.size (omega (arith, count, more))) way.right (omega (arith, held, way.len_is, more)) due numbered in
    let W : Walk → Type 0 = λ w. IsOnWay shape answers (now + 1) begin now len (taken ++ offered) w in
    subst G (sym unit) (record {
      cut = record { start = cut.start; after = cut.after ++ x ∷ [] };
      cuts = cuts-more (λ (s : Seen). is_start false s.meaning) frames x ended cut other is;
      way = subst W (sym looked) (record {
        len_is = way.len_is;
        size = λ lt. way.size (omega (arith, count, more));
        right = way.right;
        bytes = joined-more walk.pieces piece ∙ ap (λ l. l ++ offered) way.bytes;
        ticks = all-push (λ (p : Piece). (begin ≤ p.at) × (p.at ≤ now)) walk.pieces piece way.ticks (le, omega arith);
        clear_is = all-push (λ (p : Piece). p.at < now + 1) walk.pieces piece (all-weaker (λ (p : Piece). (begin ≤ p.at) × (p.at ≤ now)) (λ (p : Piece). p.at < now + 1) walk.pieces (λ p at. omega (arith, at.1)) way.ticks) (omega arith);
        paced = paced-next answers walk.pieces piece block gap past may way.paced;
      });
      every = ap (λ (w : Walk). map (λ (p : Piece). p.at) w.pieces) looked ∙ map-append (λ (p : Piece). p.at) walk.pieces (piece ∷ []) ∙ ap (λ l. l ++ now ∷ []) every ∙ sym (ticks-next cut x (ap is_consecutive (reads_back shape (ConsecutiveFrame number offered) sound fits_it)));
      pieces_are = ap (λ (w : Walk). w.pieces) looked;
    })
