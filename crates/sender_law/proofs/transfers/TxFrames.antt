-- What a frame that leaves adds to a transmission.
use Rattle.std.proofs.Common.{◌≡◌, ℕ, ◌-◌, ◌<◌, ◌≤◌, Bool, true, false, None, List, ◌++◌, length, take, refl, ap, sym, subst, ◌∙◌, arith}
use Rattle.tp_unit.specs.Box.{IsNoData}
use Rattle.std.specs.Prelude.{nat_le}
use Rattle.std.proofs.Math.Seq.{take-append_seam}
use Rattle.std.proofs.lemmas.List.{length-append}
use Rattle.tp_unit.specs.declared.shape.Shape.{Shape}
use Rattle.tp_unit.specs.Shape.{IsShape, address_size, fits_shape, most_single, part_of_consecutive, part_of_start}
use Rattle.tp_unit.specs.Unit.{Meaning, SingleFrame, FirstFrame, ConsecutiveFrame, FlowControl, NoUnit}
use Rattle.tp_unit.specs.Writing.{fill_of, frame_of, unfilled}
use Rattle.tp_unit.proofs.RoundTrip.{reads_back}
use Rattle.tp_unit.proofs.Sizes.{length-frame_of-first, length-frame_of-le}
use Rattle.tp_attempts.specs.Seen.{Seen, bytes_of, is_start, len_of, seen_frame}
use Rattle.tp_attempts.specs.Walk.{Walk, due, due_number, joined, look, look_at}
use Rattle.tp_attempts.proofs.Walks.{look-counts}
use Rattle.tp_sender.specs.Frame.{start_with}
use Rattle.sender_law.specs.Transfer.{is_consecutive}
use Rattle.tp_attempts.proofs.Segments.{with_piece}

-- the frame of a unit, as reassembly sees it
abbrev pub seen_unit : Shape → ℕ → Meaning → Seen
seen_unit shape at unit = seen_frame (address_size shape) at (frame_of shape unit)

-- a consecutive frame of the due bytes is counted
pub looks-next : (shape : Shape) (at number : ℕ) (bytes : List ℕ) (walk : Walk) → IsShape shape → fits_shape shape (ConsecutiveFrame number bytes) ≡ true → walk.size ≡ shape.dl → walk.wrong ≡ None →
    length (joined walk.pieces) < walk.len → length bytes ≡ part_of_consecutive shape (walk.len - length (joined walk.pieces)) → number ≡ due_number walk →
    look (address_size shape) walk (seen_unit shape at (ConsecutiveFrame number bytes)) ≡ with_piece walk at bytes
looks-next shape at number bytes walk sound fits size right more_due part same =
    let fill : List ℕ = fill_of shape (length (unfilled shape (ConsecutiveFrame number bytes))) in
    let seen : Seen = seen_unit shape at (ConsecutiveFrame number bytes) in
    let full : due (address_size shape) walk ≡ length bytes = rw size (sym part) in
    let enough : due (address_size shape) walk ≤ length (bytes ++ fill) = rw length-append (omega (arith, full)) in
    let short : seen.size ≤ walk.size = rw size (length-frame_of-le shape (ConsecutiveFrame number bytes) sound fits) in
    let counted = look-counts (address_size shape) walk at seen.size number (bytes ++ fill) more_due right short enough same in
    let front : take (due (address_size shape) walk) (bytes ++ fill) ≡ bytes = ap (λ n. take n (bytes ++ fill)) full ∙ take-append_seam bytes fill in
    ap (λ m. look_at (address_size shape) walk at seen.size m) (reads_back shape (ConsecutiveFrame number bytes) sound fits) ∙ counted ∙ ap (with_piece walk at) front

-- the start of a message begins a transmission of its length, with its bytes
pub record Begins (shape : Shape) (len : ℕ) (bytes : List ℕ) (seen : Seen) : Type 0 where
  pub is : is_start false seen.meaning ≡ true
  pub len_is : len_of seen.meaning ≡ len
  pub bytes_are : bytes_of seen.meaning ≡ bytes
  pub size : length bytes < len → seen.size ≡ shape.dl

begins-by : (shape : Shape) (at len : ℕ) (bytes : List ℕ) (single : Bool) → nat_le len (most_single shape) ≡ single → IsShape shape → fits_shape shape (start_with shape len bytes) ≡ true →
    length bytes ≡ (part_of_start shape len).bytes → Begins shape len bytes (seen_unit shape at (start_with shape len bytes))
begins-by shape at len bytes true is sound fits part =
    let F : Meaning → Type 0 = λ u. fits_shape shape u ≡ true in
    let G : Meaning → Type 0 = λ u. Begins shape len bytes (seen_unit shape at u) in
    let unit : start_with shape len bytes ≡ SingleFrame bytes = rw is refl in
    let fits_it : fits_shape shape (SingleFrame bytes) ≡ true = subst F unit fits in
    let whole : length bytes ≡ len = rw is at part in
    let meaning : (seen_unit shape at (SingleFrame bytes)).meaning ≡ SingleFrame bytes = reads_back shape (SingleFrame bytes) sound fits_it in
    subst G (sym unit) (record { is = ap (is_start false) meaning; len_is = ap len_of meaning ∙ whole; bytes_are = ap bytes_of meaning; size = λ lt. absurd (omega (arith, lt, whole)) })
begins-by shape at len bytes false is sound fits part =
    let F : Meaning → Type 0 = λ u. fits_shape shape u ≡ true in
    let G : Meaning → Type 0 = λ u. Begins shape len bytes (seen_unit shape at u) in
    let unit : start_with shape len bytes ≡ FirstFrame len bytes = rw is refl in
    let fits_it : fits_shape shape (FirstFrame len bytes) ≡ true = subst F unit fits in
    let meaning : (seen_unit shape at (FirstFrame len bytes)).meaning ≡ FirstFrame len bytes = reads_back shape (FirstFrame len bytes) sound fits_it in
    subst G (sym unit) (record { is = ap (is_start false) meaning; len_is = ap len_of meaning; bytes_are = ap bytes_of meaning; size = λ lt. length-frame_of-first shape len bytes sound fits_it })

pub begins : (shape : Shape) (at len : ℕ) (bytes : List ℕ) → IsShape shape → fits_shape shape (start_with shape len bytes) ≡ true → length bytes ≡ (part_of_start shape len).bytes →
    Begins shape len bytes (seen_unit shape at (start_with shape len bytes))
begins shape at len bytes sound fits part = begins-by shape at len bytes (nat_le len (most_single shape)) refl sound fits part

-- another frame begins none, and adds nothing
pub no-start : (meaning : Meaning) → IsNoData meaning → is_start false meaning ≡ false
no-start (SingleFrame bytes) none = absurd none
no-start (FirstFrame len bytes) none = absurd none
no-start (ConsecutiveFrame number bytes) none = absurd none
no-start (FlowControl status block_size separation) none = refl
no-start (NoUnit why) none = refl

pub looks-none : (address : ℕ) (walk : Walk) (at size : ℕ) (meaning : Meaning) → IsNoData meaning → look_at address walk at size meaning ≡ walk
looks-none address walk at size (SingleFrame bytes) none = absurd none
looks-none address walk at size (FirstFrame len bytes) none = absurd none
looks-none address walk at size (ConsecutiveFrame number bytes) none = absurd none
looks-none address walk at size (FlowControl status block_size separation) none = refl
looks-none address walk at size (NoUnit why) none = refl

pub no-consecutive : (meaning : Meaning) → IsNoData meaning → is_consecutive meaning ≡ false
no-consecutive (SingleFrame bytes) none = absurd none
no-consecutive (FirstFrame len bytes) none = absurd none
no-consecutive (ConsecutiveFrame number bytes) none = absurd none
no-consecutive (FlowControl status block_size separation) none = refl
no-consecutive (NoUnit why) none = refl
