-- A message in several frames is one attempt with its bytes.
use Rattle.std.proofs.Common.{◌≡◌, ℕ, ◌+◌, ◌%◌, ◌^◌, ◌<◌, ◌≤◌, min, Bool, true, false, None, List, [], ◌∷◌, ◌++◌, length, take, drop, refl, ap, sym, subst, append-nil, append_assoc, ◌∙◌, arith}
use Rattle.std.specs.Prelude.{fold, map}
use Rattle.std.proofs.Math.Seq.{take-append_seam}
use Rattle.std.proofs.lemmas.Bool.Decides.{nat_tests}
use Rattle.std.proofs.lemmas.List.{length-append, length-take, take-append-drop}
use Rattle.tp_unit.specs.declared.shape.Shape.{Shape}
use Rattle.tp_unit.specs.Shape.{IsShape, address_size, first_part, fits_shape, most_consecutive, most_single}
use Rattle.tp_unit.specs.Unit.{Meaning, ConsecutiveFrame}
use Rattle.tp_unit.specs.Writing.{fill_of, frame_of, unfilled}
use Rattle.tp_unit.proofs.RoundTrip.{reads_back}
use Rattle.tp_unit.proofs.Sizes.{length-address, length-frame_of-first, length-frame_of-le, size_of}
use Rattle.tp_attempts.specs.declared.attempt.Attempt.{Attempt}
use Rattle.tp_attempts.specs.Attempts.{attempts_of, told}
use Rattle.tp_attempts.specs.Cuts.{before_start, cuts}
use Rattle.tp_attempts.specs.Seen.{Seen, bytes_of, is_start, len_of, seen_frame, seen_from}
use Rattle.tp_attempts.specs.Segments.{first_of, AreNext, Follow}
use Rattle.tp_attempts.specs.Walk.{Walk, begun, due, due_number, joined, last_place, look, look_at, walk_of}
use Rattle.tp_attempts.proofs.Growth.{same-attempt}
use Rattle.tp_attempts.proofs.Walks.{joined-more, last_place-more, look-counts}

-- a frame that carries the next bytes of what is left
record Carries (shape : Shape) (number : ℕ) (left : List ℕ) (seen : Seen) : Type 0 where
  fill : List ℕ
  meaning : seen.meaning ≡ ConsecutiveFrame (number % 16) (take (most_consecutive shape) left ++ fill)
  size : seen.size ≤ shape.dl

fits-next : (shape : Shape) (number : ℕ) (left : List ℕ) → IsShape shape → 0 < length left → fits_shape shape (ConsecutiveFrame (number % 16) (take (most_consecutive shape) left)) ≡ true
fits-next shape number left sound some = grind (arith, nat_tests, length-take, size_of shape sound, length-address shape.address)

carries : (shape : Shape) (place number : ℕ) (left : List ℕ) → IsShape shape → 0 < length left →
    Carries shape number left (seen_frame (address_size shape) place (frame_of shape (ConsecutiveFrame (number % 16) (take (most_consecutive shape) left))))
carries shape place number left sound some =
    let fits : fits_shape shape (ConsecutiveFrame (number % 16) (take (most_consecutive shape) left)) ≡ true = fits-next shape number left sound some in
    record {
      fill = fill_of shape (length (unfilled shape (ConsecutiveFrame (number % 16) (take (most_consecutive shape) left))));
      meaning = reads_back shape (ConsecutiveFrame (number % 16) (take (most_consecutive shape) left)) sound fits;
      size = length-frame_of-le shape (ConsecutiveFrame (number % 16) (take (most_consecutive shape) left)) sound fits;
    }

carries-unit : (shape : Shape) (place number : ℕ) (left : List ℕ) (unit : Meaning) → IsShape shape → 0 < length left → unit ≡ ConsecutiveFrame (number % 16) (take (most_consecutive shape) left) →
    Carries shape number left (seen_frame (address_size shape) place (frame_of shape unit))
carries-unit shape place number left unit sound some is =
    let P : Meaning → Type 0 = λ u. Carries shape number left (seen_frame (address_size shape) place (frame_of shape u)) in subst P (sym is) (carries shape place number left sound some)

-- no frame after the first one is a start
abbrev starts : Seen → Bool
starts seen = is_start false seen.meaning

before_start-next : (shape : Shape) (place number : ℕ) (left : List ℕ) (units : List Meaning) → IsShape shape → AreNext shape number left units →
    before_start starts (seen_from (address_size shape) place (map (frame_of shape) units)) ≡ seen_from (address_size shape) place (map (frame_of shape) units)
before_start-next shape place number left [] sound next = refl
before_start-next shape place number left (unit ∷ units) sound next =
    let other : starts (seen_frame (address_size shape) place (frame_of shape unit)) ≡ false = ap (is_start false) (carries-unit shape place number left unit sound next.0 next.1).meaning in
    rw other (ap (λ later. seen_frame (address_size shape) place (frame_of shape unit) ∷ later) (before_start-next shape (place + 1) (number + 1) (drop (most_consecutive shape) left) units sound next.2))

cuts-next : (shape : Shape) (place number : ℕ) (left : List ℕ) (units : List Meaning) → IsShape shape → AreNext shape number left units →
    cuts starts (seen_from (address_size shape) place (map (frame_of shape) units)) ≡ []
cuts-next shape place number left [] sound next = refl
cuts-next shape place number left (unit ∷ units) sound next =
    let other : starts (seen_frame (address_size shape) place (frame_of shape unit)) ≡ false = ap (is_start false) (carries-unit shape place number left unit sound next.0 next.1).meaning in
    rw other (cuts-next shape (place + 1) (number + 1) (drop (most_consecutive shape) left) units sound next.2)

-- the attempt stands before this place and number, with these bytes left
record Stands (shape : Shape) (message : List ℕ) (place number : ℕ) (left : List ℕ) (walk : Walk) : Type 0 where
  len : walk.len ≡ length message
  size : walk.size ≡ shape.dl
  right : walk.wrong ≡ None
  count : length walk.pieces ≡ number
  bytes : joined walk.pieces ++ left ≡ message
  last : last_place 0 walk.pieces + 1 ≡ place

-- the attempt with one more piece
abbrev pub with_piece : Walk → ℕ → List ℕ → Walk
with_piece walk at bytes = record { len = walk.len; size = walk.size; pieces = walk.pieces ++ record { at = at; bytes = bytes } ∷ []; wrong = walk.wrong }

-- the next frame is counted, with the bytes that it was given
look-next : (shape : Shape) (message : List ℕ) (place number : ℕ) (left : List ℕ) (walk : Walk) (seen : Seen) → IsShape shape → 0 < length left → Stands shape message place number left walk →
    Carries shape number left seen → look (address_size shape) walk seen ≡ with_piece walk seen.at (take (most_consecutive shape) left)
look-next shape message place number left walk seen sound some stands carried =
    let all : length (joined walk.pieces) + length left ≡ length message = simp length-append at (ap length stands.bytes) in
    let chunk : length (take (most_consecutive shape) left) ≡ min (most_consecutive shape) (length left) = length-take (most_consecutive shape) left in
    let full : due (address_size shape) walk ≡ length (take (most_consecutive shape) left) = rw (stands.size, stands.len, chunk) (omega (arith, all)) in
    let enough : due (address_size shape) walk ≤ length (take (most_consecutive shape) left ++ carried.fill) = rw length-append (omega (arith, full)) in
    let short : seen.size ≤ walk.size = rw stands.size carried.size in
    let same : number % 16 ≡ due_number walk = ap (λ n. n % 16) (sym stands.count) in
    let counted = look-counts (address_size shape) walk seen.at seen.size (number % 16) (take (most_consecutive shape) left ++ carried.fill) (omega (arith, all, stands.len)) stands.right short enough same in
    let front : take (due (address_size shape) walk) (take (most_consecutive shape) left ++ carried.fill) ≡ take (most_consecutive shape) left =
    ap (λ n. take n (take (most_consecutive shape) left ++ carried.fill)) full ∙ take-append_seam (take (most_consecutive shape) left) carried.fill in
    ap (λ m. look_at (address_size shape) walk seen.at seen.size m) carried.meaning ∙ counted ∙ ap (with_piece walk seen.at) front

stands-next : (shape : Shape) (message : List ℕ) (place number : ℕ) (left : List ℕ) (walk : Walk) → Stands shape message place number left walk →
    Stands shape message (place + 1) (number + 1) (drop (most_consecutive shape) left) (with_piece walk place (take (most_consecutive shape) left))
stands-next shape message place number left walk stands = record {
  len = stands.len;
  size = stands.size;
  right = stands.right;
  count = rw length-append (omega (arith, stands.count));
  bytes = rw (joined-more, append_assoc, take-append-drop) stands.bytes;
  last = ap (λ n. n + 1) (last_place-more 0 walk.pieces (record { at = place; bytes = take (most_consecutive shape) left }));
}

-- at its end the attempt has the whole message
record Ends (message : List ℕ) (places : ℕ) (walk : Walk) : Type 0 where
  bytes : joined walk.pieces ≡ message
  last : last_place 0 walk.pieces + 1 ≡ places

walk-next : (shape : Shape) (message : List ℕ) (place number : ℕ) (left : List ℕ) (walk : Walk) (units : List Meaning) → IsShape shape → AreNext shape number left units → Stands shape message place number left walk →
    Ends message (place + length units) (fold (look (address_size shape)) walk (seen_from (address_size shape) place (map (frame_of shape) units)))
walk-next shape message place number left walk [] sound next stands = record {
  bytes = sym (append-nil (joined walk.pieces)) ∙ ap (λ l. joined walk.pieces ++ l) (sym next) ∙ stands.bytes;
  last = omega (arith, stands.last);
}
walk-next shape message place number left walk (unit ∷ units) sound next stands =
    let step : look (address_size shape) walk (seen_frame (address_size shape) place (frame_of shape unit)) ≡ with_piece walk place (take (most_consecutive shape) left) =
    look-next shape message place number left walk (seen_frame (address_size shape) place (frame_of shape unit)) sound next.0 stands (carries-unit shape place number left unit sound next.0 next.1) in
    let later : Ends message (place + 1 + length units) (fold (look (address_size shape)) (with_piece walk place (take (most_consecutive shape) left)) (seen_from (address_size shape) (place + 1) (map (frame_of shape) units))) =
    walk-next shape message (place + 1) (number + 1) (drop (most_consecutive shape) left) (with_piece walk place (take (most_consecutive shape) left)) units sound next.2 (stands-next shape message place number left walk stands) in
    let same : place + 1 + length units ≡ place + length (unit ∷ units) = omega arith in
    let P : Walk → Type 0 = λ w. Ends message (place + length (unit ∷ units)) (fold (look (address_size shape)) w (seen_from (address_size shape) (place + 1) (map (frame_of shape) units))) in
    subst P (sym step) (record { bytes = later.bytes; last = later.last ∙ same })

fits-first : (shape : Shape) (message : List ℕ) → IsShape shape → length message < 2 ^ 32 → most_single shape < length message → fits_shape shape (first_of shape message) ≡ true
fits-first shape message sound small long = grind (arith, nat_tests, length-take, size_of shape sound, length-address shape.address)

pub attempts_of-segments : (shape : Shape) (message : List ℕ) (rest : List Meaning) → IsShape shape → length message < 2 ^ 32 → most_single shape < length message → Follow shape message rest →
    attempts_of (address_size shape) false (map (frame_of shape) (first_of shape message ∷ rest)) ≡ record { start = 0; len = length message; bytes = message; end = length rest } ∷ []
attempts_of-segments shape message rest sound small long next =
    let fits : fits_shape shape (first_of shape message) ≡ true = fits-first shape message sound small long in
    let begins : (seen_frame (address_size shape) 0 (frame_of shape (first_of shape message))).meaning ≡ first_of shape message = reads_back shape (first_of shape message) sound fits in
    let size : (seen_frame (address_size shape) 0 (frame_of shape (first_of shape message))).size ≡ shape.dl = length-frame_of-first shape (length message) (take (first_part shape (length message)) message) sound fits in
    let is : starts (seen_frame (address_size shape) 0 (frame_of shape (first_of shape message))) ≡ true = ap (is_start false) begins in
    let stands : Stands shape message 1 1 (drop (first_part shape (length message)) message) (begun (seen_frame (address_size shape) 0 (frame_of shape (first_of shape message)))) = record {
      len = ap len_of begins;
      size = size;
      right = refl;
      count = refl;
      bytes = rw (ap bytes_of begins, append-nil, take-append-drop) refl;
      last = refl;
    } in
    let ends : Ends message (1 + length rest) (walk_of (address_size shape) (record { start = seen_frame (address_size shape) 0 (frame_of shape (first_of shape message)); after = seen_from (address_size shape) 1 (map (frame_of shape) rest) })) =
    walk-next shape message 1 1 (drop (first_part shape (length message)) message) (begun (seen_frame (address_size shape) 0 (frame_of shape (first_of shape message)))) rest sound next stands in
    rw (is, before_start-next shape 1 1 (drop (first_part shape (length message)) message) rest sound next, cuts-next shape 1 1 (drop (first_part shape (length message)) message) rest sound next)
    (ap (λ (attempt : Attempt). attempt ∷ []) (same-attempt
    (told (address_size shape) (record { start = seen_frame (address_size shape) 0 (frame_of shape (first_of shape message)); after = seen_from (address_size shape) 1 (map (frame_of shape) rest) }))
    0 (length message) (length rest) message refl (ap len_of begins) ends.bytes (omega (arith, ends.last))))
