-- A frame more adds one piece at most to an attempt's, at its place among the attempts.
use Rattle.std.proofs.Common.{◌≡◌, ℕ, ◌≤◌, zero, suc, Bool, true, false, ◌&&◌, ◌==◌, nat_le, if◌then◌else◌, Some, List, [], ◌∷◌, ◌++◌, length, take, refl, sym, subst, arith, append-nil}
use Rattle.std.specs.Prelude.{slice_get}
use Rattle.gw_base.specs.Cell.{counted}
use Rattle.tp_attempts.proofs.Cuts.{cuts-begin, cuts-grow, grow, grow_after}
use Rattle.tp_attempts.proofs.Walks.{walk_of-more}
use Rattle.tp_attempts.specs.Attempts.{attempts_in}
use Rattle.tp_attempts.specs.Cuts.{Cut}
use Rattle.tp_attempts.specs.Seen.{Seen, is_start}
use Rattle.tp_attempts.specs.Walk.{Piece, Walk, begun, due, due_number, is_open, look_at, walk_of}
use Rattle.tp_receiver.specs.Runs.{frames_in}
use Rattle.tp_receiver.specs.State.{Came, FcLeft, RunEnd, RxEvent, Timer}
use Rattle.tp_unit.specs.Unit.{Meaning, SingleFrame, FirstFrame, ConsecutiveFrame, FlowControl, NoUnit}
use Rattle.gw_law.proofs.times.RxPlaces.{pieces_of}

-- pieces that are some more, one at most
pub record OneMore (was now : List Piece) : Type 0 where
  pub more : List Piece
  pub is : now ≡ was ++ more
  pub few : length more ≤ 1

none-more : (pieces : List Piece) → OneMore pieces pieces
none-more pieces = record { more = []; is = sym (append-nil pieces); few = omega arith }

-- one frame more adds one piece at most
more-by : (walk counted ended : Walk) (looks right : Bool) → OneMore walk.pieces counted.pieces → OneMore walk.pieces ended.pieces → OneMore walk.pieces (if looks then (if right then counted else ended) else walk).pieces
more-by walk counted ended true true adds ends = adds
more-by walk counted ended true false adds ends = ends
more-by walk counted ended false right adds ends = none-more walk.pieces

pub more-look : (address : ℕ) (walk : Walk) (at size : ℕ) (meaning : Meaning) → OneMore walk.pieces (look_at address walk at size meaning).pieces
more-look address walk at size (ConsecutiveFrame number bytes) =
    more-by walk (record walk { pieces = walk.pieces ++ record { at = at; bytes = take (due address walk) bytes } ∷ [] }) (record walk { wrong = Some (record { at = at; want = due_number walk; got = number }) })
    (is_open walk && nat_le size walk.size && nat_le (due address walk) (length bytes)) (number == due_number walk)
    (record { more = record { at = at; bytes = take (due address walk) bytes } ∷ []; is = refl; few = omega arith }) (none-more walk.pieces)
more-look address walk at size (SingleFrame bytes) = none-more walk.pieces
more-look address walk at size (FirstFrame len bytes) = none-more walk.pieces
more-look address walk at size (FlowControl status block_size separation) = none-more walk.pieces
more-look address walk at size (NoUnit why) = none-more walk.pieces

more-frame : (address : ℕ) (attempt : Cut Seen) (x : Seen) → OneMore (walk_of address attempt).pieces (walk_of address (record { start = attempt.start; after = attempt.after ++ x ∷ [] })).pieces
more-frame address attempt x =
    let P : Walk → Type 0 = λ w. OneMore (walk_of address attempt).pieces w.pieces in
    subst P (sym (walk_of-more address attempt x)) (more-look address (walk_of address attempt) x.at x.size x.meaning)

more-grown : (address : ℕ) (x : Seen) (attempt : Cut Seen) (later : List (Cut Seen)) (place : ℕ) → OneMore (pieces_of address (slice_get (attempt ∷ later) place)) (pieces_of address (slice_get (grow_after x attempt later) place))
more-grown address x attempt [] zero = more-frame address attempt x
more-grown address x attempt [] (suc place) = none-more []
more-grown address x attempt (next ∷ later) zero = none-more (walk_of address attempt).pieces
more-grown address x attempt (next ∷ later) (suc place) = more-grown address x next later place

more-grow : (address : ℕ) (x : Seen) (attempts : List (Cut Seen)) (place : ℕ) → OneMore (pieces_of address (slice_get attempts place)) (pieces_of address (slice_get (grow x attempts) place))
more-grow address x [] place = none-more (pieces_of address (slice_get [] place))
more-grow address x (attempt ∷ later) place = more-grown address x attempt later place

more-pushed : (address : ℕ) (x : Seen) (attempts : List (Cut Seen)) (place : ℕ) → OneMore (pieces_of address (slice_get attempts place)) (pieces_of address (slice_get (attempts ++ record { start = x; after = [] } ∷ []) place))
more-pushed address x [] zero = record { more = (begun x).pieces; is = refl; few = omega arith }
more-pushed address x [] (suc place) = none-more []
more-pushed address x (attempt ∷ later) zero = none-more (walk_of address attempt).pieces
more-pushed address x (attempt ∷ later) (suc place) = more-pushed address x later place

more-seen : (address : ℕ) (functional : Bool) (frames : List Seen) (x : Seen) (place : ℕ) (starts : Bool) → is_start functional x.meaning ≡ starts →
    OneMore (pieces_of address (slice_get (attempts_in functional frames) place)) (pieces_of address (slice_get (attempts_in functional (frames ++ x ∷ [])) place))
more-seen address functional frames x place true is =
    let P : List (Cut Seen) → Type 0 = λ l. OneMore (pieces_of address (slice_get (attempts_in functional frames) place)) (pieces_of address (slice_get l place)) in
    subst P (sym (cuts-begin (λ (s : Seen). is_start functional s.meaning) frames x is)) (more-pushed address x (attempts_in functional frames) place)
more-seen address functional frames x place false is =
    let P : List (Cut Seen) → Type 0 = λ l. OneMore (pieces_of address (slice_get (attempts_in functional frames) place)) (pieces_of address (slice_get l place)) in
    subst P (sym (cuts-grow (λ (s : Seen). is_start functional s.meaning) frames x is)) (more-grow address x (attempts_in functional frames) place)

more-none : (address : ℕ) (functional : Bool) (frames : List Seen) (place : ℕ) → OneMore (pieces_of address (slice_get (attempts_in functional frames) place)) (pieces_of address (slice_get (attempts_in functional (frames ++ [])) place))
more-none address functional frames place =
    let P : List Seen → Type 0 = λ l. OneMore (pieces_of address (slice_get (attempts_in functional frames) place)) (pieces_of address (slice_get (attempts_in functional l) place)) in
    subst P (sym (append-nil frames)) (none-more (pieces_of address (slice_get (attempts_in functional frames) place)))

pub more-event : (address : ℕ) (functional : Bool) (frames : List Seen) (place tick : ℕ) (event : RxEvent) → OneMore (pieces_of address (slice_get (attempts_in functional frames) place)) (pieces_of address (slice_get (attempts_in functional (frames ++ frames_in tick event)) place))
more-event address functional frames place tick (Came size meaning) = more-seen address functional frames (record { at = tick; size = size; meaning = meaning }) place (is_start functional meaning) refl
more-event address functional frames place tick Timer = more-none address functional frames place
more-event address functional frames place tick FcLeft = more-none address functional frames place
more-event address functional frames place tick RunEnd = more-none address functional frames place
