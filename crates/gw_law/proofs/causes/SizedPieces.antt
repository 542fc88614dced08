-- The pieces of an attempt: each carries a full frame's bytes, but for what remains.
use Rattle.std.proofs.Common.{◌≡◌, ℕ, ◌+◌, ◌-◌, ◌≤◌, Bool, true, false, ◌&&◌, ◌==◌, if◌then◌else◌, nat_le, Some, List, [], ◌∷◌, ◌++◌, length, take, min, refl, ap, ◌∙◌, arith}
use Rattle.std.specs.Prelude.{fold}
use Rattle.std.proofs.lemmas.Bool.Decides.{nat_tests}
use Rattle.std.proofs.lemmas.List.{length-append, length-take-le}
use Rattle.tp_attempts.specs.Cuts.{Cut}
use Rattle.tp_attempts.specs.Seen.{Seen, bytes_of, len_of}
use Rattle.tp_attempts.specs.Walk.{Piece, Walk, begun, due, due_number, is_open, joined, look, look_at, walk_of}
use Rattle.tp_unit.specs.Unit.{Meaning, SingleFrame, FirstFrame, ConsecutiveFrame, FlowControl, NoUnit}

-- each further piece carries what is due
abbrev pub SizedFrom : (cap len sum : ℕ) → List Piece → Type 0
SizedFrom cap len sum [] = Unit {0}
SizedFrom cap len sum (piece ∷ pieces) = (length piece.bytes ≡ min cap (len - sum)) × SizedFrom cap len (sum + length piece.bytes) pieces

sized-push : (cap len sum : ℕ) (pieces : List Piece) (piece : Piece) → SizedFrom cap len sum pieces → length piece.bytes ≡ min cap (len - (sum + length (joined pieces))) → SizedFrom cap len sum (pieces ++ piece ∷ [])
sized-push cap len sum [] piece sized is = (is ∙ ap (λ n. min cap (len - n)) (omega arith), tt)
sized-push cap len sum (first ∷ pieces) piece sized is =
    let count : sum + length (joined (first ∷ pieces)) ≡ (sum + length first.bytes) + length (joined pieces) = omega (arith, length-append first.bytes (joined pieces)) in
    (sized.0, sized-push cap len (sum + length first.bytes) pieces piece sized.1 (is ∙ ap (λ n. min cap (len - n)) count))

pub sized-at : (cap len sum : ℕ) (first : List Piece) (piece : Piece) (rest : List Piece) → SizedFrom cap len sum (first ++ piece ∷ rest) → length piece.bytes ≡ min cap (len - (sum + length (joined first)))
sized-at cap len sum [] piece rest sized = sized.0 ∙ ap (λ n. min cap (len - n)) (omega arith)
sized-at cap len sum (one ∷ first) piece rest sized =
    sized-at cap len (sum + length one.bytes) first piece rest sized.1 ∙ ap (λ n. min cap (len - n)) (omega (arith, length-append one.bytes (joined first)))

-- a walk's pieces do
pub record IsSized (address size len : ℕ) (start : List ℕ) (w : Walk) : Type 0 where
  pub size_is : w.size ≡ size
  pub len_is : w.len ≡ len
  pub first : Piece
  pub rest : List Piece
  pub pieces : w.pieces ≡ first ∷ rest
  pub bytes : first.bytes ≡ start
  pub sized : SizedFrom (size - 1 - address) len (length start) rest

sized-adds : (address size len at : ℕ) (start bytes : List ℕ) (w : Walk) → due address w ≤ length bytes → IsSized address size len start w → IsSized address size len start (record w { pieces = w.pieces ++ record { at = at; bytes = take (due address w) bytes } ∷ [] })
sized-adds address size len at start bytes w enough so =
    let piece : Piece = record { at = at; bytes = take (due address w) bytes } in
    let count : length (joined w.pieces) ≡ length start + length (joined so.rest) = ap (λ l. length (joined l)) so.pieces ∙ length-append so.first.bytes (joined so.rest) ∙ ap (λ b. length b + length (joined so.rest)) so.bytes in
    let is : length piece.bytes ≡ min (size - 1 - address) (len - (length start + length (joined so.rest))) =
    length-take-le (due address w) bytes enough ∙ ap (λ s. min (s - 1 - address) (w.len - length (joined w.pieces))) so.size_is ∙ ap (λ l. min (size - 1 - address) (l - length (joined w.pieces))) so.len_is ∙ ap (λ n. min (size - 1 - address) (len - n)) count in
    record {
      size_is = so.size_is;
      len_is = so.len_is;
      first = so.first;
      rest = so.rest ++ piece ∷ [];
      pieces = ap (λ l. l ++ piece ∷ []) so.pieces;
      bytes = so.bytes;
      sized = sized-push (size - 1 - address) len (length start) so.rest piece so.sized is;
    }

sized-wrong : (address size len : ℕ) (start : List ℕ) (w v : Walk) → v.size ≡ w.size → v.len ≡ w.len → v.pieces ≡ w.pieces → IsSized address size len start w → IsSized address size len start v
sized-wrong address size len start w v sizes lens same so = record { size_is = sizes ∙ so.size_is; len_is = lens ∙ so.len_is; first = so.first; rest = so.rest; pieces = same ∙ so.pieces; bytes = so.bytes; sized = so.sized }

sized-by : (P : Walk → Type 0) (walk counted ended : Walk) (looks right : Bool) → P walk → (looks ≡ true → P counted) → P ended → P (if looks then (if right then counted else ended) else walk)
sized-by P walk counted ended true true is adds ends = adds refl
sized-by P walk counted ended true false is adds ends = ends
sized-by P walk counted ended false right is adds ends = is

enough-by : (open_still short : Bool) (most all : ℕ) → (open_still && short && nat_le most all) ≡ true → most ≤ all
enough-by open_still short most all is = grind (arith, nat_tests, is)

sized-look : (address size len : ℕ) (start : List ℕ) (w : Walk) (at frame : ℕ) (meaning : Meaning) → IsSized address size len start w → IsSized address size len start (look_at address w at frame meaning)
sized-look address size len start w at frame (ConsecutiveFrame number bytes) so =
    let counted : Walk = record w { pieces = w.pieces ++ record { at = at; bytes = take (due address w) bytes } ∷ [] } in
    let ended : Walk = record w { wrong = Some (record { at = at; want = due_number w; got = number }) } in
    sized-by (IsSized address size len start) w counted ended (is_open w && nat_le frame w.size && nat_le (due address w) (length bytes)) (number == due_number w) so
    (λ looks. sized-adds address size len at start bytes w (enough-by (is_open w) (nat_le frame w.size) (due address w) (length bytes) looks) so)
    (sized-wrong address size len start w ended refl refl refl so)
sized-look address size len start w at frame (SingleFrame bytes) so = so
sized-look address size len start w at frame (FirstFrame length bytes) so = so
sized-look address size len start w at frame (FlowControl status block_size separation) so = so
sized-look address size len start w at frame (NoUnit why) so = so

sized-fold : (address size len : ℕ) (start : List ℕ) (w : Walk) (frames : List Seen) → IsSized address size len start w → IsSized address size len start (fold (look address) w frames)
sized-fold address size len start w [] so = so
sized-fold address size len start w (frame ∷ frames) so = sized-fold address size len start (look address w frame) frames (sized-look address size len start w frame.at frame.size frame.meaning so)

pub sized-walk : (address : ℕ) (cut : Cut Seen) → IsSized address cut.start.size (len_of cut.start.meaning) (bytes_of cut.start.meaning) (walk_of address cut)
sized-walk address cut =
    sized-fold address cut.start.size (len_of cut.start.meaning) (bytes_of cut.start.meaning) (begun cut.start) cut.after
    (record { size_is = refl; len_is = refl; first = record { at = cut.start.at; bytes = bytes_of cut.start.meaning }; rest = []; pieces = refl; bytes = refl; sized = tt })
