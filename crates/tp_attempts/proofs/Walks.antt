-- An attempt that grows by one frame.
use Rattle.std.proofs.Common.{◌≡◌, ◌≢◌, ℕ, ◌<◌, ◌≤◌, None, Some, List, [], ◌∷◌, ◌++◌, length, take, refl, ap, ◌∙◌, append-nil, arith}
use Rattle.std.specs.Prelude.{fold}
use Rattle.std.proofs.lemmas.Bool.Decides.{nat_tests}
use Rattle.std.proofs.lemmas.Grind.{fold-append, flat_map-append}
use Rattle.tp_unit.specs.Unit.{Meaning, SingleFrame, FirstFrame, ConsecutiveFrame, FlowControl, NoUnit}
use Rattle.tp_attempts.specs.Cuts.{Cut}
use Rattle.tp_attempts.specs.Seen.{Seen, len_of}
use Rattle.tp_attempts.specs.Walk.{Piece, Wrong, Walk, joined, last_place, due_number, due, look_at, look, begun, walk_of}

-- one more frame is one more look
pub walk_of-more : (address : ℕ) (cut : Cut Seen) (seen : Seen) → walk_of address (record { start = cut.start; after = cut.after ++ seen ∷ [] }) ≡ look address (walk_of address cut) seen
walk_of-more address cut seen = fold-append (look address) (begun cut.start) cut.after (seen ∷ [])

-- one more piece
pub joined-more : (pieces : List Piece) (piece : Piece) → joined (pieces ++ piece ∷ []) ≡ joined pieces ++ piece.bytes
joined-more pieces piece = flat_map-append (λ (p : Piece). p.bytes) pieces (piece ∷ []) ∙ ap (λ xs. joined pieces ++ xs) (append-nil piece.bytes)

pub last_place-more : (at : ℕ) (pieces : List Piece) (piece : Piece) → last_place at (pieces ++ piece ∷ []) ≡ piece.at
last_place-more at pieces piece = fold-append (λ (before : ℕ) (p : Piece). p.at) at pieces (piece ∷ [])

-- which look it is, from facts on numbers
pub look-counts : (address : ℕ) (walk : Walk) (at size number : ℕ) (bytes : List ℕ) → length (joined walk.pieces) < walk.len → walk.wrong ≡ None → size ≤ walk.size → due address walk ≤ length bytes → number ≡ due_number walk →
    look_at address walk at size (ConsecutiveFrame number bytes) ≡ record walk { pieces = walk.pieces ++ record { at = at; bytes = take (due address walk) bytes } ∷ [] }
look-counts address walk at size number bytes left right short enough same = grind (arith, nat_tests)

pub look-wrong : (address : ℕ) (walk : Walk) (at size number : ℕ) (bytes : List ℕ) → length (joined walk.pieces) < walk.len → walk.wrong ≡ None → size ≤ walk.size → due address walk ≤ length bytes → number ≢ due_number walk →
    look_at address walk at size (ConsecutiveFrame number bytes) ≡ record walk { wrong = Some (record { at = at; want = due_number walk; got = number }) }
look-wrong address walk at size number bytes left right short enough other = grind (arith, nat_tests)

pub look-long : (address : ℕ) (walk : Walk) (at size : ℕ) (meaning : Meaning) → walk.size < size → look_at address walk at size meaning ≡ walk
look-long address walk at size (ConsecutiveFrame number bytes) long = grind (arith, nat_tests)
look-long address walk at size (SingleFrame bytes) long = refl
look-long address walk at size (FirstFrame len bytes) long = refl
look-long address walk at size (FlowControl status block_size separation) long = refl
look-long address walk at size (NoUnit why) long = refl

pub look-short : (address : ℕ) (walk : Walk) (at size number : ℕ) (bytes : List ℕ) → length bytes < due address walk → look_at address walk at size (ConsecutiveFrame number bytes) ≡ walk
look-short address walk at size number bytes short = grind (arith, nat_tests)

pub look-full : (address : ℕ) (walk : Walk) (at size : ℕ) (meaning : Meaning) → walk.len ≤ length (joined walk.pieces) → look_at address walk at size meaning ≡ walk
look-full address walk at size (ConsecutiveFrame number bytes) full = grind (arith, nat_tests)
look-full address walk at size (SingleFrame bytes) full = refl
look-full address walk at size (FirstFrame len bytes) full = refl
look-full address walk at size (FlowControl status block_size separation) full = refl
look-full address walk at size (NoUnit why) full = refl

pub look-ended : (address : ℕ) (walk : Walk) (at size : ℕ) (meaning : Meaning) (wrong : Wrong) → walk.wrong ≡ Some wrong → look_at address walk at size meaning ≡ walk
look-ended address walk at size (ConsecutiveFrame number bytes) wrong is = grind (arith, nat_tests)
look-ended address walk at size (SingleFrame bytes) wrong is = refl
look-ended address walk at size (FirstFrame len bytes) wrong is = refl
look-ended address walk at size (FlowControl status block_size separation) wrong is = refl
look-ended address walk at size (NoUnit why) wrong is = refl

-- the length is the start's
pub len-look_at : (address : ℕ) (walk : Walk) (at size : ℕ) (meaning : Meaning) → (look_at address walk at size meaning).len ≡ walk.len
len-look_at address walk at size (ConsecutiveFrame number bytes) = grind (arith, nat_tests)
len-look_at address walk at size (SingleFrame bytes) = refl
len-look_at address walk at size (FirstFrame len bytes) = refl
len-look_at address walk at size (FlowControl status block_size separation) = refl
len-look_at address walk at size (NoUnit why) = refl

len-fold : (address : ℕ) (walk : Walk) (seen : List Seen) → (fold (look address) walk seen).len ≡ walk.len
len-fold address walk [] = refl
len-fold address walk (frame ∷ frames) = len-fold address (look address walk frame) frames ∙ len-look_at address walk frame.at frame.size frame.meaning

pub len-walk_of : (address : ℕ) (cut : Cut Seen) → (walk_of address cut).len ≡ len_of cut.start.meaning
len-walk_of address cut = len-fold address (begun cut.start) cut.after
