-- Words lie apart: those of a buffer after one another, and before those of each later buffer.
use Rattle.std.proofs.Common.{◌≡◌, ◌≢◌, ℕ, ◌+◌, ◌*◌, ◌<◌, ◌≤◌, ◌⊎◌, inl, inr, zero, suc, List, [], ◌∷◌, length, take, Some, refl, ap, sym, ◌∙◌, arith}
use Rattle.std.specs.Prelude.{slice_get, sum}
use Rattle.std.proofs.lemmas.Bool.{cases_order}
use Rattle.std.proofs.lemmas.List.Sums.{sum_by-cons}
use Rattle.std.proofs.lemmas.Option.{same_Some, slice_get-get_or, slice_get_within}
use Rattle.hub_layout.specs.Places.{Place, Pool, Card, Length, Count, Position, Cell, IsThere, PlacesDiffer, PlacesLieWithin, first_word, place_at, words_in}

sum-suc : (size : ℕ) (cells : List ℕ) (buf : ℕ) → sum (take (suc buf) (size ∷ cells)) ≡ size + sum (take buf cells)
sum-suc size cells buf = sum_by-cons (λ (x : ℕ). x) size (take buf cells)

-- a buffer's cells are among those before a later buffer
sum-before : (cells : List ℕ) (buf other size : ℕ) → buf < other → slice_get cells buf ≡ Some size → sum (take buf cells) + size ≤ sum (take other cells)
sum-before [] buf other size below is = absurd cc
sum-before (first ∷ cells) buf zero size below is = absurd (omega (arith, below))
sum-before (first ∷ cells) zero (suc other) size below is = let same : first ≡ size = same_Some first size is in omega (arith, same, sum-suc first cells other)
sum-before (first ∷ cells) (suc buf) (suc other) size below is =
    let h = sum-before cells buf other size (omega (arith, below)) is in omega (arith, h, sum-suc first cells buf, sum-suc first cells other)

-- a word of a buffer: how far it lies from the buffer's first word
abbrev offset : Place → ℕ
offset (Pool group) = 0
offset (Card buf) = 0
offset (Length buf) = 1
offset (Count buf) = 2
offset (Position buf dest) = 3 + dest
offset (Cell buf at) = 11 + at

-- it lies before the words of each later buffer
record Lies (groups : ℕ) (cells : List ℕ) (buf far : ℕ) : Type 0 where
  size : ℕ
  there : slice_get cells buf ≡ Some size
  within : far < 11 + size

lies-there : (groups : ℕ) (cells : List ℕ) (buf far : ℕ) → buf < length cells → far < 11 → Lies groups cells buf far
lies-there groups cells buf far there few = record { size = _; there = slice_get-get_or cells buf 0 there; within = omega (arith, few) }

before : (groups : ℕ) (cells : List ℕ) (buf other far : ℕ) → Lies groups cells buf far → buf < other → first_word groups cells buf + far < first_word groups cells other
before groups cells buf other far lies below =
    let h = sum-before cells buf other lies.size below lies.there in omega (arith, h, lies.within, below)

-- so two words at one place are of one buffer, as far from its first one
same : (groups : ℕ) (cells : List ℕ) (buf other far more : ℕ) → Lies groups cells buf far → Lies groups cells other more → first_word groups cells buf + far ≡ first_word groups cells other + more → (buf ≡ other) × (far ≡ more)
same groups cells buf other far more one two is = elim (cases_order buf other) [
  | inl equal ↦ (equal, let first : first_word groups cells buf ≡ first_word groups cells other = ap (first_word groups cells) equal in omega (arith, is, first))
  | inr order ↦ elim order [
    | inl below ↦ absurd (let h = before groups cells buf other far one below in omega (arith, h, is))
    | inr above ↦ absurd (let h = before groups cells other buf more two above in omega (arith, h, is))
  ]
]

-- the pool words come before all words of buffers
past-pool : (groups group far : ℕ) (cells : List ℕ) (buf : ℕ) → group < groups → group ≡ first_word groups cells buf + far → ⊥
past-pool groups group far cells buf there is = omega (arith, there, is)

-- two words at one place are one
pub differ : PlacesDiffer
differ groups cells (Pool group) (Pool other) there here is = ap Pool is
differ groups cells (Pool group) (Card other) there here is = absurd (past-pool groups group 0 cells other there (omega (arith, is)))
differ groups cells (Card buf) (Pool other) there here is = absurd (past-pool groups other 0 cells buf here (omega (arith, is)))
differ groups cells (Pool group) (Length other) there here is = absurd (past-pool groups group 1 cells other there (omega (arith, is)))
differ groups cells (Length buf) (Pool other) there here is = absurd (past-pool groups other 1 cells buf here (omega (arith, is)))
differ groups cells (Pool group) (Count other) there here is = absurd (past-pool groups group 2 cells other there (omega (arith, is)))
differ groups cells (Count buf) (Pool other) there here is = absurd (past-pool groups other 2 cells buf here (omega (arith, is)))
differ groups cells (Pool group) (Position other more) there here is = absurd (past-pool groups group (3 + more) cells other there (omega (arith, is)))
differ groups cells (Position buf at) (Pool other) there here is = absurd (past-pool groups other (3 + at) cells buf here (omega (arith, is)))
differ groups cells (Pool group) (Cell other more) there here is = absurd (past-pool groups group (11 + more) cells other there (omega (arith, is)))
differ groups cells (Cell buf at) (Pool other) there here is = absurd (past-pool groups other (11 + at) cells buf here (omega (arith, is)))
differ groups cells (Card buf) (Card other) there here is = ap Card (same groups cells buf other 0 0 (lies-there groups cells buf 0 there (omega arith)) (lies-there groups cells other 0 here (omega arith)) (omega (arith, is))).0
differ groups cells (Card buf) (Length other) there here is = absurd (let so = same groups cells buf other 0 1 (lies-there groups cells buf 0 there (omega arith)) (lies-there groups cells other 1 here (omega arith)) (omega (arith, is)) in omega (arith, so.1))
differ groups cells (Card buf) (Count other) there here is = absurd (let so = same groups cells buf other 0 2 (lies-there groups cells buf 0 there (omega arith)) (lies-there groups cells other 2 here (omega arith)) (omega (arith, is)) in omega (arith, so.1))
differ groups cells (Card buf) (Position other more) there here is = absurd (let so = same groups cells buf other 0 (3 + more) (lies-there groups cells buf 0 there (omega arith)) (lies-there groups cells other (3 + more) here.0 (omega (arith, here.1))) (omega (arith, is)) in omega (arith, so.1, here.1))
differ groups cells (Card buf) (Cell other more) there here is = absurd (let so = same groups cells buf other 0 (11 + more) (lies-there groups cells buf 0 there (omega arith)) (record { size = here.0; there = here.1; within = omega (arith, here.2) }) (omega (arith, is)) in omega (arith, so.1))
differ groups cells (Length buf) (Card other) there here is = absurd (let so = same groups cells buf other 1 0 (lies-there groups cells buf 1 there (omega arith)) (lies-there groups cells other 0 here (omega arith)) (omega (arith, is)) in omega (arith, so.1))
differ groups cells (Length buf) (Length other) there here is = ap Length (same groups cells buf other 1 1 (lies-there groups cells buf 1 there (omega arith)) (lies-there groups cells other 1 here (omega arith)) (omega (arith, is))).0
differ groups cells (Length buf) (Count other) there here is = absurd (let so = same groups cells buf other 1 2 (lies-there groups cells buf 1 there (omega arith)) (lies-there groups cells other 2 here (omega arith)) (omega (arith, is)) in omega (arith, so.1))
differ groups cells (Length buf) (Position other more) there here is = absurd (let so = same groups cells buf other 1 (3 + more) (lies-there groups cells buf 1 there (omega arith)) (lies-there groups cells other (3 + more) here.0 (omega (arith, here.1))) (omega (arith, is)) in omega (arith, so.1, here.1))
differ groups cells (Length buf) (Cell other more) there here is = absurd (let so = same groups cells buf other 1 (11 + more) (lies-there groups cells buf 1 there (omega arith)) (record { size = here.0; there = here.1; within = omega (arith, here.2) }) (omega (arith, is)) in omega (arith, so.1))
differ groups cells (Count buf) (Card other) there here is = absurd (let so = same groups cells buf other 2 0 (lies-there groups cells buf 2 there (omega arith)) (lies-there groups cells other 0 here (omega arith)) (omega (arith, is)) in omega (arith, so.1))
differ groups cells (Count buf) (Length other) there here is = absurd (let so = same groups cells buf other 2 1 (lies-there groups cells buf 2 there (omega arith)) (lies-there groups cells other 1 here (omega arith)) (omega (arith, is)) in omega (arith, so.1))
differ groups cells (Count buf) (Count other) there here is = ap Count (same groups cells buf other 2 2 (lies-there groups cells buf 2 there (omega arith)) (lies-there groups cells other 2 here (omega arith)) (omega (arith, is))).0
differ groups cells (Count buf) (Position other more) there here is = absurd (let so = same groups cells buf other 2 (3 + more) (lies-there groups cells buf 2 there (omega arith)) (lies-there groups cells other (3 + more) here.0 (omega (arith, here.1))) (omega (arith, is)) in omega (arith, so.1, here.1))
differ groups cells (Count buf) (Cell other more) there here is = absurd (let so = same groups cells buf other 2 (11 + more) (lies-there groups cells buf 2 there (omega arith)) (record { size = here.0; there = here.1; within = omega (arith, here.2) }) (omega (arith, is)) in omega (arith, so.1))
differ groups cells (Position buf at) (Card other) there here is = absurd (let so = same groups cells buf other (3 + at) 0 (lies-there groups cells buf (3 + at) there.0 (omega (arith, there.1))) (lies-there groups cells other 0 here (omega arith)) (omega (arith, is)) in omega (arith, so.1, there.1))
differ groups cells (Position buf at) (Length other) there here is = absurd (let so = same groups cells buf other (3 + at) 1 (lies-there groups cells buf (3 + at) there.0 (omega (arith, there.1))) (lies-there groups cells other 1 here (omega arith)) (omega (arith, is)) in omega (arith, so.1, there.1))
differ groups cells (Position buf at) (Count other) there here is = absurd (let so = same groups cells buf other (3 + at) 2 (lies-there groups cells buf (3 + at) there.0 (omega (arith, there.1))) (lies-there groups cells other 2 here (omega arith)) (omega (arith, is)) in omega (arith, so.1, there.1))
differ groups cells (Position buf at) (Position other more) there here is = let so = same groups cells buf other (3 + at) (3 + more) (lies-there groups cells buf (3 + at) there.0 (omega (arith, there.1))) (lies-there groups cells other (3 + more) here.0 (omega (arith, here.1))) (omega (arith, is)) in ap (λ n. Position n at) so.0 ∙ ap (Position other) (omega (arith, so.1))
differ groups cells (Position buf at) (Cell other more) there here is = absurd (let so = same groups cells buf other (3 + at) (11 + more) (lies-there groups cells buf (3 + at) there.0 (omega (arith, there.1))) (record { size = here.0; there = here.1; within = omega (arith, here.2) }) (omega (arith, is)) in omega (arith, so.1, there.1))
differ groups cells (Cell buf at) (Card other) there here is = absurd (let so = same groups cells buf other (11 + at) 0 (record { size = there.0; there = there.1; within = omega (arith, there.2) }) (lies-there groups cells other 0 here (omega arith)) (omega (arith, is)) in omega (arith, so.1))
differ groups cells (Cell buf at) (Length other) there here is = absurd (let so = same groups cells buf other (11 + at) 1 (record { size = there.0; there = there.1; within = omega (arith, there.2) }) (lies-there groups cells other 1 here (omega arith)) (omega (arith, is)) in omega (arith, so.1))
differ groups cells (Cell buf at) (Count other) there here is = absurd (let so = same groups cells buf other (11 + at) 2 (record { size = there.0; there = there.1; within = omega (arith, there.2) }) (lies-there groups cells other 2 here (omega arith)) (omega (arith, is)) in omega (arith, so.1))
differ groups cells (Cell buf at) (Position other more) there here is = absurd (let so = same groups cells buf other (11 + at) (3 + more) (record { size = there.0; there = there.1; within = omega (arith, there.2) }) (lies-there groups cells other (3 + more) here.0 (omega (arith, here.1))) (omega (arith, is)) in omega (arith, so.1, here.1))
differ groups cells (Cell buf at) (Cell other more) there here is = let so = same groups cells buf other (11 + at) (11 + more) (record { size = there.0; there = there.1; within = omega (arith, there.2) }) (record { size = here.0; there = here.1; within = omega (arith, here.2) }) (omega (arith, is)) in ap (λ n. Cell n at) so.0 ∙ ap (Cell other) (omega (arith, so.1))

-- and within all words
pub within : PlacesLieWithin
within groups cells (Pool group) there = omega (arith, there)
within groups cells (Card buf) there = let h = before groups cells buf (length cells) 0 (lies-there groups cells buf 0 there (omega arith)) there in omega (arith, h)
within groups cells (Length buf) there = let h = before groups cells buf (length cells) 1 (lies-there groups cells buf 1 there (omega arith)) there in omega (arith, h)
within groups cells (Count buf) there = let h = before groups cells buf (length cells) 2 (lies-there groups cells buf 2 there (omega arith)) there in omega (arith, h)
within groups cells (Position buf at) there = let h = before groups cells buf (length cells) (3 + at) (lies-there groups cells buf (3 + at) there.0 (omega (arith, there.1))) there.0 in omega (arith, h)
within groups cells (Cell buf at) there = let h = before groups cells buf (length cells) (11 + at) (record { size = there.0; there = there.1; within = omega (arith, there.2) }) (slice_get_within cells buf there.0 there.1) in omega (arith, h)
