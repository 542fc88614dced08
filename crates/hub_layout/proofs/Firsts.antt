-- The first words of buffers, one after another.
use Rattle.std.proofs.Common.{◌≡◌, ℕ, ◌+◌, ◌*◌, ◌<◌, ◌≤◌, zero, suc, List, [], ◌∷◌, ◌++◌, length, take, get_or, All, Some, inl, inr, refl, ap, sym, ◌∙◌, subst, arith, length-append}
use Rattle.std.specs.Prelude.{slice_get, slice_index, sum}
use Rattle.std.proofs.lemmas.Bool.{cases_lt}
use Rattle.std.proofs.lemmas.List.Elements.{All-head, All-tail, All-weaker}
use Rattle.gw_base.proofs.Lists.{slice_get-more}
use Rattle.std.proofs.lemmas.List.Sums.{sum_by-cons}
use Rattle.hub_layout.specs.Places.{first_word}
use Rattle.hub_layout.specs.Pool.{IsPool, first_words}

-- there are as many as buffers
pub long : (groups : ℕ) (cells : List ℕ) (buffers : ℕ) → length (first_words groups cells buffers) ≡ buffers
long groups cells zero = refl
long groups cells (suc buf) = omega (arith, length-append (first_words groups cells buf) (first_word groups cells buf ∷ []), long groups cells buf)

-- one more buffer
pub next : (groups : ℕ) (cells : List ℕ) (buf : ℕ) → buf < length cells → first_word groups cells (buf + 1) ≡ first_word groups cells buf + (11 + slice_index cells buf)
next groups cells buf there = let h = sum-next cells buf there in omega (arith, h)
  where
    sum-next : (l : List ℕ) (k : ℕ) → k < length l → sum (take (k + 1) l) ≡ sum (take k l) + slice_index l k
    sum-next [] k below = absurd (omega (arith, below))
    sum-next (x ∷ l) zero below = sum_by-cons (λ (n : ℕ). n) x [] ∙ omega arith
    sum-next (x ∷ l) (suc k) below =
        let one : suc k + 1 ≡ suc (k + 1) = omega arith in
        let more = sum-next l k (omega (arith, below)) in
        ap (λ n. sum (take n (x ∷ l))) one ∙ sum_by-cons (λ (n : ℕ). n) x (take (k + 1) l) ∙ ap (λ n. x + n) more ∙ omega (arith, sum_by-cons (λ (n : ℕ). n) x (take k l))

-- few buffers have few words
sum-most : (cells : List ℕ) (buf : ℕ) → All (λ size. size ≤ 8192) cells → sum (take buf cells) ≤ 8192 * length cells
sum-most [] zero few = omega arith
sum-most [] (suc buf) few = omega arith
sum-most (size ∷ cells) zero few = omega arith
sum-most (size ∷ cells) (suc buf) few =
    let rest = sum-most cells buf (All-tail (λ n. n ≤ 8192) size cells few) in
    let head = All-head (λ n. n ≤ 8192) size cells few in
    omega (arith, rest, head, sum_by-cons (λ (n : ℕ). n) size (take buf cells))

pub most : (groups : ℕ) (cells : List ℕ) (buf : ℕ) → groups ≤ 4 → length cells ≤ 128 → buf ≤ length cells → All (λ size. size ≤ 8192) cells → first_word groups cells buf ≤ 1049988
most groups cells buf some few there cells_few = omega (arith, some, few, there, sum-most cells buf cells_few)

-- groups of few buffers have few together
sum-sizes : (sizes : List ℕ) → All (λ size. (1 ≤ size) × (size ≤ 32)) sizes → sum sizes ≤ 32 * length sizes
sum-sizes [] few = omega arith
sum-sizes (size ∷ sizes) few =
    let rest = sum-sizes sizes (All-tail (λ n. (1 ≤ n) × (n ≤ 32)) size sizes few) in
    let head = (All-head (λ n. (1 ≤ n) × (n ≤ 32)) size sizes few).1 in
    omega (arith, rest, head, sum_by-cons (λ (n : ℕ). n) size sizes)

pub few-buffers : (cells sizes : List ℕ) → IsPool cells sizes → length cells ≤ 128
few-buffers cells sizes pool = let h = sum-sizes sizes pool.groups_are in omega (arith, h, pool.few, pool.all)

pub few-cells : (cells sizes : List ℕ) → IsPool cells sizes → All (λ size. size ≤ 8192) cells
few-cells cells sizes pool = All-weaker (λ size. (1 ≤ size) × (size ≤ 8192)) (λ size. size ≤ 8192) (λ size is. is.1) cells pool.buffers_are

-- the first word of a buffer
pub first-at : (groups : ℕ) (cells : List ℕ) (buffers buf : ℕ) → buf < buffers → slice_get (first_words groups cells buffers) buf ≡ Some (first_word groups cells buf)
first-at groups cells zero buf there = absurd (omega (arith, there))
first-at groups cells (suc last) buf there = elim (cases_lt buf last) [
  | inl below ↦ slice_get-more (first_words groups cells last) (first_word groups cells last ∷ []) buf (first_word groups cells buf) (first-at groups cells last buf below)
  | inr above ↦
      let same : buf ≡ last = omega (arith, there, above) in
      let P : ℕ → Type 0 = λ n. slice_get (first_words groups cells last ++ first_word groups cells last ∷ []) n ≡ Some (first_word groups cells n) in
      subst P (sym same) (last-at (first_words groups cells last) (first_word groups cells last) last (long groups cells last))
]
  where
    last-at : (xs : List ℕ) (x n : ℕ) → length xs ≡ n → slice_get (xs ++ x ∷ []) n ≡ Some x
    last-at [] x zero is = refl
    last-at [] x (suc n) is = absurd (omega (arith, is))
    last-at (y ∷ xs) x zero is = absurd (omega (arith, is))
    last-at (y ∷ xs) x (suc n) is = last-at xs x n (omega (arith, is))
