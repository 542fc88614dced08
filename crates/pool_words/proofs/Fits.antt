-- The smallest of the buffers that fit, as a loop over them goes on.
use Rattle.std.proofs.Common.{◌≡◌, ℕ, ◌+◌, ◌^◌, ◌/◌, ◌<◌, ◌≤◌, ◌⊎◌, inl, inr, true, false, List, length, Option, Some, None, ap, subst, arith}
use Rattle.std.proofs.lemmas.Bool.{cases_lt, ltb-true, ltb-false}
use Rattle.std.proofs.lemmas.Nat.{bit_set_by_shift}
use Rattle.std.proofs.lemmas.Option.{same_Some}
use Rattle.std.specs.Prelude.{slice_index, bit_and}
use Rattle.gw_base.specs.Fit.{Fits, IsFit}
use Rattle.pool_words.specs.Pools.{is_smaller}

-- a buffer that fits, by the tests of the code
pub fits-from : (sizes : List ℕ) (free need buf : ℕ) → buf < length sizes → bit_and (free / 2 ^ buf) 1 ≡ 1 → need ≤ slice_index sizes buf → Fits sizes free need buf
fits-from sizes free need buf there set enough = record { there = there; is_free = (bit_set_by_shift free buf).0 set; enough = enough }

pub fits-set : (sizes : List ℕ) (free need buf : ℕ) → Fits sizes free need buf → bit_and (free / 2 ^ buf) 1 ≡ 1
fits-set sizes free need buf fits = (bit_set_by_shift free buf).1 fits.is_free

-- the smallest of the buffers below a number that fit
abbrev pub IsFitTo : List ℕ → (free need bufs : ℕ) → Option ℕ → Type 0
IsFitTo sizes free need bufs None = (other : ℕ) → other < bufs → Fits sizes free need other → ⊥
IsFitTo sizes free need bufs (Some buf) = (buf < bufs) × Fits sizes free need buf × ((other : ℕ) → other < bufs → Fits sizes free need other → slice_index sizes buf ≤ slice_index sizes other)
    × ((other : ℕ) → other < bufs → Fits sizes free need other → slice_index sizes other ≡ slice_index sizes buf → buf ≤ other)

pub fit-begins : (sizes : List ℕ) (free need : ℕ) → IsFitTo sizes free need 0 None
fit-begins sizes free need other below fits = absurd (omega (arith, below))

pub last-or : (other bufs : ℕ) → other < bufs + 1 → (other < bufs) ⊎ (other ≡ bufs)
last-or other bufs below = elim (cases_lt other bufs) [ inl low ↦ inl low | inr at ↦ inr (omega (arith, at, below)) ]

pub fit-better : (sizes : List ℕ) (free need bufs : ℕ) (best : Option ℕ) → Fits sizes free need bufs → is_smaller sizes bufs best ≡ true → IsFitTo sizes free need bufs best → IsFitTo sizes free need (bufs + 1) (Some bufs)
fit-better sizes free need bufs None fits smaller so = (
  omega arith,
  fits,
  λ other below too. elim (last-or other bufs below) [ inl low ↦ absurd (so other low too) | inr at ↦ omega (arith, ap (slice_index sizes) at) ],
  λ other below too same. elim (last-or other bufs below) [ inl low ↦ absurd (so other low too) | inr at ↦ omega (arith, at) ],
)
fit-better sizes free need bufs (Some best) fits smaller so =
    let less = ltb-true (slice_index sizes bufs) (slice_index sizes best) smaller in (
      omega arith,
      fits,
      λ other below too. elim (last-or other bufs below) [ inl low ↦ omega (arith, so.2 other low too, less) | inr at ↦ omega (arith, ap (slice_index sizes) at) ],
      λ other below too same. elim (last-or other bufs below) [ inl low ↦ absurd (omega (arith, so.2 other low too, less, same)) | inr at ↦ omega (arith, at) ],
    )

pub fit-stays : (sizes : List ℕ) (free need bufs : ℕ) (best : Option ℕ) → (Fits sizes free need bufs → is_smaller sizes bufs best ≡ false) → IsFitTo sizes free need bufs best → IsFitTo sizes free need (bufs + 1) best
fit-stays sizes free need bufs None not so = λ other below fits. elim (last-or other bufs below) [
  | inl low ↦ so other low fits
  | inr at ↦ absurd (let no : true ≡ false = not (subst (Fits sizes free need) at fits) in cc)
]
fit-stays sizes free need bufs (Some best) not so = (
  omega (arith, so.0),
  so.1,
  λ other below fits. elim (last-or other bufs below) [
    | inl low ↦ so.2 other low fits
    | inr at ↦ (let h = ltb-false (slice_index sizes bufs) (slice_index sizes best) (not (subst (Fits sizes free need) at fits)) in omega (arith, h, ap (slice_index sizes) at))
  ],
  λ other below fits same. elim (last-or other bufs below) [ inl low ↦ so.3 other low fits same | inr at ↦ omega (arith, so.0, at) ],
)

pub fit-ends : (sizes : List ℕ) (free need : ℕ) (best : Option ℕ) → IsFitTo sizes free need (length sizes) best → IsFit sizes free need best
fit-ends sizes free need None so = λ buf fits. so buf fits.there fits
fit-ends sizes free need (Some best) so = record { fits = so.1; fewest = λ other fits. so.2 other fits.there fits; first = λ other fits same. so.3 other fits.there fits same }

pub found-below : (sizes : List ℕ) (free need bufs at : ℕ) (best : Option ℕ) → best ≡ Some at → IsFitTo sizes free need bufs best → at < bufs
found-below sizes free need bufs at None is so = absurd cc
found-below sizes free need bufs at (Some best) is so = omega (arith, so.0, same_Some best at is)
