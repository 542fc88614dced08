-- The bits of a free set: a take clears its buffer's bit, a free sets its buffer's, and each leaves the others.
use Rattle.std.proofs.Common.{◌≡◌, ◌≢◌, ℕ, zero, suc, ◌+◌, ◌-◌, ◌/◌, ◌%◌, ◌^◌, ◌<◌, ◌≤◌, inl, inr, refl, ap, sym, ◌∙◌, arith}
use Rattle.std.proofs.Math.Nat.{pow-suc, pow-succ', div-div-eq-div-mul}
use Rattle.std.proofs.lemmas.Bool.{cases_lt}
use Rattle.std.proofs.lemmas.Grind.{and_numeral}
use Rattle.std.proofs.lemmas.Nat.{bit_set_by_shift}
use Rattle.std.specs.Prelude.{IsBitSet}

-- the binary digits of a number, from the lowest
abbrev pub digit : ℕ → ℕ → ℕ
digit n zero = n % 2
digit n (suc k) = digit (n / 2) k

pub power : (k : ℕ) → 2 ^ suc k ≡ 2 ^ k + 2 ^ k
power k = let e = pow-suc 2 k in omega (arith, e)

pub digit-there : (n k : ℕ) → digit n k ≡ 1 → 2 ^ k ≤ n
digit-there n zero is = omega (arith, is)
digit-there n (suc k) is = let h = digit-there (n / 2) k is in omega (arith, h, power k)

pub digit-most : (n k : ℕ) → digit n k ≤ 1
digit-most n zero = omega arith
digit-most n (suc k) = digit-most (n / 2) k

-- a digit is what the shifted number ends with
digit-shifted : (n k : ℕ) → digit n k ≡ (n / 2 ^ k) % 2
digit-shifted n zero = ap (λ m. m % 2) (omega arith)
digit-shifted n (suc k) = digit-shifted (n / 2) k ∙ ap (λ m. m % 2) (sym (ap (λ p. n / p) (pow-succ' 2 k) ∙ sym (div-div-eq-div-mul n 2 (2 ^ k))))

pub set-digit : (n k : ℕ) → IsBitSet n k → digit n k ≡ 1
set-digit n k is = digit-shifted n k ∙ sym (and_numeral (n / 2 ^ k) 0 refl) ∙ (bit_set_by_shift n k).1 is

pub digit-set : (n k : ℕ) → digit n k ≡ 1 → IsBitSet n k
digit-set n k is = (bit_set_by_shift n k).0 (and_numeral (n / 2 ^ k) 0 refl ∙ sym (digit-shifted n k) ∙ is)

-- a digit's power is taken off
halved-less : (n k : ℕ) → 2 ^ suc k ≤ n → (n - 2 ^ suc k) / 2 ≡ n / 2 - 2 ^ k
halved-less n k most = omega (arith, most, power k)

digit-less : (n k : ℕ) → digit n k ≡ 1 → digit (n - 2 ^ k) k ≡ 0
digit-less n zero is = omega (arith, is)
digit-less n (suc k) is = ap (λ m. digit m k) (halved-less n k (digit-there n (suc k) is)) ∙ digit-less (n / 2) k is

others-less : (n k j : ℕ) → digit n k ≡ 1 → j ≢ k → digit (n - 2 ^ k) j ≡ digit n j
others-less n zero zero is other = absurd (other refl)
others-less n zero (suc j) is other = ap (λ m. digit m j) (omega (arith, is))
others-less n (suc k) zero is other = omega (arith, digit-there n (suc k) is, power k)
others-less n (suc k) (suc j) is other = ap (λ m. digit m j) (halved-less n k (digit-there n (suc k) is)) ∙ others-less (n / 2) k j is (λ e. other (ap suc e))

-- and put on
halved-more : (n k : ℕ) → (n + 2 ^ suc k) / 2 ≡ n / 2 + 2 ^ k
halved-more n k = omega (arith, power k)

others-more : (n k j : ℕ) → digit n k ≡ 0 → j ≢ k → digit (n + 2 ^ k) j ≡ digit n j
others-more n zero zero is other = absurd (other refl)
others-more n zero (suc j) is other = ap (λ m. digit m j) (omega (arith, is))
others-more n (suc k) zero is other = omega (arith, power k)
others-more n (suc k) (suc j) is other = ap (λ m. digit m j) (halved-more n k) ∙ others-more (n / 2) k j is (λ e. other (ap suc e))

-- a take clears the buffer's bit, and sets no other
pub take-clears : (free buf : ℕ) → IsBitSet free buf → IsBitSet (free - 2 ^ buf) buf → ⊥
take-clears free buf is still = absurd (omega (arith, set-digit (free - 2 ^ buf) buf still, digit-less free buf (set-digit free buf is)))

pub take-leaves : (free buf other : ℕ) → IsBitSet free buf → other ≢ buf → IsBitSet (free - 2 ^ buf) other → IsBitSet free other
take-leaves free buf other is ne set = digit-set free other (sym (others-less free buf other (set-digit free buf is) ne) ∙ set-digit (free - 2 ^ buf) other set)

-- and a free sets no other
pub free-leaves : (free buf other : ℕ) → (IsBitSet free buf → ⊥) → other ≢ buf → IsBitSet (free + 2 ^ buf) other → IsBitSet free other
free-leaves free buf other none ne set =
    let clear : digit free buf ≡ 0 = elim (cases_lt (digit free buf) 1) [
      | inl below ↦ omega (arith, below)
      | inr from ↦ absurd (none (digit-set free buf (let h = digit-most free buf in omega (arith, h, from))))
    ] in
    digit-set free other (sym (others-more free buf other clear ne) ∙ set-digit (free + 2 ^ buf) other set)

-- a free leaves the set as long as it was
more-fits : (n m k : ℕ) → n < 2 ^ m → k < m → digit n k ≡ 0 → n + 2 ^ k < 2 ^ m
more-fits n zero k low below clear = absurd (omega (arith, below))
more-fits n (suc m) zero low below clear = omega (arith, low, clear, power m)
more-fits n (suc m) (suc k) low below clear =
    let half : n / 2 < 2 ^ m = omega (arith, low, power m) in
    let rest = more-fits (n / 2) m k half (omega (arith, below)) clear in
    omega (arith, rest, power m, power k)

pub free-fits : (free buffers buf : ℕ) → free < 2 ^ buffers → buf < buffers → (IsBitSet free buf → ⊥) → free + 2 ^ buf < 2 ^ buffers
free-fits free buffers buf low below none = more-fits free buffers buf low below (elim (cases_lt (digit free buf) 1) [
  | inl clear ↦ omega (arith, clear)
  | inr from ↦ absurd (none (digit-set free buf (let h = digit-most free buf in omega (arith, h, from))))
])
