-- The buffers that are held, counted, as one is taken or used.
use Rattle.std.proofs.Common.{◌≡◌, ℕ, ◌+◌, ◌<◌, ◌≤◌, inl, inr, zero, suc, Option, Some, None, ap, arith}
use Rattle.std.proofs.lemmas.Bool.{cases_lt}
use Rattle.std.proofs.lemmas.Bool.Decides.{eqb_tells}
use Rattle.hub_core.proofs.Growing.{at_one-same, at_one-other}
use Rattle.hub_core.specs.View.{Taking, at_one}
use Rattle.hub_shared.specs.Counts.{counts_some, count_held}

module _ (held : ℕ → Option Taking) (buf : ℕ) (x : Option Taking) where
  count-below : (n : ℕ) → n ≤ buf → count_held (at_one buf x held) n ≡ count_held held n
  count-below zero low = omega arith
  count-below (suc n) low = let rest = count-below n (omega (arith, low)) in omega (arith, rest, ap counts_some (at_one-other buf n x held (λ e. omega (arith, e, low))))

  count-set : (n : ℕ) → buf < n → count_held (at_one buf x held) n + counts_some (held buf) ≡ count_held held n + counts_some x
  count-set zero low = absurd (omega (arith, low))
  count-set (suc n) low = elim (eqb_tells n buf) [
    | inl same ↦ (let rest = count-below n (omega (arith, same.1)) in
        omega (arith, rest, ap (λ (b : ℕ). counts_some (at_one buf x held b)) same.1, ap counts_some (at_one-same buf x held), ap (λ (b : ℕ). counts_some (held b)) same.1))
    | inr other ↦ (let rest = count-set n (omega (arith, low, other.1)) in omega (arith, rest, ap counts_some (at_one-other buf n x held other.1)))
  ]

  some-most : (y : Option Taking) → counts_some y ≤ 1
  some-most None = omega arith
  some-most (Some t) = omega arith

  -- one more is held at most
  pub count-more : (n : ℕ) → count_held (at_one buf x held) n ≤ count_held held n + 1
  count-more n = elim (cases_lt buf n) [
    | inl below ↦ (let is = count-set n below in omega (arith, is, some-most x))
    | inr past ↦ (let is = count-below n past in omega (arith, is))
  ]

-- one that was held is used
pub count-used : (held : ℕ → Option Taking) (buf n : ℕ) (t : Taking) → buf < n → held buf ≡ Some t → count_held (at_one buf None held) n + 1 ≡ count_held held n
count-used held buf n t below is = let so = count-set held buf None n below in omega (arith, so, ap counts_some is)
