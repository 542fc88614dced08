-- Decimal digits that are read two and two.
use Rattle.std.proofs.Common.{◌≡◌, ℕ, ◌+◌, ◌*◌, ◌^◌, ◌%◌, ◌<◌, ◌≤◌, List, length, take, get_or, ap, ◌∙◌, subst, arith}
use Rattle.std.specs.Char.{digit_value}
use Rattle.std.specs.Str.Parse.{AllDigits, digits_value}
use Rattle.std.proofs.lemmas.Int.Digits.{digits_more, digits_value_more, digits_value-lt}
use Rattle.std.proofs.lemmas.List.{length-take-le}
use Rattle.std.proofs.Math.Nat.{pow-le-pow_right}

-- the digits so far, an even number of them
pub record EvenSoFar (front : List ℕ) (at value : ℕ) : Type 0 where
  pub even : at % 2 ≡ 0
  pub inside : at ≤ length front
  pub all : AllDigits 10 (take at front)
  pub value_is : value ≡ digits_value 10 (take at front)

-- two digits more
pub pair_more : (front : List ℕ) (at value scale sum pair tens ones : ℕ) → EvenSoFar front at value → at + 1 < length front → tens ≡ get_or front at 0 → ones ≡ get_or front (at + 1) 0 →
    digit_value tens < 10 → digit_value ones < 10 → pair ≡ digit_value tens * 10 + digit_value ones → scale ≡ 100 → sum ≡ pair →
    EvenSoFar front (at + 2) (value * scale + sum)
pair_more front at value scale sum pair tens ones so_far inside tens_is ones_is first second pair_is scale_is sum_is =
    let two : (at + 1) + 1 ≡ at + 2 = omega arith in
    let one_in : at < length front = omega arith in
    let one : AllDigits 10 (take (at + 1) front) = digits_more 10 front at one_in so_far.all (subst (λ b. digit_value b < 10) tens_is first) in
    let value_one = digits_value_more 10 front at one_in in
    let value_two = digits_value_more 10 front (at + 1) inside in
    record {
      even = omega (arith, so_far.even);
      inside = omega arith;
      all = subst (λ n. AllDigits 10 (take n front)) two (digits_more 10 front (at + 1) inside one (subst (λ b. digit_value b < 10) ones_is second));
      value_is =
          let tens_at : digit_value tens ≡ digit_value (get_or front at 0) = ap digit_value tens_is in
          let ones_at : digit_value ones ≡ digit_value (get_or front (at + 1) 0) = ap digit_value ones_is in
          let whole : value * 100 + pair ≡ digits_value 10 (take ((at + 1) + 1) front) = omega (arith, so_far.value_is, value_one, value_two, tens_at, ones_at, pair_is) in
          rw (scale_is, sum_is) (whole ∙ ap (λ n. digits_value 10 (take n front)) two);
    }

-- two digits more fit
pub pair_fits : (front : List ℕ) (at value scale sum : ℕ) → EvenSoFar front at value → at + 1 < length front → length front ≤ 10 → scale ≡ 100 → sum < 100 → value * scale + sum < 2 ^ 64
pair_fits front at value scale sum so_far inside short scale_is small =
    let long : length (take at front) ≡ at = length-take-le at front so_far.inside in
    let bound : value < 10 ^ at = rw so_far.value_is (rw long at (digits_value-lt 10 (take at front) so_far.all)) in
    let some : 0 < 10 = omega arith in
    let few : at ≤ 8 = omega arith in
    let wide : 10 ^ at ≤ 10 ^ 8 = pow-le-pow_right some few in
    rw scale_is (omega (arith, bound, wide))
