-- A number read digit by digit.
use Rattle.std.proofs.Common.{◌≡◌, ℕ, suc, ◌+◌, ◌*◌, ◌^◌, ◌<◌, ◌≤◌, true, false, Some, None, List, length, get_or, take, drop, refl, sym, ◌∙◌, arith}
use Rattle.std.proofs.Math.Nat.{two-pow-succ}
use Rattle.std.proofs.Math.Pow.{pow_mono}
use Rattle.std.proofs.Math.Seq.{drop-length, take-length}
use Rattle.std.proofs.lemmas.Bool.{le-ltb, lt-ltb}
use Rattle.std.proofs.lemmas.List.{drop_more}
use Rattle.std.proofs.lemmas.Int.Digits.{digits_value_more}
use Rattle.std.specs.Char.{digit_value}
use Rattle.std.specs.List.{list_all}
use Rattle.std.specs.Str.Parse.{digits_value}
use Rattle.gw_config.specs.Hex.{hex_value, is_hex_digit}

-- the first digits make the value, and the rest decides whether all are hex digits
pub record ReadDigits (digits : List ℕ) (done so_far : ℕ) : Type 0 where
  pub value : so_far ≡ digits_value 16 (take done digits)
  pub rest : list_all is_hex_digit (drop done digits) ≡ list_all is_hex_digit digits
  pub small : so_far < 2 ^ (4 * done)

pub room : (value done : ℕ) → value < 2 ^ (4 * done) → done < 8 → value < 2 ^ 28
room value done small more =
    let most : 2 ^ (4 * done) ≤ 2 ^ 28 = pow_mono {i = 4 * done} {j = 28} (omega arith) in
    omega (arith, most)

grown : (value digit done : ℕ) → value < 2 ^ (4 * done) → digit < 16 → value * 16 + digit < 2 ^ (4 * (done + 1))
grown value digit done small hex =
    let next : 4 * (done + 1) ≡ suc (suc (suc (suc (4 * done)))) = omega arith in
    rw (next, two-pow-succ (suc (suc (suc (4 * done)))), two-pow-succ (suc (suc (4 * done))), two-pow-succ (suc (4 * done)), two-pow-succ (4 * done)) (omega arith)

-- the rest, where it begins with a hex digit
rest_more : (digits : List ℕ) (done : ℕ) → done < length digits → is_hex_digit (get_or digits done 0) ≡ true →
    list_all is_hex_digit (drop done digits) ≡ list_all is_hex_digit (drop (done + 1) digits)
rest_more digits done within hex = rw (drop_more digits done 0 within, hex) refl

-- the rest, where it begins with another byte
rest_fails : (digits : List ℕ) (done : ℕ) → done < length digits → is_hex_digit (get_or digits done 0) ≡ false →
    list_all is_hex_digit (drop done digits) ≡ false
rest_fails digits done within other = rw (drop_more digits done 0 within, other) refl

module _ (digits : List ℕ) (done value : ℕ) (so_far : ReadDigits digits done value) (within : done < length digits) where
  -- a hex digit more
  pub reads_more : (digit : ℕ) → digit_value (get_or digits done 0) < 16 → digit_value (get_or digits done 0) ≡ digit → ReadDigits digits (done + 1) (value * 16 + digit)
  reads_more digit hex is = record {
    value = rw (digits_value_more 16 digits done within, is, so_far.value) refl;
    rest = sym (rest_more digits done within (lt-ltb _ _ hex)) ∙ so_far.rest;
    small = grown value digit done so_far.small (rw (← is) hex);
  }

  -- another byte
  pub reads_other : 16 ≤ digit_value (get_or digits done 0) → None ≡ hex_value digits
  reads_other other = rw (← so_far.rest, rest_fails digits done within (le-ltb _ _ other)) refl

-- all digits
pub reads_all : (digits : List ℕ) (value : ℕ) → ReadDigits digits (length digits) value → Some value ≡ hex_value digits
reads_all digits value so_far =
    let all : list_all is_hex_digit digits ≡ true = sym so_far.rest ∙ rw drop-length refl in
    rw (all, so_far.value, take-length) refl
