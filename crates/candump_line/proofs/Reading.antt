-- The digits of a field give its number back.
use Rattle.std.proofs.Common.{◌≡◌, ℕ, zero, suc, ◌+◌, ◌-◌, ◌*◌, ◌/◌, ◌%◌, ◌^◌, ◌<◌, ◌≤◌, List, ◌++◌, length, slice_index, get_or, take, Some, refl, sym, ◌∙◌, arith, pow-suc}
use Rattle.std.specs.Prelude.{decimal, replicate}
use Rattle.std.specs.Char.{digit_value}
use Rattle.std.specs.Str.Parse.{AllDigits, digits_value}
use Rattle.std.proofs.lemmas.Bool.Decides.{nat_tests}
use Rattle.std.proofs.lemmas.Fmt.{decimal_is_IsNumeral}
use Rattle.std.proofs.lemmas.Int.Digits.{digits_value_push, digits_push, digits_value-lt, digits_value_more}
use Rattle.std.proofs.lemmas.Nat.{mul-add-lt}
use Rattle.std.proofs.Math.Nat.{pow-le-pow_left, pow-le-pow_right}
use Rattle.std.proofs.lemmas.List.{length-take-le}
use Rattle.gw_base.specs.Decimal.{padded_decimal}
use Rattle.hex.specs.Hex.{hex_digit_value, upper_digits}
use Rattle.hex.proofs.HexLemmas.{IsDigits-upper_digits}
use Rattle.candump_line.specs.Line.{hex_number}
use Rattle.candump_line.specs.Spelling.{Writes}

-- leading zeros add nothing
zeros_digits : (n : ℕ) (digits : List ℕ) → AllDigits 10 digits → AllDigits 10 (replicate n 48 ++ digits)
zeros_digits zero digits all = all
zeros_digits (suc n) digits all = (omega arith, zeros_digits n digits all)

zeros_value : (n : ℕ) (digits : List ℕ) → digits_value 10 (replicate n 48 ++ digits) ≡ digits_value 10 digits
zeros_value zero digits = refl
zeros_value (suc n) digits = zeros_value n digits

pub Writes-padded_decimal : (width value : ℕ) → value < 2 ^ 64 → Writes 10 value (padded_decimal width value)
Writes-padded_decimal width value small =
    let numeral = decimal_is_IsNumeral value small in
    let zeros : ℕ = width - length (decimal value) in
    record { all = zeros_digits zeros (decimal value) numeral.0.1; value = zeros_value zeros (decimal value) ∙ numeral.1 }

-- a hex digit's value is the same in the library's words
digit_value-hex : (byte value : ℕ) → hex_digit_value byte ≡ Some value → digit_value byte ≡ value
digit_value-hex byte value read = grind (arith, nat_tests)

pub digit_value-upper : (digit : ℕ) → digit < 16 → digit_value (slice_index upper_digits digit) ≡ digit
digit_value-upper digit small = digit_value-hex (slice_index upper_digits digit) digit (IsDigits-upper_digits digit small)

pub Writes-hex_number : (width value : ℕ) → value < 16 ^ width → Writes 16 value (hex_number width value)
unfolding hex_number
Writes-hex_number zero value small = record { all = tt; value = omega arith }
Writes-hex_number (suc width) value small =
    let digit : ℕ = slice_index upper_digits (value % 16) in
    let read : digit_value digit ≡ value % 16 = digit_value-upper (value % 16) (omega arith) in
    let before = Writes-hex_number width (value / 16) (omega (arith, pow-suc 16 width)) in
    record {
      all = digits_push 16 (hex_number width (value / 16)) digit before.all (omega (arith, read));
      value = digits_value_push 16 (hex_number width (value / 16)) digit ∙ omega (arith, before.value, read);
    }

-- ten digits of a base up to 16 fit
pub number_fits : (base : ℕ) (digits : List ℕ) (i value scale digit : ℕ) → base ≤ 16 → length digits ≤ 10 → i < length digits →
    AllDigits base (take i digits) → value ≡ digits_value base (take i digits) → scale ≡ base → digit < base → value * scale + digit < 2 ^ 64
number_fits base digits i value scale digit most short inside all so_far same below =
    let len : length (take i digits) ≡ i = length-take-le i digits (omega arith) in
    let bound : value < base ^ i = rw so_far (rw len at (digits_value-lt base (take i digits) all)) in
    let more : value * base + digit < base * base ^ i = mul-add-lt value base digit (base ^ i) bound below in
    let wide : base ^ suc i ≤ 16 ^ suc i = pow-le-pow_left most (suc i) in
    let few : 16 ^ suc i ≤ 16 ^ 10 = let some : 0 < 16 = omega arith in let steps : suc i ≤ 10 = omega arith in pow-le-pow_right some steps in
    rw same (omega (arith, pow-suc base i))

-- one digit more
pub number_more : (base : ℕ) (digits : List ℕ) (i value scale digit glyph : ℕ) → i < length digits →
    value ≡ digits_value base (take i digits) → scale ≡ base → digit ≡ digit_value glyph → glyph ≡ get_or digits i 0 →
    value * scale + digit ≡ digits_value base (take (i + 1) digits)
number_more base digits i value scale digit glyph inside so_far same read at = rw (so_far, same, read, at) (sym (digits_value_more base digits i inside))
