-- The digits of a line's fields: how many they are.
use Rattle.std.proofs.Common.{◌≡◌, ℕ, zero, suc, ◌+◌, ◌-◌, ◌/◌, ◌%◌, ◌^◌, ◌<◌, List, [], ◌∷◌, ◌++◌, length, slice_index, get_or, take, refl, sym, subst, ap, ◌∙◌, arith, length-append}
use Rattle.std.specs.Prelude.{All, decimal, replicate}
use Rattle.std.proofs.lemmas.Fmt.{length-decimal-le}
use Rattle.std.proofs.lemmas.List.{get_or_default, length-replicate, take_more}
use Rattle.gw_base.specs.Decimal.{padded_decimal}
use Rattle.hex.specs.Hex.{upper_digits, encode_with, encode_upper}
use Rattle.candump_line.specs.Line.{hex_number}

-- a number that its width takes has as many digits as the width
pub length-padded_decimal : (width value : ℕ) → 0 < width → value < 10 ^ width → value < 2 ^ 64 → length (padded_decimal width value) ≡ width
length-padded_decimal width value some fits small =
    length-append (replicate (width - length (decimal value)) 48) (decimal value)
    ∙ rw length-replicate (omega (arith, length-decimal-le width value some fits small))

-- one digit more
pub hex_number-step : (width number : ℕ) → 0 < width → hex_number width number ≡ hex_number (width - 1) (number / 16) ++ slice_index upper_digits (number % 16) ∷ []
unfolding hex_number
hex_number-step zero number some = absurd (omega arith)
hex_number-step (suc width) number some =
    let one_less : suc width - 1 ≡ width = omega arith in
    rw one_less refl

-- no digits
pub hex_number-none : (number : ℕ) → hex_number 0 number ≡ []
unfolding hex_number
hex_number-none number = refl

-- as many digits as asked for
pub length-hex_number : (width number : ℕ) → length (hex_number width number) ≡ width
unfolding hex_number
length-hex_number zero number = refl
length-hex_number (suc width) number =
    length-append (hex_number width (number / 16)) (slice_index upper_digits (number % 16) ∷ [])
    ∙ rw (length-hex_number width (number / 16)) (omega arith)

-- the digits of one byte more
encode_upper-push : (bytes : List ℕ) (byte : ℕ) → encode_upper (bytes ++ byte ∷ []) ≡ encode_upper bytes ++ slice_index upper_digits (byte / 16) ∷ slice_index upper_digits (byte % 16) ∷ []
unfolding encode_with
encode_upper-push [] byte = refl
encode_upper-push (first ∷ bytes) byte =
    ap (λ (rest : List ℕ). slice_index upper_digits (first / 16) ∷ slice_index upper_digits (first % 16) ∷ rest) (encode_upper-push bytes byte)

-- the same in a loop over the bytes
pub encode_upper-more : (bytes : List ℕ) (i : ℕ) → i < length bytes →
    encode_upper (take (i + 1) bytes) ≡ encode_upper (take i bytes) ++ slice_index upper_digits (get_or bytes i 0 / 16) ∷ slice_index upper_digits (get_or bytes i 0 % 16) ∷ []
encode_upper-more bytes i inside = ap encode_upper (take_more bytes i 0 inside) ∙ encode_upper-push (take i bytes) (get_or bytes i 0)

-- no bytes
pub encode_upper-none : encode_upper [] ≡ []
unfolding encode_with
encode_upper-none = refl

-- what is below 256 at each place is so of all
pub bytes-small : (bytes : List ℕ) → ((i : ℕ) → get_or bytes i 0 < 256) → All (λ b. b < 256) bytes
bytes-small bytes small k d inside = subst (λ n. n < 256) (sym (get_or_default bytes k d 0 inside)) (small k)
