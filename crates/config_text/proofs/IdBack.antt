-- An identifier's digits are read as that identifier.
use Rattle.std.proofs.Common.{◌≡◌, ℕ, zero, suc, ◌*◌, ◌/◌, ◌%◌, ◌^◌, ◌<◌, true, [], ◌∷◌, length, Some, refl, length-append, arith}
use Rattle.std.proofs.Math.Nat.{pow-suc}
use Rattle.std.proofs.lemmas.Bool.{leb-true, lt-ltb}
use Rattle.std.proofs.lemmas.List.Folds.{list_all-append}
use Rattle.std.proofs.lemmas.Int.Digits.{digits_value_push}
use Rattle.std.specs.Char.{digit_char, digit_value}
use Rattle.std.specs.List.{list_all}
use Rattle.std.specs.Str.Parse.{digits_value}
use Rattle.can_frame.specs.declared.id.CanId.{CanId}
use Rattle.can_frame.specs.declared.id.CanId.TheVariants.{Std, Ext}
use Rattle.can_frame.specs.Id.{id_fits}
use Rattle.gw_config.specs.Hex.{is_hex_digit}
use Rattle.config_text.specs.Printed.{hex_text, id_text}
use Rattle.gw_config.specs.Words.{id_of}

-- a digit's value
digit_back : (digit : ℕ) → digit < 16 → digit_value (digit_char digit) ≡ digit
digit_back zero h = refl
digit_back (suc zero) h = refl
digit_back (suc (suc zero)) h = refl
digit_back (suc (suc (suc zero))) h = refl
digit_back (suc (suc (suc (suc zero)))) h = refl
digit_back (suc (suc (suc (suc (suc zero))))) h = refl
digit_back (suc (suc (suc (suc (suc (suc zero)))))) h = refl
digit_back (suc (suc (suc (suc (suc (suc (suc zero))))))) h = refl
digit_back (suc (suc (suc (suc (suc (suc (suc (suc zero)))))))) h = refl
digit_back (suc (suc (suc (suc (suc (suc (suc (suc (suc zero))))))))) h = refl
digit_back (suc (suc (suc (suc (suc (suc (suc (suc (suc (suc zero)))))))))) h = refl
digit_back (suc (suc (suc (suc (suc (suc (suc (suc (suc (suc (suc zero))))))))))) h = refl
digit_back (suc (suc (suc (suc (suc (suc (suc (suc (suc (suc (suc (suc zero)))))))))))) h = refl
digit_back (suc (suc (suc (suc (suc (suc (suc (suc (suc (suc (suc (suc (suc zero))))))))))))) h = refl
digit_back (suc (suc (suc (suc (suc (suc (suc (suc (suc (suc (suc (suc (suc (suc zero)))))))))))))) h = refl
digit_back (suc (suc (suc (suc (suc (suc (suc (suc (suc (suc (suc (suc (suc (suc (suc zero))))))))))))))) h = refl
digit_back (suc (suc (suc (suc (suc (suc (suc (suc (suc (suc (suc (suc (suc (suc (suc (suc more)))))))))))))))) h = absurd (omega arith)

pub length-hex_text : (digits value : ℕ) → length (hex_text digits value) ≡ digits
length-hex_text zero value = refl
length-hex_text (suc digits) value = rw (length-append, length-hex_text digits (value / 16)) (omega arith)

pub hex_text-digits : (digits value : ℕ) → list_all is_hex_digit (hex_text digits value) ≡ true
hex_text-digits zero value = refl
hex_text-digits (suc digits) value =
    let below : value % 16 < 16 = omega arith in
    rw (list_all-append is_hex_digit (hex_text digits (value / 16)) (digit_char (value % 16) ∷ []), hex_text-digits digits (value / 16), digit_back (value % 16) below, lt-ltb (value % 16) 16 below) refl

pub hex_text-value : (digits value : ℕ) → value < 16 ^ digits → digits_value 16 (hex_text digits value) ≡ value
hex_text-value zero value small = omega arith
hex_text-value (suc digits) value small =
    let below : value % 16 < 16 = omega arith in
    let fits : value < 16 ^ digits * 16 = rw (← pow-suc 16 digits) small in
    let rest : value / 16 < 16 ^ digits = omega (arith, fits) in
    rw (digits_value_push 16 (hex_text digits (value / 16)) (digit_char (value % 16)), hex_text-value digits (value / 16) rest, digit_back (value % 16) below) (omega arith)

pub id_back : (id : CanId) → id_fits id ≡ true → id_of (id_text id) ≡ Some id
id_back (Std value) fits =
    let small : value < 16 ^ 3 = omega (arith, leb-true value 0x7FF fits) in
    rw (length-hex_text 3 value, hex_text-digits 3 value, hex_text-value 3 value small, fits) refl
id_back (Ext value) fits =
    let small : value < 16 ^ 8 = omega (arith, leb-true value 0x1FFF_FFFF fits) in
    rw (length-hex_text 8 value, hex_text-digits 8 value, hex_text-value 8 value small, fits) refl
