-- The texts of a configuration are ASCII.
use Rattle.std.proofs.Common.{◌≡◌, ℕ, zero, suc, ◌<◌, ◌&&◌, Bool, true, not, nat_le, List, [], ◌∷◌, length, IsUtf8, arith, ◌^◌}
use Rattle.std.proofs.lemmas.Bool.{and_parts, leb-true}
use Rattle.std.proofs.lemmas.Bool.Decides.{nat_tests}
use Rattle.std.proofs.lemmas.Str.{IsUtf8-from_ascii}
use Rattle.std.specs.List.{list_all}
use Rattle.std.specs.Str.{IsAscii}
use Rattle.gw_config.specs.Config.{CancelEntry}
use Rattle.gw_config.specs.Lawful.{IsLawfulCancel}
use Rattle.gw_config.specs.Hex.{is_hex_digit}
use Rattle.config_text.specs.Printed.{hex_text}
use Rattle.gw_config.specs.Rows.{text_fits}
use Rattle.gw_config.specs.Texts.{is_folder, is_name_byte}
use Rattle.gw_config.specs.declared.rows.TextRow.{TextRow}
use Rattle.config_text.proofs.IdBack.{hex_text-digits}

name_byte : (byte : ℕ) → is_name_byte byte ≡ true → byte < 128
name_byte byte h = grind (arith, nat_tests)

hex_byte : (byte : ℕ) → is_hex_digit byte ≡ true → byte < 128
hex_byte byte h = grind (arith, nat_tests)

ascii_by : (test : ℕ → Bool) → ((byte : ℕ) → test byte ≡ true → byte < 128) → (bytes : List ℕ) → list_all test bytes ≡ true → IsAscii bytes
ascii_by test below [] all i = omega arith
ascii_by test below (byte ∷ bytes) all zero = below byte (and_parts (test byte) (list_all test bytes) all).0
ascii_by test below (byte ∷ bytes) all (suc i) = ascii_by test below bytes (and_parts (test byte) (list_all test bytes) all).1 i

pub name-utf8 : (row : TextRow) (text : List ℕ) → text_fits row text ≡ true → IsUtf8 text
name-utf8 row text fits =
    let (sizes, rest) = and_parts (nat_le 1 (length text) && nat_le (length text) row.most) (list_all is_name_byte text && not (row.is_file && is_folder text)) fits in
    IsUtf8-from_ascii text (ascii_by is_name_byte name_byte text (and_parts (list_all is_name_byte text) (not (row.is_file && is_folder text)) rest).0)

pub hex-utf8 : (digits value : ℕ) → IsUtf8 (hex_text digits value)
hex-utf8 digits value = IsUtf8-from_ascii (hex_text digits value) (ascii_by is_hex_digit hex_byte (hex_text digits value) (hex_text-digits digits value))

pub ruleset name_texts = name-utf8

pub ruleset hex_texts = hex-utf8

pub tick-small : (entry : CancelEntry) → IsLawfulCancel entry → entry.tick.0 < 2 ^ 63
tick-small entry lawful =
    let (least, most) = and_parts (nat_le 0 entry.tick.0) (nat_le entry.tick.0 10000000) lawful.tick in
    omega (arith, leb-true entry.tick.0 10000000 most)

pub ruleset ticks = tick-small
