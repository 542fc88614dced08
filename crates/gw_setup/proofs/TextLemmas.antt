-- What letters, digits, `_`, `-` and `.` can spell.
use Rattle.std.proofs.Common.{◌≡◌, ℕ, ◌<◌, ◌≤◌, true, List, [], ◌∷◌, arith}
use Rattle.std.specs.Prelude.{All}
use Rattle.std.specs.List.{list_all}
use Rattle.std.specs.Str.{IsUtf8}
use Rattle.std.proofs.lemmas.Bool.Decides.{nat_tests}
use Rattle.std.proofs.lemmas.List.Elements.{All-cons, All-nil, All-weaker}
use Rattle.std.proofs.lemmas.Str.{IsUtf8-from_ascii}
use Rattle.std.proofs.lemmas.Str.Ascii.{IsAscii-from_all}
use Rattle.gw_config.specs.Texts.{is_name_byte}

visible-one : (b : ℕ) → is_name_byte b ≡ true → (0x21 ≤ b) × (b ≤ 0x7E)
visible-one b is = grind (arith, nat_tests)

first-passes : (b : ℕ) (name : List ℕ) → list_all is_name_byte (b ∷ name) ≡ true → is_name_byte b ≡ true
first-passes b name is = grind arith

rest-passes : (b : ℕ) (name : List ℕ) → list_all is_name_byte (b ∷ name) ≡ true → list_all is_name_byte name ≡ true
rest-passes b name is = grind arith

pub visible : (name : List ℕ) → list_all is_name_byte name ≡ true → All (λ b. (0x21 ≤ b) × (b ≤ 0x7E)) name
visible [] is = All-nil (λ b. (0x21 ≤ b) × (b ≤ 0x7E))
visible (b ∷ name) is = All-cons (λ b. (0x21 ≤ b) × (b ≤ 0x7E)) b name (visible-one b (first-passes b name is)) (visible name (rest-passes b name is))

pub spells : (name : List ℕ) → list_all is_name_byte name ≡ true → IsUtf8 name
spells name is = IsUtf8-from_ascii name (IsAscii-from_all name (All-weaker (λ b. (0x21 ≤ b) × (b ≤ 0x7E)) (λ b. b < 128) (λ b seen. omega (arith, seen.1)) name (visible name is)))
