-- A written line is read back as its stamp and its frame, and is on one line.
use Rattle.std.proofs.Common.{◌≡◌, ℕ, ◌*◌, ◌/◌, ◌%◌, ◌^◌, ◌<◌, ◌≤◌, Bool, true, false, nat_le, List, [], ◌∷◌, ◌++◌, length, get_or, inl, refl, sym, ap, ◌∙◌, append_assoc, append-nil, length-append, arith}
use Rattle.std.specs.Prelude.{All, codes}
use Rattle.std.specs.Char.{digit_value}
use Rattle.std.specs.List.{list_all}
use Rattle.std.specs.Str.Parse.{AllDigits}
use Rattle.std.proofs.lemmas.Bool.{le-leb, leb-true}
use Rattle.std.proofs.lemmas.Bool.Decides.{nat_tests}
use Rattle.std.proofs.lemmas.List.Elements.{All-cons, All-nil, All-tail}
use Rattle.std.proofs.lemmas.List.Folds.{list_all-append}
use Rattle.std.proofs.lemmas.List.Sums.{AllPass-from_list_all}
use Rattle.gw_base.specs.Decimal.{padded_decimal}
use Rattle.can_frame.specs.Frame.{CanFrame, IsLawful}
use Rattle.can_frame.specs.Id.{id_fits}
use Rattle.can_frame.specs.declared.id.CanId.{CanId}
use Rattle.can_frame.specs.declared.id.CanId.TheVariants.{Std, Ext}
use Rattle.hex.specs.Hex.{encode_upper, encode_with, upper_digits}
use Rattle.hex.proofs.HexLemmas.{length-encode_with}
use Rattle.candump_line.specs.Line.{IsInterface, entry_text, hex_number, id_text, kind_text, stamp_text}
use Rattle.candump_line.specs.Reading.{ReadsBack}
use Rattle.candump_line.specs.Spelling.{AreDataDigits, AreSomeSpaces, IsIdText, IsKindText, IsStamp, Spells}
use Rattle.candump_line.proofs.Digits.{length-hex_number, length-padded_decimal}
use Rattle.candump_line.proofs.Reading.{digit_value-upper, Writes-hex_number, Writes-padded_decimal}
use Rattle.candump_line.proofs.Spelled.{fits-most, spelled}

-- ---- its pieces

one-space : AreSomeSpaces (codes " ")
one-space = (omega arith, All-cons (λ b. b ≡ 32) 32 [] refl (All-nil (λ b. b ≡ 32)))

stamp-is : (at : ℕ) → at < 2 ^ 32 * 10 ^ 6 → IsStamp (stamp_text at) at
stamp-is at dated =
    let xs : List ℕ = padded_decimal 10 (at / 1_000_000) in
    let ys : List ℕ = padded_decimal 6 (at % 1_000_000) in
    let ten : length xs ≡ 10 = length-padded_decimal 10 (at / 1_000_000) (omega arith) (omega (arith, dated)) (omega (arith, dated)) in
    record {
      seconds = at / 1_000_000;
      micros = at % 1_000_000;
      second_digits = xs;
      micro_digits = ys;
      more_digits = [];
      text_is = ap (λ t. codes "(" ++ xs ++ codes "." ++ t ++ codes ")") (sym (append-nil ys)) ∙ ap (λ t. t ++ codes ")") (sym (append_assoc (codes "(" ++ xs ++ codes ".") ys []));
      at_is = omega arith;
      seconds_are = Writes-padded_decimal 10 (at / 1_000_000) (omega (arith, dated));
      some = omega (arith, ten);
      few = omega (arith, ten);
      below = omega (arith, dated);
      micros_are = Writes-padded_decimal 6 (at % 1_000_000) (omega arith);
      six = length-padded_decimal 6 (at % 1_000_000) (omega arith) (omega arith) (omega arith);
      more_are = tt;
      three = inl refl;
    }

id-is : (id : CanId) → id_fits id ≡ true → IsIdText (id_text id) id
id-is (Std number) fits = let most = leb-true number 0x7FF fits in (length-hex_number 3 number, most, Writes-hex_number 3 number (omega (arith, most)))
id-is (Ext number) fits = let most = leb-true number 0x1FFF_FFFF fits in (length-hex_number 8 number, most, Writes-hex_number 8 number (omega (arith, most)))

kind-is : (fd brs : Bool) → IsKindText (kind_text fd brs) fd brs
kind-is false brs = refl
kind-is true false = (48, refl, omega arith, refl)
kind-is true true = (49, refl, omega arith, refl)

data-is : (bytes : List ℕ) → All (λ b. b < 256) bytes → AreDataDigits (encode_upper bytes) bytes
unfolding encode_with AreDataDigits
data-is [] small = tt
data-is (b ∷ bytes) small =
    let byte = small 0 0 (omega arith) in
    let high = digit_value-upper (b / 16) (omega (arith, byte)) in
    let low = digit_value-upper (b % 16) (omega arith) in
    (omega (arith, high, byte), omega (arith, low), omega (arith, high, low), data-is bytes (All-tail (λ b. b < 256) b bytes small))

-- ---- the whole line

kind-short : (fd brs : Bool) → length (kind_text fd brs) ≤ 3
kind-short false brs = omega arith
kind-short true false = omega arith
kind-short true true = omega arith

id-short : (id : CanId) → length (id_text id) ≤ 8
id-short (Std number) = omega (arith, length-hex_number 3 number)
id-short (Ext number) = omega (arith, length-hex_number 8 number)

regroup : (stamp gap iface space id kind digits : List ℕ) → stamp ++ gap ++ iface ++ space ++ (id ++ kind ++ digits) ≡ stamp ++ gap ++ iface ++ space ++ id ++ kind ++ digits ++ [] ++ []
regroup stamp gap iface space id kind digits = simp (append_assoc, append-nil)

pieces-long : (xs ys : List ℕ) → length xs ≡ 10 → length ys ≡ 6 → length (codes "(" ++ xs ++ codes "." ++ ys ++ codes ")") ≡ 19
pieces-long xs ys ten six = simp length-append (omega (arith, ten, six))

stamp-long : (at : ℕ) → at < 2 ^ 32 * 10 ^ 6 → length (stamp_text at) ≡ 19
stamp-long at dated =
    pieces-long (padded_decimal 10 (at / 1_000_000)) (padded_decimal 6 (at % 1_000_000)) (length-padded_decimal 10 (at / 1_000_000) (omega arith) (omega (arith, dated)) (omega (arith, dated)))
    (length-padded_decimal 6 (at % 1_000_000) (omega arith) (omega arith) (omega arith))

line-short : (stamp iface digits : List ℕ) (id : CanId) (fd brs : Bool) (bytes : ℕ) → length stamp ≡ 19 → length iface ≤ 15 → length digits ≡ 2 * bytes → bytes ≤ 64 →
    length (stamp ++ codes " " ++ iface ++ codes " " ++ (id_text id ++ kind_text fd brs ++ digits)) ≤ 512
line-short stamp iface digits id fd brs bytes long name twice most = simp length-append (omega (arith, long, name, twice, most, kind-short fd brs, id-short id))

-- a line that is written is spelled so
pub line-spells : (at : ℕ) (iface : List ℕ) (frame : CanFrame) → at < 2 ^ 32 * 10 ^ 6 → IsInterface iface → IsLawful frame → All (λ b. b < 256) frame.bytes → Spells iface (entry_text at iface frame) at frame
line-spells at iface frame dated name lawful small = record {
  stamp = stamp_text at;
  gap = codes " ";
  space = codes " ";
  id = id_text frame.id;
  kind = kind_text frame.fd frame.brs;
  digits = encode_upper frame.bytes;
  code = [];
  end = [];
  line_is = regroup (stamp_text at) (codes " ") iface (codes " ") (id_text frame.id) (kind_text frame.fd frame.brs) (encode_upper frame.bytes);
  short = line-short (stamp_text at) iface (encode_upper frame.bytes) frame.id frame.fd frame.brs (length frame.bytes) (stamp-long at dated) name.short (length-encode_with upper_digits frame.bytes)
      (fits-most frame.fd (length frame.bytes) lawful.len);
  stamp_is = stamp-is at dated;
  gap_is = one-space;
  space_is = one-space;
  id_is = id-is frame.id lawful.id;
  kind_is = kind-is frame.fd frame.brs;
  digits_are = data-is frame.bytes small;
  code_is = inl refl;
  end_is = inl (All-nil (λ b. b ≡ 32));
  lawful = lawful;
}

-- and so it is read back
pub line-back : (at : ℕ) (iface : List ℕ) (frame : CanFrame) → at < 2 ^ 32 * 10 ^ 6 → IsInterface iface → IsLawful frame → All (λ b. b < 256) frame.bytes → ReadsBack at iface frame
line-back at iface frame dated name lawful small = spelled iface (entry_text at iface frame) at frame name (line-spells at iface frame dated name lawful small)

hex-digits : (bytes : List ℕ) → All (λ b. b < 256) bytes → AllDigits 16 (encode_upper bytes)
unfolding encode_with
hex-digits [] small = tt
hex-digits (b ∷ bytes) small =
    let byte = small 0 0 (omega arith) in
    let high = digit_value-upper (b / 16) (omega (arith, byte)) in
    let low = digit_value-upper (b % 16) (omega arith) in
    (omega (arith, high, byte), (omega (arith, low), hex-digits bytes (All-tail (λ b. b < 256) b bytes small)))

-- ---- a written line is on one line

-- a space or a visible character, or a byte above them
abbrev shown : ℕ → Bool
shown byte = nat_le 0x20 byte

digit-shown : (base byte : ℕ) → base ≤ 36 → digit_value byte < base → 0x20 ≤ byte
digit-shown base byte most below = grind (arith, nat_tests)

digits-shown : (base : ℕ) (digits : List ℕ) → base ≤ 36 → AllDigits base digits → list_all shown digits ≡ true
digits-shown base [] most all = refl
digits-shown base (digit ∷ digits) most all = rw (le-leb 0x20 digit (digit-shown base digit most all.0), digits-shown base digits most all.1) refl

visible-shown : (xs : List ℕ) → All (λ b. (0x21 ≤ b) × (b ≤ 0x7E)) xs → list_all shown xs ≡ true
visible-shown [] all = refl
visible-shown (x ∷ xs) all =
    let first = all 0 0 (omega arith) in
    rw (le-leb 0x20 x (omega (arith, first.0)), visible-shown xs (All-tail (λ b. (0x21 ≤ b) × (b ≤ 0x7E)) x xs all)) refl

id-shown : (id : CanId) → id_fits id ≡ true → list_all shown (id_text id) ≡ true
id-shown (Std number) fits = let most = leb-true number 0x7FF fits in digits-shown 16 (hex_number 3 number) (omega arith) (Writes-hex_number 3 number (omega (arith, most))).all
id-shown (Ext number) fits = let most = leb-true number 0x1FFF_FFFF fits in digits-shown 16 (hex_number 8 number) (omega arith) (Writes-hex_number 8 number (omega (arith, most))).all

kind-shown : (fd brs : Bool) → list_all shown (kind_text fd brs) ≡ true
kind-shown false brs = refl
kind-shown true false = refl
kind-shown true true = refl

-- the test of a row of pieces
shown-row : (p a q b r s i t n k e : List ℕ) → list_all shown p ≡ true → list_all shown a ≡ true → list_all shown q ≡ true → list_all shown b ≡ true → list_all shown r ≡ true
    → list_all shown s ≡ true → list_all shown i ≡ true → list_all shown t ≡ true → list_all shown n ≡ true → list_all shown k ≡ true → list_all shown e ≡ true
    → list_all shown (p ++ a ++ q ++ b ++ r ++ s ++ i ++ t ++ (n ++ k ++ e)) ≡ true
shown-row p a q b r s i t n k e hp ha hq hb hr hs hi ht hn hk he = simp (list_all-append, hp, ha, hq, hb, hr, hs, hi, ht, hn, hk, he)

-- no byte of a written line, without its line feed, is a line feed or a carriage return
pub line-shown : (at : ℕ) (iface : List ℕ) (frame : CanFrame) → at < 10 ^ 16 → IsInterface iface → id_fits frame.id ≡ true → All (λ b. b < 256) frame.bytes →
    All (λ b. 0x20 ≤ b) (entry_text at iface frame)
line-shown at iface frame dated name known small =
    let seconds : ℕ = at / 1_000_000 in
    let micros : ℕ = at % 1_000_000 in
    let whole : list_all shown (entry_text at iface frame) ≡ true =
    shown-row (codes "(") (padded_decimal 10 seconds) (codes ".") (padded_decimal 6 micros) (codes ")") (codes " ") iface (codes " ") (id_text frame.id) (kind_text frame.fd frame.brs) (encode_upper frame.bytes)
    refl (digits-shown 10 (padded_decimal 10 seconds) (omega arith) (Writes-padded_decimal 10 seconds (omega (arith, dated))).all)
    refl (digits-shown 10 (padded_decimal 6 micros) (omega arith) (Writes-padded_decimal 6 micros (omega arith)).all)
    refl refl (visible-shown iface name.visible) refl (id-shown frame.id known) (kind-shown frame.fd frame.brs) (digits-shown 16 (encode_upper frame.bytes) (omega arith) (hex-digits frame.bytes small)) in
    λ k d inside. leb-true 0x20 (get_or (entry_text at iface frame) k d) (AllPass-from_list_all shown (entry_text at iface frame) whole k d inside)
