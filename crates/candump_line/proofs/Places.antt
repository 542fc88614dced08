-- The fields of a line as candump writes it, by the places of their bytes.
use Rattle.std.proofs.Common.{◌≡◌, ℕ, suc, ◌+◌, ◌-◌, ◌*◌, ◌<◌, ◌≤◌, true, false, leb, ltb, List, [], ◌∷◌, ◌++◌, length, take, drop, set, get_or, Some, Ok, inl, inr, refl, sym, ap, ◌∙◌, subst, append-nil, append_assoc, arith}
use Rattle.std.specs.Prelude.{All, codes}
use Rattle.std.specs.Char.{digit_value, is_digit}
use Rattle.std.specs.List.{prefix_len}
use Rattle.std.specs.Str.Parse.{AllDigits, digits_value}
use Rattle.std.proofs.Math.Seq.{drop-cons, take-length}
use Rattle.std.proofs.lemmas.Bool.{cases_Bool, eqb-true, le-leb, leb-true, ltb-true}
use Rattle.std.proofs.lemmas.List.{drop-drop, length-drop, length-take-le, take-append-drop, take_more, take_more_set, take_rest}
use Rattle.std.proofs.lemmas.List.Elements.{All-nil, All-cons, All-append}
use Rattle.can_frame.specs.Length.{length_fits}
use Rattle.can_frame.specs.declared.id.CanId.{CanId}
use Rattle.can_frame.specs.declared.id.CanId.TheVariants.{Std}
use Rattle.candump_line.specs.Reading.{begins, content_at, digits_in, id_at, interface_at, is_visible, number_in, stamp_at}
use Rattle.candump_line.specs.Spelling.{AreDataDigits, AreSomeSpaces}
use Rattle.candump_line.specs.declared.line.Line.TheVariants.{Frame as FrameLine}
use Rattle.candump_line.proofs.Counting.{and-parts}
use Rattle.candump_line.proofs.Spelled.{content-of, id-of, interface-of, stamp-of}

-- a byte, and what stands after it
byte-at : (text : List ℕ) (i byte : ℕ) → i < length text → get_or text i 0 ≡ byte → drop i text ≡ byte ∷ drop (suc i) text
byte-at text i byte inside is = drop-cons text i 0 inside ∙ ap (λ b. b ∷ drop (suc i) text) is

-- so many bytes, and what stands after them
run-at : (text : List ℕ) (i n : ℕ) → drop i text ≡ take n (drop i text) ++ drop (i + n) text
run-at text i n = sym (take-append-drop n (drop i text)) ∙ ap (λ t. take n (drop i text) ++ t) (drop-drop n i text)

after-long : (i n : ℕ) (text : List ℕ) → i + n ≤ length text → n ≤ length (drop i text)
after-long i n text long = omega (arith, length-drop i text, long)

one_space : AreSomeSpaces (32 ∷ [])
one_space = (omega arith, All-cons (λ b. b ≡ 32) 32 [] refl (All-nil (λ b. b ≡ 32)))

-- ---- the stamp

-- ten digits and six digits in their places
pub stamp_written : (line : List ℕ) (seconds micros : ℕ) → 19 ≤ length line → get_or line 0 0 ≡ 40 → get_or line 11 0 ≡ 46 → get_or line 18 0 ≡ 41 →
    AllDigits 10 (take 10 (drop 1 line)) → seconds ≡ digits_value 10 (take 10 (drop 1 line)) → AllDigits 10 (take 6 (drop 12 line)) → micros ≡ digits_value 10 (take 6 (drop 12 line)) →
    seconds ≤ 4_294_967_295 → stamp_at line ≡ Ok (seconds * 1_000_000 + micros, drop 19 line)
stamp_written line seconds micros long first dot last second_digits seconds_are micro_digits micros_are below =
    let xs : List ℕ = take 10 (drop 1 line) in
    let ys : List ℕ = take 6 (drop 12 line) in
    let end : drop 12 line ≡ ys ++ 41 ∷ drop 19 line = run-at line 12 6 ∙ ap (λ t. ys ++ t) (byte-at line 18 41 (omega (arith, long)) last) in
    let middle : drop 1 line ≡ xs ++ 46 ∷ (ys ++ 41 ∷ drop 19 line) = run-at line 1 10 ∙ ap (λ t. xs ++ t) (byte-at line 11 46 (omega (arith, long)) dot ∙ ap (λ t. 46 ∷ t) end) in
    let whole : line ≡ 40 ∷ (xs ++ 46 ∷ (ys ++ 41 ∷ drop 19 line)) = byte-at line 0 40 (omega (arith, long)) first ∙ ap (λ t. 40 ∷ t) middle in
    let ten : length xs ≡ 10 = length-take-le 10 (drop 1 line) (after-long 1 10 line (omega (arith, long))) in
    let six : length ys ≡ 6 = length-take-le 6 (drop 12 line) (after-long 12 6 line (omega (arith, long))) in
    subst (λ t. stamp_at t ≡ Ok (seconds * 1_000_000 + micros, drop 19 line)) (sym whole)
    (stamp-of seconds micros xs ys [] (drop 19 line) (record { all = second_digits; value = sym seconds_are }) (omega (arith, ten)) (omega (arith, ten)) (record { all = micro_digits; value = sym micros_are }) six tt (inl refl) (omega (arith, below)))

-- ---- the interface

-- the name so far
pub record SameSoFar (text name : List ℕ) (at : ℕ) : Type 0 where
  pub inside : at ≤ length name
  pub same : take at text ≡ take at name
  pub visible : All (λ b. (0x21 ≤ b) × (b ≤ 0x7E)) (take at name)

visible-of : (b : ℕ) → is_visible b ≡ true → (0x21 ≤ b) × (b ≤ 0x7E)
visible-of b is = let parts = and-parts (leb 0x21 b) (leb b 0x7E) is in (leb-true 0x21 b parts.0, leb-true b 0x7E parts.1)

-- a character more
pub same_more : (text name : List ℕ) (at : ℕ) → SameSoFar text name at → at < length text → at < length name → get_or text at 0 ≡ get_or name at 0 → is_visible (get_or name at 0) ≡ true → SameSoFar text name (at + 1)
same_more text name at so_far in_text in_name is seen =
    let P : ℕ → Type 0 = λ b. (0x21 ≤ b) × (b ≤ 0x7E) in
    let b : ℕ = get_or name at 0 in
    record {
      inside = omega arith;
      same = take_more text at 0 in_text ∙ ap (λ t. t ++ get_or text at 0 ∷ []) so_far.same ∙ ap (λ c. take at name ++ c ∷ []) is ∙ sym (take_more name at 0 in_name);
      visible = subst (All P) (sym (take_more name at 0 in_name)) (All-append P (take at name) (b ∷ []) so_far.visible (All-cons P b [] (visible-of b seen) (All-nil P)));
    }

-- the same of what stands after a byte
pub same_more_after : (rest name : List ℕ) (at : ℕ) → SameSoFar (take (length rest - 1) (drop 1 rest)) name at → at + 2 ≤ length rest → at < length name →
    get_or (take (length rest - 1) (drop 1 rest)) at 0 ≡ get_or name at 0 → is_visible (get_or name at 0) ≡ true → SameSoFar (take (length rest - 1) (drop 1 rest)) name (at + 1)
same_more_after rest name at so_far long in_name is seen =
    same_more (take (length rest - 1) (drop 1 rest)) name at so_far (omega (arith, ap length (take_rest rest 1), length-drop 1 rest, long)) in_name is seen

-- the whole name, with a space before it and one behind it
pub name_written : (len : ℕ) (rest name : List ℕ) (at : ℕ) → SameSoFar (take (length rest - 1) (drop 1 rest)) name at → at ≡ length name → 0 < length name → length name ≤ 15 → length name + 2 ≤ length rest →
    get_or rest 0 0 ≡ 32 → get_or (take (length rest - 1) (drop 1 rest)) (length name) 0 ≡ 32 → interface_at len rest ≡ Ok (name, drop (length name) (take (length rest - 1) (drop 1 rest)))
name_written len rest name at so_far whole some short long first last =
    let text : List ℕ = take (length rest - 1) (drop 1 rest) in
    let n : ℕ = length name in
    let room : n + 1 ≤ length text = omega (arith, ap length (take_rest rest 1), length-drop 1 rest, long) in
    let all : take n name ≡ name = take-length name in
    let same : take n text ≡ name = ap (λ k. take k text) (sym whole) ∙ so_far.same ∙ ap (λ k. take k name) whole ∙ all in
    let seen : All (λ b. (0x21 ≤ b) × (b ≤ 0x7E)) name = subst (All (λ b. (0x21 ≤ b) × (b ≤ 0x7E))) (ap (λ k. take k name) whole ∙ all) so_far.visible in
    let space : drop n text ≡ 32 ∷ drop (suc n) text = byte-at text n 32 (omega (arith, room)) last in
    let parts : text ≡ name ++ 32 ∷ drop (suc n) text = sym (take-append-drop n text) ∙ ap (λ t. t ++ drop n text) same ∙ ap (λ t. name ++ t) space in
    let line : rest ≡ 32 ∷ (name ++ 32 ∷ drop (suc n) text) = byte-at rest 0 32 (omega (arith, long)) first ∙ ap (λ t. 32 ∷ t) (sym (take_rest rest 1) ∙ parts) in
    ap (interface_at len) line ∙ interface-of len (32 ∷ []) name (32 ∷ []) (drop (suc n) text) (record { some = some; short = short; visible = seen }) one_space one_space ∙ ap (λ t. Ok (name, t)) (sym space)

-- ---- the identifier

-- where all are counted, all are digits
digits_whole : (base : ℕ) (xs : List ℕ) → prefix_len (λ byte. is_digit byte base) xs ≡ length xs → AllDigits base xs
digits_whole base [] all = tt
digits_whole base (x ∷ xs) all =
    elim (cases_Bool (ltb (digit_value x) base)) [
      | inl is ↦ (ltb-true (digit_value x) base is, digits_whole base xs (let more : 1 + prefix_len (λ byte. is_digit byte base) xs ≡ suc (length xs) = rw is at all in omega (arith, more)))
      | inr other ↦ absurd (let none : 0 ≡ suc (length xs) = rw other at all in omega (arith, none))
    ]

-- three hex digits between a space and `#`
pub id_written : (len : ℕ) (rest : List ℕ) (number digits : ℕ) → 5 ≤ length rest → get_or rest 0 0 ≡ 32 → get_or rest 4 0 ≡ 35 → digits ≡ digits_in 16 3 (take 3 (drop 1 rest)) → digits ≡ 3 →
    number ≡ number_in 16 digits (take 3 (drop 1 rest)) → number ≤ 0x7FF → id_at len rest ≡ Ok (Some (Std number), drop 4 rest)
id_written len rest number digits long first last digits_are three number_is fits =
    let xs : List ℕ = take 3 (drop 1 rest) in
    let wide : length xs ≡ 3 = length-take-le 3 (drop 1 rest) (after-long 1 3 rest (omega (arith, long))) in
    let all : take 3 xs ≡ xs = ap (λ n. take n xs) (sym wide) ∙ take-length xs in
    let counted : prefix_len (λ byte. is_digit byte 16) xs ≡ length xs = ap (prefix_len (λ byte. is_digit byte 16)) (sym all) ∙ sym digits_are ∙ three ∙ sym wide in
    let value : digits_value 16 xs ≡ number = ap (digits_value 16) (sym all) ∙ ap (λ n. digits_value 16 (take n xs)) (sym three) ∙ sym number_is in
    let hash : drop 4 rest ≡ 35 ∷ drop 5 rest = byte-at rest 4 35 (omega (arith, long)) last in
    let line : rest ≡ 32 ∷ (xs ++ 35 ∷ drop 5 rest) = byte-at rest 0 32 (omega (arith, long)) first ∙ ap (λ t. 32 ∷ t) (run-at rest 1 3 ∙ ap (λ t. xs ++ t) hash) in
    ap (id_at len) line ∙ id-of len (32 ∷ []) xs (Std number) (drop 5 rest) one_space (wide, fits, record { all = digits_whole 16 xs counted; value = value }) ∙ ap (λ t. Ok (Some (Std number), t)) (sym hash)

-- ---- the data

-- two digits more, and their byte
data_digits-push : (digits bytes : List ℕ) (high low byte : ℕ) → AreDataDigits digits bytes → digit_value high < 16 → digit_value low < 16 → byte ≡ digit_value high * 16 + digit_value low →
    AreDataDigits (digits ++ high ∷ low ∷ []) (bytes ++ byte ∷ [])
unfolding AreDataDigits
data_digits-push [] [] high low byte are first second is = (first, second, is, tt)
data_digits-push [] (b ∷ bytes) high low byte are first second is = absurd are
data_digits-push (h ∷ []) bytes high low byte are first second is = absurd are
data_digits-push (h ∷ l ∷ digits) [] high low byte are first second is = absurd are
data_digits-push (h ∷ l ∷ digits) (b ∷ bytes) high low byte are first second is = (are.0, are.1, are.2, data_digits-push digits bytes high low byte are.3 first second is)

-- the same in their places
pub data_more : (digits bytes : List ℕ) (count high low byte : ℕ) → AreDataDigits (take (2 * count) digits) (take count bytes) → 2 * count + 1 < length digits → count < length bytes →
    high ≡ get_or digits (2 * count) 0 → low ≡ get_or digits (2 * count + 1) 0 → digit_value high < 16 → digit_value low < 16 → byte ≡ digit_value high * 16 + digit_value low →
    AreDataDigits (take (2 * (count + 1)) digits) (take (count + 1) (set bytes count byte))
data_more digits bytes count high low byte are inside room high_is low_is first second is =
    let one : take (2 * count + 1) digits ≡ take (2 * count) digits ++ high ∷ [] = take_more digits (2 * count) 0 (omega arith) ∙ ap (λ b. take (2 * count) digits ++ b ∷ []) (sym high_is) in
    let two : take ((2 * count + 1) + 1) digits ≡ take (2 * count + 1) digits ++ low ∷ [] = take_more digits (2 * count + 1) 0 inside ∙ ap (λ b. take (2 * count + 1) digits ++ b ∷ []) (sym low_is) in
    let places : 2 * (count + 1) ≡ (2 * count + 1) + 1 = omega arith in
    let all : take (2 * (count + 1)) digits ≡ take (2 * count) digits ++ high ∷ low ∷ [] =
    ap (λ n. take n digits) places ∙ two ∙ ap (λ t. t ++ low ∷ []) one ∙ append_assoc (take (2 * count) digits) (high ∷ []) (low ∷ []) in
    let more : take (count + 1) (set bytes count byte) ≡ take count bytes ++ byte ∷ [] = take_more_set bytes count byte room in
    rw (all, more) (data_digits-push (take (2 * count) digits) (take count bytes) high low byte are first second is)

-- the same of what stands after a byte
pub data_more_after : (rest bytes : List ℕ) (count byte : ℕ) → AreDataDigits (take (2 * count) (take (length rest - 1) (drop 1 rest))) (take count bytes) → length rest ≡ 17 → count < 8 → length bytes ≡ 8 →
    digit_value (get_or (take (length rest - 1) (drop 1 rest)) (2 * count) 0) < 16 → digit_value (get_or (take (length rest - 1) (drop 1 rest)) (2 * count + 1) 0) < 16 →
    byte ≡ digit_value (get_or (take (length rest - 1) (drop 1 rest)) (2 * count) 0) * 16 + digit_value (get_or (take (length rest - 1) (drop 1 rest)) (2 * count + 1) 0) →
    AreDataDigits (take (2 * (count + 1)) (take (length rest - 1) (drop 1 rest))) (take (count + 1) (set bytes count byte))
data_more_after rest bytes count byte are long room size first second is =
    data_more (take (length rest - 1) (drop 1 rest)) bytes count _ _ byte are (omega (arith, ap length (take_rest rest 1), length-drop 1 rest, long, room)) (omega (arith, room, size)) refl refl first second is

-- sixteen digits and eight bytes are all
pub data_whole : (rest bytes : List ℕ) (count : ℕ) → AreDataDigits (take (2 * count) (take (length rest - 1) (drop 1 rest))) (take count bytes) → count ≡ 8 → length rest ≡ 17 → length bytes ≡ 8 → AreDataDigits (drop 1 rest) bytes
data_whole rest bytes count are full long size =
    let digits : List ℕ = take (length rest - 1) (drop 1 rest) in
    let all : take (2 * count) digits ≡ drop 1 rest = let n : 2 * count ≡ length digits = omega (arith, full, ap length (take_rest rest 1), length-drop 1 rest, long) in ap (λ n. take n digits) n ∙ take-length digits ∙ take_rest rest 1 in
    let bytes_are : take count bytes ≡ bytes = ap (λ n. take n bytes) (full ∙ sym size) ∙ take-length bytes in
    subst (λ t. AreDataDigits t bytes) all (subst (AreDataDigits (take (2 * count) digits)) bytes_are are)

pub no_digits : AreDataDigits [] []
unfolding AreDataDigits
no_digits = tt

-- the data of a classic frame ends the line
pub content_written : (len stamp : ℕ) (id : CanId) (rest bytes : List ℕ) → begins 35 rest ≡ true → AreDataDigits (drop 1 rest) bytes → length bytes ≤ 8 →
    content_at len stamp (Some id) rest ≡ Ok (FrameLine (record { 0 = stamp }) (record { id = id; fd = false; brs = false; bytes = bytes }))
content_written len stamp id [] bytes hash are few = cc
content_written len stamp id (b ∷ digits) bytes hash are few =
    let is : b ≡ 35 = eqb-true b 35 hash in
    let whole : b ∷ digits ≡ codes "#" ++ (digits ++ ([] ++ [])) = ap (λ c. c ∷ digits) is ∙ ap (λ t. 35 ∷ t) (sym (append-nil digits)) in
    let fits : length_fits false (length bytes) ≡ true = le-leb (length bytes) 8 few in
    ap (content_at len stamp (Some id)) whole ∙ content-of len stamp id false false (codes "#") digits bytes [] [] refl are (inl refl) (inl (All-nil (λ c. c ≡ 32))) fits (λ _. refl)
