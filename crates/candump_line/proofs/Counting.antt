-- The digits that are counted at the front of a rest, and the pairs of hex digits.
use Rattle.std.proofs.Common.{◌≡◌, ℕ, zero, suc, ◌+◌, ◌-◌, ◌*◌, ◌^◌, ◌<◌, ◌≤◌, ◌%◌, Bool, ◌&&◌, eqb, ltb, true, false, Ok, inl, inr, append-nil, List, [], ◌∷◌, ◌++◌, length, take, drop, set, get_or, refl, sym, ap, ◌∙◌, arith, append_assoc, length-append}
use Rattle.std.specs.Char.{digit_value, is_digit}
use Rattle.std.specs.List.{prefix_len}
use Rattle.std.specs.Str.Parse.{AllDigits, digits_value}
use Rattle.std.proofs.lemmas.Bool.{cases_eq, eqb-true, le-ltb, lt-ltb, ne_eqb}
use Rattle.std.proofs.lemmas.Int.Digits.{digits_value-lt}
use Rattle.std.proofs.Math.Seq.{take-length}
use Rattle.std.proofs.lemmas.List.{take_more_set, length-take-le, drop-drop}
use Rattle.candump_line.specs.Reading.{data_at, hex_bytes, is_hex}

pub and-parts : (a b : Bool) → (a && b) ≡ true → (a ≡ true) × (b ≡ true)
and-parts true b is = (refl, is)
and-parts false b is = cc

-- ---- the table of digits

-- the table agrees with the definition at each byte below n
unfoldable pub agrees_below : (defined : ℕ → ℕ) → List ℕ → ℕ → Bool
agrees_below defined table zero = true
agrees_below defined table (suc n) = eqb (get_or table n 0) (defined n) && agrees_below defined table n

agrees_at : (defined : ℕ → ℕ) (table : List ℕ) (n : ℕ) → agrees_below defined table n ≡ true → (b : ℕ) → b < n → get_or table b 0 ≡ defined b
unfolding agrees_below
agrees_at defined table zero all b inside = absurd (omega arith)
agrees_at defined table (suc n) all b inside =
    let parts = and-parts (eqb (get_or table n 0) (defined n)) (agrees_below defined table n) all in
    elim (cases_eq b n) [ inl same ↦ rw same (eqb-true (get_or table n 0) (defined n) parts.0) | inr other ↦ agrees_at defined table n parts.1 b (omega arith) ]

pub by_table : (defined : ℕ → ℕ) (table : List ℕ) (b : ℕ) → b < 256 → agrees_below defined table 256 ≡ true → get_or table b 0 ≡ defined b
by_table defined table b inside all = agrees_at defined table 256 all b inside

-- ---- digits that are counted

-- the count ends at the first byte that is no digit
pub digits_stop : (base : ℕ) (xs : List ℕ) (i : ℕ) → AllDigits base (take i xs) → i < length xs → base ≤ digit_value (get_or xs i 0) → prefix_len (λ byte. is_digit byte base) xs ≡ i
digits_stop base [] i all inside other = absurd (omega arith)
digits_stop base (x ∷ xs) zero all inside other = rw (le-ltb (digit_value x) base other) refl
digits_stop base (x ∷ xs) (suc i) all inside other =
    rw (lt-ltb (digit_value x) base all.0) (let rest = digits_stop base xs i all.1 (omega arith) other in omega (arith, rest))

-- or at the end
pub digits_end : (base : ℕ) (xs : List ℕ) → AllDigits base xs → prefix_len (λ byte. is_digit byte base) xs ≡ length xs
digits_end base [] all = refl
digits_end base (x ∷ xs) all =
    rw (lt-ltb (digit_value x) base all.0) (let rest = digits_end base xs all.1 in omega (arith, rest))

-- what counting gives
pub record Counts (base : ℕ) (front : List ℕ) (value count : ℕ) : Type 0 where
  pub digits : count ≡ prefix_len (λ byte. is_digit byte base) front
  pub below : value < base ^ count

-- the digits so far
pub record SoFar (base : ℕ) (front : List ℕ) (i value count : ℕ) : Type 0 where
  pub all : AllDigits base (take i front)
  pub value_is : value ≡ digits_value base (take i front)
  pub count_is : count ≡ i

module _ (base : ℕ) (front : List ℕ) (i value count : ℕ) (so_far : SoFar base front i value count) where
  counted : i ≤ length front → prefix_len (λ byte. is_digit byte base) front ≡ i → Counts base front value count
  counted inside ends = record {
    digits = so_far.count_is ∙ sym ends;
    below = rw (so_far.value_is, so_far.count_is) (rw (length-take-le i front inside) at (digits_value-lt base (take i front) so_far.all));
  }

  pub counted_to_stop : i < length front → base ≤ digit_value (get_or front i 0) → Counts base front value count
  counted_to_stop inside other = counted (omega arith) (digits_stop base front i so_far.all inside other)

  pub counted_to_end : i ≡ length front → Counts base front value count
  counted_to_end all =
      let whole : AllDigits base front = rw (all, take-length front) at so_far.all in
      counted (omega arith) (digits_end base front whole ∙ sym all)

-- ---- pairs of hex digits

-- these bytes were taken of the text, and this rest is left
pub record PairsTaken (text bytes rest : List ℕ) : Type 0 where
  pub digits : prefix_len is_hex text ≡ 2 * length bytes + prefix_len is_hex rest
  pub bytes_are : hex_bytes (take (prefix_len is_hex text) text) ≡ bytes ++ hex_bytes (take (prefix_len is_hex rest) rest)
  pub rest_is : rest ≡ drop (2 * length bytes) text
  pub most : length bytes ≤ 64

-- a pair more
pub pair_taken : (text bytes rest later : List ℕ) (high low byte : ℕ) → PairsTaken text bytes rest → rest ≡ high ∷ low ∷ later →
    digit_value high < 16 → digit_value low < 16 → byte ≡ digit_value high * 16 + digit_value low → length bytes < 64 → PairsTaken text (bytes ++ byte ∷ []) later
unfolding hex_bytes
pair_taken text bytes rest later high low byte so_far is first second byte_is room =
    let long : length (bytes ++ byte ∷ []) ≡ length bytes + 1 = length-append bytes (byte ∷ []) in
    let two : prefix_len is_hex (high ∷ low ∷ later) ≡ 2 + prefix_len is_hex later =
    rw (lt-ltb (digit_value high) 16 first, lt-ltb (digit_value low) 16 second) (omega arith) in
    let now : prefix_len is_hex rest ≡ suc (suc (prefix_len is_hex later)) = ap (prefix_len is_hex) is ∙ two ∙ omega arith in
    let spelled : hex_bytes (take (prefix_len is_hex rest) rest) ≡ byte ∷ hex_bytes (take (prefix_len is_hex later) later) =
    ap (λ n. hex_bytes (take n rest)) now ∙ ap (λ t. hex_bytes (take (suc (suc (prefix_len is_hex later))) t)) is ∙ ap (λ b. b ∷ hex_bytes (take (prefix_len is_hex later) later)) (sym byte_is) in
    record {
      digits = omega (arith, so_far.digits, now, long);
      bytes_are = so_far.bytes_are ∙ ap (λ t. bytes ++ t) spelled ∙ sym (append_assoc bytes (byte ∷ []) (hex_bytes (take (prefix_len is_hex later) later)));
      rest_is =
          let places : 2 * length bytes + 2 ≡ 2 * length (bytes ++ byte ∷ []) = omega (arith, long) in
          ap (drop 2) (sym is ∙ so_far.rest_is) ∙ drop-drop 2 (2 * length bytes) text ∙ ap (λ n. drop n text) places;
      most = omega (arith, long);
    }

-- the same of a rest that has two bytes or more
pub pair_taken_at : (text bytes rest : List ℕ) (high low byte : ℕ) → PairsTaken text bytes rest → 2 ≤ length rest → high ≡ get_or rest 0 0 → low ≡ get_or rest 1 0 →
    digit_value high < 16 → digit_value low < 16 → byte ≡ digit_value high * 16 + digit_value low → length bytes < 64 →
    PairsTaken text (bytes ++ byte ∷ []) (take (length rest - 2) (drop 2 rest))
pair_taken_at text bytes [] high low byte so_far two high_is low_is first second byte_is room = absurd (omega arith)
pair_taken_at text bytes (a ∷ []) high low byte so_far two high_is low_is first second byte_is room = absurd (omega arith)
pair_taken_at text bytes (a ∷ b ∷ later) high low byte so_far two high_is low_is first second byte_is room =
    let all : take (length (a ∷ b ∷ later) - 2) later ≡ later = let long : length (a ∷ b ∷ later) - 2 ≡ length later = omega arith in ap (λ n. take n later) long ∙ take-length later in
    rw all (pair_taken text bytes (a ∷ b ∷ later) later high low byte so_far (rw (high_is, low_is) refl) first second byte_is room)

-- these many bytes of the buffer were taken of the text, and this rest is left
pub record PairsHeld (text buffer rest : List ℕ) (count : ℕ) : Type 0 where
  pub taken : PairsTaken text (take count buffer) rest
  pub count_is : length (take count buffer) ≡ count

-- a pair more, put behind them in the buffer
pub pair_held : (text buffer rest : List ℕ) (size count high low byte : ℕ) → PairsHeld text buffer rest count → 2 ≤ length rest → high ≡ get_or rest 0 0 → low ≡ get_or rest 1 0 →
    digit_value high < 16 → digit_value low < 16 → byte ≡ digit_value high * 16 + digit_value low → length buffer ≡ size → size ≤ 64 → count < size →
    PairsHeld text (set buffer count byte) (take (length rest - 2) (drop 2 rest)) (count + 1)
pair_held text buffer rest size count high low byte held two high_is low_is first second byte_is size_is few room =
    let more : take (count + 1) (set buffer count byte) ≡ take count buffer ++ byte ∷ [] = take_more_set buffer count byte (omega arith) in
    record {
      taken = rw more (pair_taken_at text (take count buffer) rest high low byte held.taken two high_is low_is first second byte_is (omega (arith, held.count_is)));
      count_is = ap length more ∙ length-append (take count buffer) (byte ∷ []) ∙ omega (arith, held.count_is);
    }

hex_bytes-none : (rest : List ℕ) → hex_bytes (take 0 rest) ≡ []
unfolding hex_bytes
hex_bytes-none rest = refl

-- where no digit is left, the bytes that were taken are all the data
pub data_read : (len : ℕ) (rest bytes left : List ℕ) → prefix_len is_hex rest ≡ 2 * length bytes + prefix_len is_hex left →
    hex_bytes (take (prefix_len is_hex rest) rest) ≡ bytes ++ hex_bytes (take (prefix_len is_hex left) left) → left ≡ drop (2 * length bytes) rest → length bytes ≤ 64 →
    prefix_len is_hex left ≡ 0 → data_at len rest ≡ Ok (bytes, left)
unfolding data_at
data_read len rest bytes left digits bytes_are left_is most none =
    let all : prefix_len is_hex rest ≡ 2 * length bytes = omega (arith, digits, none) in
    let spelled : hex_bytes (take (prefix_len is_hex rest) rest) ≡ bytes = bytes_are ∙ ap (λ n. bytes ++ hex_bytes (take n left)) none ∙ ap (λ t. bytes ++ t) (hex_bytes-none left) ∙ append-nil bytes in
    let even : eqb (prefix_len is_hex rest % 2) 1 ≡ false = ne_eqb (prefix_len is_hex rest % 2) 1 (λ odd. omega (arith, all, odd)) in
    let short : ltb 128 (prefix_len is_hex rest) ≡ false = le-ltb 128 (prefix_len is_hex rest) (omega (arith, all, most)) in
    rw (even, short) (rw spelled (ap (λ n. Ok (bytes, drop n rest)) all ∙ ap (λ t. Ok (bytes, t)) (sym left_is)))
