-- A number that is read is the number that was written, and a number that was written is read again.
use Rattle.std.proofs.Common.{◌≡◌, ◌≢◌, ℕ, zero, suc, ◌+◌, ◌-◌, ◌*◌, ◌/◌, ◌%◌, ◌^◌, ◌<◌, ◌≤◌, Bool, true, false, cond, eqb, ltb, List, [], ◌∷◌, ◌++◌, length, take, drop, get_or, Option, Some, None, inl, inr, decimal, refl, sym, ap, ◌∙◌, subst, append_assoc, arith, bytes_eq, take-append-drop}
use Rattle.std.proofs.Math.Seq.{take-length}
use Rattle.std.proofs.lemmas.Bool.{cases_Bool, le-leb, lt-ltb, ltb-true, ne_eqb, le-ltb, eqb-true, eq-eqb}
use Rattle.std.proofs.lemmas.Bool.Decides.{nat_tests}
use Rattle.std.proofs.lemmas.Fmt.{decimal_digit, decimal_step, decimal_by_steps}
use Rattle.std.proofs.lemmas.Option.{cond_some, same_Some}
use Rattle.std.proofs.lemmas.Slice.Eq.{bytes_eq-Decides}
use Rattle.session_report.specs.Reading.{◌>>=◌, after_word, digit_value, digits_at, is_decimal, number_at, number_then, within}

-- ---- what is looked for

-- the value of a step that found one
pub bind_some : {A B : Type 0} (o : Option A) (f : A → Option B) (y : B) → (o >>= f) ≡ Some y → (x : A) × (o ≡ Some x) × (f x ≡ Some y)
bind_some (Some x) f y e = (x, refl, e)
bind_some None f y e = absurd cc

-- a test that found nothing
pub cond_none : {A : Type 0} (b : Bool) (x : A) → cond b (Some x) None ≡ None → b ≡ false
cond_none true x e = absurd cc
cond_none false x e = refl

-- a test behind which something was found
pub guarded_some : {A : Type 0} (b : Bool) (o : Option A) (x : A) → cond b o None ≡ Some x → (b ≡ true) × (o ≡ Some x)
guarded_some true o x e = (refl, e)
guarded_some false o x e = absurd cc

-- ---- words

pub word_takes : (word text rest : List ℕ) → after_word word text ≡ Some rest → text ≡ word ++ rest
word_takes word text rest e =
    let found = cond_some (bytes_eq (take (length word) text) word) (drop (length word) text) rest e in
    let front : take (length word) text ≡ word = (bytes_eq-Decides (take (length word) text) word).0 found.0 in
    sym (take-append-drop (length word) text) ∙ rw (front, found.1) refl

-- ---- digits

-- a digit more is a number that is no smaller
pub digits_grow : (front : ℕ) (text : List ℕ) → front ≤ (digits_at front text).0
unfolding digits_at
digits_grow front [] = omega arith
digits_grow front (byte ∷ text) =
    elim (cases_Bool (is_decimal byte)) [
      | inl is ↦ rw is (let more = digits_grow (front * 10 + (byte - 48)) text in omega (arith, more))
      | inr is ↦ rw is (omega arith)
    ]

-- no digit more
pub digits_stop : (front : ℕ) (rest : List ℕ) → 1 ≤ length rest → digit_value (get_or rest 0 0) ≡ None → digits_at front rest ≡ (front, rest)
unfolding digits_at
digits_stop front [] some is = absurd (omega arith)
digits_stop front (byte ∷ text) some is = rw (cond_none (is_decimal byte) (byte - 48) is) refl

pub digits_end : (front : ℕ) (rest : List ℕ) → length rest < 1 → digits_at front rest ≡ (front, rest)
unfolding digits_at
digits_end front [] none = refl
digits_end front (byte ∷ text) none = absurd (omega arith)

-- a digit more
pub digits_step : (front : ℕ) (rest : List ℕ) (digit more : ℕ) → 1 ≤ length rest → digit_value (get_or rest 0 0) ≡ Some digit → more ≡ front * 10 + digit →
    digits_at front rest ≡ digits_at more (take (length rest - 1) (drop 1 rest))
unfolding digits_at
digits_step front [] digit more some is sum = absurd (omega arith)
digits_step front (byte ∷ text) digit more some is sum =
    let found = cond_some (is_decimal byte) (byte - 48) digit is in
    let all : take (length (byte ∷ text) - 1) text ≡ text = let long : length (byte ∷ text) - 1 ≡ length text = omega arith in ap (λ n. take n text) long ∙ take-length text in
    let same : front * 10 + (byte - 48) ≡ more = rw (found.1, sum) refl in
    rw (found.0, all) (ap (λ n. digits_at n text) same)

-- a digit more is too much
pub digits_pass : (front most : ℕ) (rest : List ℕ) (digit : ℕ) → 1 ≤ length rest → digit_value (get_or rest 0 0) ≡ Some digit → most < front * 10 + digit →
    within (most + 1) (digits_at front rest) ≡ None
digits_pass front most rest digit some is great =
    let later : List ℕ = take (length rest - 1) (drop 1 rest) in
    let grown = digits_grow (front * 10 + digit) later in
    ap (within (most + 1)) (digits_step front rest digit (front * 10 + digit) some is refl)
    ∙ rw (le-ltb (digits_at (front * 10 + digit) later).0 (most + 1) (omega (arith, grown, great))) refl

-- ---- numbers that are read

-- digits that are read after a number are that number's
digits_are : (front : ℕ) (text : List ℕ) (x : ℕ × List ℕ) → 0 < front → x.0 < 2 ^ 64 → digits_at front text ≡ x → decimal front ++ text ≡ decimal x.0 ++ x.1
unfolding digits_at
digits_are front [] x some small e = ap (λ (y : ℕ × List ℕ). decimal y.0 ++ y.1) e
digits_are front (byte ∷ text) x some small e =
    elim (cases_Bool (is_decimal byte)) [
      | inl is_it ↦
          let next : ℕ = front * 10 + (byte - 48) in
          let later : digits_at next text ≡ x = rw is_it at e in
          let low : 48 ≤ byte = grind (arith, nat_tests, is_it) in
          let high : byte ≤ 57 = grind (arith, nat_tests, is_it) in
          let grown : next ≤ (digits_at next text).0 = digits_grow next text in
          let top : (digits_at next text).0 ≡ x.0 = ap (λ (y : ℕ × List ℕ). y.0) later in
          let fits : next < 2 ^ 64 = omega (arith, grown, top, small) in
          let before : next / 10 ≡ front = omega (arith, low, high) in
          let last : 48 + next % 10 ≡ byte = omega (arith, low, high) in
          let step : decimal next ≡ decimal front ++ byte ∷ [] = decimal_step next (omega (arith, some)) fits ∙ rw (before, last) refl in
          sym (append_assoc (decimal front) (byte ∷ []) text) ∙ ap (λ d. d ++ text) (sym step) ∙ digits_are next text x (omega (arith, some)) small later
      | inr is_not ↦ ap (λ (y : ℕ × List ℕ). decimal y.0 ++ y.1) (rw is_not at e)
    ]

-- what a reader of a number took from the front
pub number_takes : (limit : ℕ) (text : List ℕ) (x : ℕ × List ℕ) → limit ≤ 2 ^ 64 → 0 < limit → number_at limit text ≡ Some x → (x.0 < limit) × (text ≡ decimal x.0 ++ x.1)
unfolding number_at
number_takes limit [] x small some e = absurd cc
number_takes limit (byte ∷ text) x small some e =
    elim (cases_Bool (eqb byte 48)) [
      | inl is_it ↦
          let zero_is : byte ≡ 48 = eqb-true byte 48 is_it in
          let read : Some (0, text) ≡ Some x = rw is_it at e in
          let same : (0, text) ≡ x = same_Some (0, text) x read in
          subst (λ (y : ℕ × List ℕ). (y.0 < limit) × (byte ∷ text ≡ decimal y.0 ++ y.1)) same (some, rw (zero_is, decimal_digit 0 (omega arith)) refl)
      | inr is_not ↦
          let read : cond (is_decimal byte) (within limit (digits_at (byte - 48) text)) None ≡ Some x = rw is_not at e in
          let digit = guarded_some (is_decimal byte) (within limit (digits_at (byte - 48) text)) x read in
          let low : 48 ≤ byte = grind (arith, nat_tests, digit.0) in
          let high : byte ≤ 57 = grind (arith, nat_tests, digit.0) in
          let other : byte ≢ 48 = λ is. grind (arith, nat_tests, is_not, is) in
          let found = cond_some (ltb (digits_at (byte - 48) text).0 limit) (digits_at (byte - 48) text) x digit.1 in
          let below : x.0 < limit = subst (λ (y : ℕ × List ℕ). y.0 < limit) found.1 (ltb-true (digits_at (byte - 48) text).0 limit found.0) in
          let first : decimal (byte - 48) ≡ byte ∷ [] = decimal_digit (byte - 48) (omega (arith, high)) ∙ (let b : 48 + (byte - 48) ≡ byte = omega (arith, low) in rw b refl) in
          (below, ap (λ d. d ++ text) (sym first) ∙ digits_are (byte - 48) text x (omega (arith, low, other)) (omega (arith, below, small)) found.1)
    ]

-- ---- numbers that are read again

-- a number's digits, read from the front, are the number's
abbrev ReadsOn : ℕ → List ℕ → Type 0
ReadsOn n digits = 0 < n → (byte : ℕ) × (more : List ℕ) × (digits ≡ byte ∷ more) × (49 ≤ byte) × (byte ≤ 57)
    × ((rest : List ℕ) → digits_at (byte - 48) (more ++ rest) ≡ digits_at n rest)

reads_one : (n : ℕ) → n < 10 → ReadsOn n ((48 + n) ∷ [])
reads_one n small some = (48 + n, [], refl, omega (arith, some), omega (arith, small), λ rest. (let same : 48 + n - 48 ≡ n = omega arith in rw same refl))

decimal_glyph : (digit : ℕ) → digit < 10 → is_decimal (48 + digit) ≡ true
decimal_glyph digit small = rw (le-leb 48 (48 + digit) (omega arith), le-leb (48 + digit) 57 (omega (arith, small))) refl

reads_more : (n : ℕ) (digits : List ℕ) → 10 ≤ n → ReadsOn (n / 10) digits → ReadsOn n (digits ++ ((48 + n % 10) ∷ []))
unfolding digits_at
reads_more n digits large before some =
    let b = before (omega (arith, large)) in (
      b.0,
      b.1 ++ (48 + n % 10) ∷ [],
      ap (λ d. d ++ (48 + n % 10) ∷ []) b.2,
      b.3,
      b.4,
      λ rest.
          ap (digits_at (b.0 - 48)) (append_assoc b.1 ((48 + n % 10) ∷ []) rest)
          ∙ b.5 ((48 + n % 10) ∷ rest)
          ∙ (let whole : n / 10 * 10 + (48 + n % 10 - 48) ≡ n = omega arith in rw (decimal_glyph (n % 10) (omega arith), whole) refl),
    )

pub number_again : (limit n byte : ℕ) (rest : List ℕ) → limit ≤ 2 ^ 64 → n < limit → is_decimal byte ≡ false → number_at limit (decimal n ++ byte ∷ rest) ≡ Some (n, byte ∷ rest)
unfolding number_at digits_at
number_again limit zero byte rest small fits other = rw (decimal_digit 0 (omega arith)) refl
number_again limit (suc m) byte rest small fits other =
    let b = decimal_by_steps ReadsOn reads_one reads_more (suc m) (omega (arith, fits, small)) (omega arith) in
    let none : eqb b.0 48 ≡ false = ne_eqb b.0 48 (λ is. omega (arith, is, b.3)) in
    let digit : is_decimal b.0 ≡ true = rw (le-leb 48 b.0 (omega (arith, b.3)), le-leb b.0 57 b.4) refl in
    let stop : digits_at (suc m) (byte ∷ rest) ≡ (suc m, byte ∷ rest) = rw other refl in
    rw b.2
    (rw (none, digit)
    (ap (within limit) (b.5 (byte ∷ rest) ∙ stop) ∙ rw (lt-ltb (suc m) limit fits) refl))

-- a number begins with a digit
pub first_digit : (n : ℕ) → n < 2 ^ 64 → (byte : ℕ) × (more : List ℕ) × (decimal n ≡ byte ∷ more) × (48 ≤ byte)
first_digit zero small = (48, [], decimal_digit 0 (omega arith), omega arith)
first_digit (suc m) small =
    let b = decimal_by_steps ReadsOn reads_one reads_more (suc m) small (omega arith) in
    (b.0, b.1, b.2, omega (arith, b.3))

-- ---- numbers and the byte after them

pub number_then_takes : (word : List ℕ) (limit : ℕ) (text : List ℕ) (x : ℕ × List ℕ) → limit ≤ 2 ^ 64 → 0 < limit → number_then word limit text ≡ Some x →
    (x.0 < limit) × (text ≡ decimal x.0 ++ (word ++ x.1))
unfolding number_then
number_then_takes word limit text x small some e =
    let a = bind_some (number_at limit text) (λ number. after_word word number.1 >>= λ rest. Some (number.0, rest)) x e in
    let b = bind_some (after_word word a.0.1) (λ rest. Some (a.0.0, rest)) x a.2 in
    let n = number_takes limit text a.0 small some a.1 in
    let w = word_takes word a.0.1 b.0 b.1 in
    subst (λ (y : ℕ × List ℕ). (y.0 < limit) × (text ≡ decimal y.0 ++ (word ++ y.1))) (same_Some (a.0.0, b.0) x b.2) (n.0, n.1 ∙ ap (λ t. decimal a.0.0 ++ t) w)

pub number_then_again : (limit n byte : ℕ) (rest : List ℕ) → limit ≤ 2 ^ 64 → n < limit → is_decimal byte ≡ false →
    number_then (byte ∷ []) limit (decimal n ++ byte ∷ rest) ≡ Some (n, rest)
unfolding number_then
number_then_again limit n byte rest small fits other = rw (number_again limit n byte rest small fits other) (rw (eq-eqb byte byte refl) refl)
