-- How far a run of digits, of spaces or of other bytes goes before what ends it.
use Rattle.std.proofs.Common.{◌≡◌, ℕ, zero, suc, ◌-◌, ◌≤◌, Bool, true, false, List, [], ◌∷◌, ◌++◌, length, take, refl, ap, ◌∙◌, subst, append-nil, arith}
use Rattle.std.specs.Char.{digit_value, is_digit}
use Rattle.std.specs.List.{list_all, prefix_len}
use Rattle.std.specs.Str.Parse.{AllDigits}
use Rattle.std.proofs.lemmas.Bool.{eq-eqb, lt-ltb}
use Rattle.std.proofs.lemmas.List.Elements.{All-tail}
use Rattle.std.proofs.lemmas.List.{drop_at, take_at}
use Rattle.candump_line.specs.Reading.{after_spaces, begins, digits_in, is_space}
use Rattle.candump_line.specs.Spelling.{AreSomeSpaces, AreSpaces}
use Rattle.candump_line.proofs.Counting.{and-parts, digits_end}

-- ---- how far a run goes

-- bytes that pass, before what doesn't, are the run
pub run-ends : (p : ℕ → Bool) (xs rest : List ℕ) → list_all p xs ≡ true → prefix_len p rest ≡ 0 → prefix_len p (xs ++ rest) ≡ length xs
run-ends p [] rest all stop = stop
run-ends p (x ∷ xs) rest all stop =
    let parts = and-parts (p x) (list_all p xs) all in
    rw parts.0 (let later = run-ends p xs rest parts.1 stop in omega (arith, later))

pub take-front : (most : ℕ) (xs rest : List ℕ) → length xs ≤ most → take most (xs ++ rest) ≡ xs ++ take (most - length xs) rest
take-front most [] rest few = let same : most ≡ most - 0 = omega arith in ap (λ n. take n rest) same
take-front zero (x ∷ xs) rest few = absurd (omega arith)
take-front (suc most) (x ∷ xs) rest few =
    let same : most - length xs ≡ suc most - suc (length xs) = omega arith in
    ap (λ t. x ∷ t) (take-front most xs rest (omega arith) ∙ ap (λ n. xs ++ take n rest) same)

pub stop-take : (p : ℕ → Bool) (k c : ℕ) (cs : List ℕ) → p c ≡ false → prefix_len p (take k (c ∷ cs)) ≡ 0
stop-take p zero c cs is = refl
stop-take p (suc k) c cs is = rw is refl

pub digits_pass : (base : ℕ) (xs : List ℕ) → AllDigits base xs → list_all (λ byte. is_digit byte base) xs ≡ true
digits_pass base [] all = refl
digits_pass base (x ∷ xs) all = rw (lt-ltb (digit_value x) base all.0, digits_pass base xs all.1) refl

-- digits before a byte that is none are the run that is counted
pub digits-run : (base most : ℕ) (xs : List ℕ) (c : ℕ) (cs : List ℕ) → AllDigits base xs → length xs ≤ most → is_digit c base ≡ false → digits_in base most (xs ++ c ∷ cs) ≡ length xs
digits-run base most xs c cs all few other =
    ap (prefix_len (λ byte. is_digit byte base)) (take-front most xs (c ∷ cs) few)
    ∙ run-ends (λ byte. is_digit byte base) xs (take (most - length xs) (c ∷ cs)) (digits_pass base xs all) (stop-take (λ byte. is_digit byte base) (most - length xs) c cs other)

-- so many digits as are looked at
pub digits-all : (base most : ℕ) (xs rest : List ℕ) → AllDigits base xs → length xs ≡ most → digits_in base most (xs ++ rest) ≡ most
digits-all base most xs rest all is = ap (prefix_len (λ byte. is_digit byte base)) (take_at xs rest most is) ∙ digits_end base xs all ∙ is

-- ---- spaces

spaces-pass : (xs : List ℕ) → AreSpaces xs → list_all is_space xs ≡ true
spaces-pass [] all = refl
spaces-pass (x ∷ xs) all = rw (eq-eqb x 32 (all 0 0 (omega arith)), spaces-pass xs (All-tail (λ b. b ≡ 32) x xs all)) refl

-- spaces before what is none are passed over
pub spaces-gone : (gap rest : List ℕ) → AreSpaces gap → prefix_len is_space rest ≡ 0 → after_spaces (gap ++ rest) ≡ rest
spaces-gone gap rest spaces stop =
    let n : prefix_len is_space (gap ++ rest) ≡ length gap = run-ends is_space gap rest (spaces-pass gap spaces) stop in
    rw n (drop_at gap rest (length gap) refl)

-- and at the end
pub spaces-over : (gap : List ℕ) → AreSpaces gap → after_spaces gap ≡ []
spaces-over gap spaces = subst (λ t. after_spaces t ≡ []) (append-nil gap) (spaces-gone gap [] spaces refl)

pub space-first : (gap rest : List ℕ) → AreSomeSpaces gap → begins 32 (gap ++ rest) ≡ true
space-first [] rest some = absurd (omega (arith, some.0))
space-first (x ∷ gap) rest some = eq-eqb x 32 (some.1 0 0 (omega arith))
