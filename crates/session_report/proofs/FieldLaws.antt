-- A field that is read is the field that was written, and a field that was written is read again.
use Rattle.std.proofs.Common.{◌≡◌, ℕ, zero, suc, ◌+◌, ◌*◌, ◌/◌, ◌%◌, ◌^◌, ◌<◌, ◌≤◌, Bool, true, false, eqb, List, [], ◌∷◌, ◌++◌, get_or, Option, Some, None, inl, inr, decimal, codes, refl, sym, ap, ◌∙◌, subst, append_assoc, flat_map, arith}
use Rattle.std.specs.Int.{w32, from_be_bytes, to_be_bytes}
use Rattle.std.proofs.lemmas.Bool.{cases_Bool, eqb-true, ne_eqb}
use Rattle.std.proofs.lemmas.Bool.Decides.{nat_tests}
use Rattle.std.proofs.lemmas.Nat.{be_bytes_4, from_be_bytes-to_be_bytes_4}
use Rattle.std.proofs.lemmas.Option.{same_Some}
use Rattle.hub_core.specs.declared.record.OpenedAt.{OpenedAt}
use Rattle.session_report.specs.Lines.{byte_word, deed_word, group_fields, line_before, opened_word, set_word, upper_digit}
use Rattle.session_report.specs.Orders.{GroupFits, OpenedFits}
use Rattle.session_report.specs.Reading.{◌>>=◌, ◌<|>◌, after_word, byte_at, deed_at, field_at, group_at, number_then, opened_at, opened_place_at, set_at, upper_value, word_at}
use Rattle.session_report.proofs.Numbers.{bind_some, first_digit, number_then_again, number_then_takes, word_takes}

-- ---- alternatives

-- what holds of what either of two finds
pub either : {A : Type 0} (a b : Option A) (x : A) (P : Type 0) → (a ≡ Some x → P) → (b ≡ Some x → P) → (a <|> b) ≡ Some x → P
either (Some y) b x P first second e = first e
either None b x P first second e = second e

-- what holds of the value, where its word was found
pub word_found : {A : Type 0} (word : List ℕ) (value : A) (text : List ℕ) (x : A × List ℕ) (P : A × List ℕ → Type 0) →
    ((rest : List ℕ) → text ≡ word ++ rest → P (value, rest)) → word_at word value text ≡ Some x → P x
word_found word value text x P holds e =
    let a = bind_some (after_word word text) (λ rest. Some (value, rest)) x e in
    subst P (same_Some (value, a.0) x a.2) (holds a.0 (word_takes word text a.0 a.1))

-- ---- numbers of each size

pub byte_takes : (word text : List ℕ) (x : ℕ × List ℕ) → number_then word (2 ^ 8) text ≡ Some x → (x.0 < 2 ^ 8) × (text ≡ decimal x.0 ++ (word ++ x.1))
byte_takes word text x e = number_then_takes word (2 ^ 8) text x (omega arith) (omega arith) e

pub word32_takes : (word text : List ℕ) (x : ℕ × List ℕ) → number_then word (2 ^ 32) text ≡ Some x → (x.0 < 2 ^ 32) × (text ≡ decimal x.0 ++ (word ++ x.1))
word32_takes word text x e = number_then_takes word (2 ^ 32) text x (omega arith) (omega arith) e

pub long_takes : (word text : List ℕ) (x : ℕ × List ℕ) → number_then word (2 ^ 64) text ≡ Some x → (x.0 < 2 ^ 64) × (text ≡ decimal x.0 ++ (word ++ x.1))
long_takes word text x e = number_then_takes word (2 ^ 64) text x (omega arith) (omega arith) e

pub field_again : (limit n : ℕ) (rest : List ℕ) → limit ≤ 2 ^ 64 → n < limit → number_then (codes " ") limit (decimal n ++ 32 ∷ rest) ≡ Some (n, rest)
field_again limit n rest small fits = number_then_again limit n 32 rest small fits refl

pub last_again : (limit n : ℕ) (rest : List ℕ) → limit ≤ 2 ^ 64 → n < limit → number_then (codes "\n") limit (decimal n ++ 10 ∷ rest) ≡ Some (n, rest)
last_again limit n rest small fits = number_then_again limit n 10 rest small fits refl

pub part_again : (limit n : ℕ) (rest : List ℕ) → limit ≤ 2 ^ 64 → n < limit → number_then (codes "/") limit (decimal n ++ 47 ∷ rest) ≡ Some (n, rest)
part_again limit n rest small fits = number_then_again limit n 47 rest small fits refl

-- ---- free sets

digit_takes : (byte digit : ℕ) → upper_value byte ≡ Some digit → (digit < 16) × (upper_digit digit ≡ byte)
digit_takes byte digit e = grind (arith, nat_tests)

digit_again : (digit : ℕ) → digit < 16 → upper_value (upper_digit digit) ≡ Some digit
digit_again digit small = grind (arith, nat_tests)

set_byte_takes : (text : List ℕ) (x : ℕ × List ℕ) → byte_at text ≡ Some x → (x.0 < 256) × (text ≡ byte_word x.0 ++ x.1)
unfolding byte_at
set_byte_takes [] x e = absurd cc
set_byte_takes (high ∷ []) x e = absurd cc
set_byte_takes (high ∷ low ∷ rest) x e =
    let a = bind_some (upper_value high) (λ h. upper_value low >>= λ l. Some (h * 16 + l, rest)) x e in
    let b = bind_some (upper_value low) (λ l. Some (a.0 * 16 + l, rest)) x a.2 in
    let h = digit_takes high a.0 a.1 in
    let l = digit_takes low b.0 b.1 in
    let over : (a.0 * 16 + b.0) / 16 ≡ a.0 = omega (arith, l.0) in
    let under : (a.0 * 16 + b.0) % 16 ≡ b.0 = omega (arith, l.0) in
    subst (λ (y : ℕ × List ℕ). (y.0 < 256) × (high ∷ low ∷ rest ≡ byte_word y.0 ++ y.1)) (same_Some (a.0 * 16 + b.0, rest) x b.2)
    (omega (arith, h.0, l.0), rw (over, under, h.1, l.1) refl)

set_byte_again : (byte : ℕ) (rest : List ℕ) → byte < 256 → byte_at (byte_word byte ++ rest) ≡ Some (byte, rest)
unfolding byte_at
set_byte_again byte rest small =
    let whole : byte / 16 * 16 + byte % 16 ≡ byte = omega arith in
    rw (digit_again (byte / 16) (omega (arith, small)), digit_again (byte % 16) (omega arith)) (rw whole refl)

set_small : (a b c d : ℕ) → a < 256 → b < 256 → c < 256 → d < 256 → (i : ℕ) → get_or (a ∷ b ∷ c ∷ d ∷ []) i 0 < 256
set_small a b c d p q r s zero = p
set_small a b c d p q r s (suc zero) = q
set_small a b c d p q r s (suc (suc zero)) = r
set_small a b c d p q r s (suc (suc (suc zero))) = s
set_small a b c d p q r s (suc (suc (suc (suc i)))) = omega arith

pub set_takes : (text : List ℕ) (x : ℕ × List ℕ) → set_at text ≡ Some x → (x.0 < 2 ^ 32) × (text ≡ set_word x.0 ++ x.1)
unfolding set_at
set_takes text x e =
    let a = bind_some (byte_at text) (λ a. byte_at a.1 >>= λ b. byte_at b.1 >>= λ c. byte_at c.1 >>= λ d. Some (from_be_bytes w32 (a.0 ∷ b.0 ∷ c.0 ∷ d.0 ∷ []), d.1)) x e in
    let b = bind_some (byte_at a.0.1) (λ b. byte_at b.1 >>= λ c. byte_at c.1 >>= λ d. Some (from_be_bytes w32 (a.0.0 ∷ b.0 ∷ c.0 ∷ d.0 ∷ []), d.1)) x a.2 in
    let c = bind_some (byte_at b.0.1) (λ c. byte_at c.1 >>= λ d. Some (from_be_bytes w32 (a.0.0 ∷ b.0.0 ∷ c.0 ∷ d.0 ∷ []), d.1)) x b.2 in
    let d = bind_some (byte_at c.0.1) (λ d. Some (from_be_bytes w32 (a.0.0 ∷ b.0.0 ∷ c.0.0 ∷ d.0 ∷ []), d.1)) x c.2 in
    let p = set_byte_takes text a.0 a.1 in
    let q = set_byte_takes a.0.1 b.0 b.1 in
    let r = set_byte_takes b.0.1 c.0 c.1 in
    let s = set_byte_takes c.0.1 d.0 d.1 in
    let bytes : List ℕ = a.0.0 ∷ b.0.0 ∷ c.0.0 ∷ d.0.0 ∷ [] in
    let small : (i : ℕ) → get_or bytes i 0 < 256 = set_small a.0.0 b.0.0 c.0.0 d.0.0 p.0 q.0 r.0 s.0 in
    let back : to_be_bytes w32 (from_be_bytes w32 bytes) ≡ bytes = be_bytes_4 bytes _ refl small refl in
    let read : text ≡ byte_word a.0.0 ++ (byte_word b.0.0 ++ (byte_word c.0.0 ++ (byte_word d.0.0 ++ d.0.1))) =
    p.1 ∙ ap (λ t. byte_word a.0.0 ++ t) (q.1 ∙ ap (λ t. byte_word b.0.0 ++ t) (r.1 ∙ ap (λ t. byte_word c.0.0 ++ t) s.1)) in
    subst (λ (y : ℕ × List ℕ). (y.0 < 2 ^ 32) × (text ≡ set_word y.0 ++ y.1)) (same_Some (from_be_bytes w32 bytes, d.0.1) x d.2)
    (omega (arith, p.0, q.0, r.0, s.0), read ∙ ap (λ (bs : List ℕ). flat_map byte_word bs ++ d.0.1) (sym back))

set_of_bytes : (a b c d : ℕ) (rest : List ℕ) → a < 256 → b < 256 → c < 256 → d < 256 →
    set_at (byte_word a ++ (byte_word b ++ (byte_word c ++ (byte_word d ++ rest)))) ≡ Some (from_be_bytes w32 (a ∷ b ∷ c ∷ d ∷ []), rest)
unfolding set_at
set_of_bytes a b c d rest p q r s =
    rw (set_byte_again a (byte_word b ++ (byte_word c ++ (byte_word d ++ rest))) p)
    (rw (set_byte_again b (byte_word c ++ (byte_word d ++ rest)) q) (rw (set_byte_again c (byte_word d ++ rest) r) (rw (set_byte_again d rest s) refl)))

pub set_again : (free : ℕ) (rest : List ℕ) → free < 2 ^ 32 → set_at (set_word free ++ rest) ≡ Some (free, rest)
set_again free rest small =
    let bytes : List ℕ = to_be_bytes w32 free in
    set_of_bytes (get_or bytes 0 0) (get_or bytes 1 0) (get_or bytes 2 0) (get_or bytes 3 0) rest (omega arith) (omega arith) (omega arith) (omega arith)
    ∙ ap (λ n. Some (n, rest)) (from_be_bytes-to_be_bytes_4 free small)

-- ---- where a session was opened

opened_grouped : (seq buf change rest : List ℕ) → (seq ++ 47 ∷ (buf ++ 47 ∷ change)) ++ 32 ∷ rest ≡ seq ++ 47 ∷ (buf ++ 47 ∷ (change ++ 32 ∷ rest))
opened_grouped seq buf change rest = simp append_assoc

opened_place_takes : (text : List ℕ) (x : Option OpenedAt × List ℕ) → opened_place_at text ≡ Some x → OpenedFits x.0 × (text ≡ opened_word x.0 ++ 32 ∷ x.1)
unfolding opened_place_at
opened_place_takes text x e =
    let a = bind_some (number_then (codes "/") (2 ^ 32) text) _ x e in
    let b = bind_some (number_then (codes "/") (2 ^ 8) a.0.1) _ x a.2 in
    let c = bind_some (field_at (2 ^ 32) b.0.1) _ x b.2 in
    let p = word32_takes (codes "/") text a.0 a.1 in
    let q = byte_takes (codes "/") a.0.1 b.0 b.1 in
    let r = word32_takes (codes " ") b.0.1 c.0 c.1 in
    let seq : List ℕ = decimal a.0.0 in
    let buf : List ℕ = decimal b.0.0 in
    let change : List ℕ = decimal c.0.0 in
    let read : text ≡ seq ++ 47 ∷ (buf ++ 47 ∷ (change ++ 32 ∷ c.0.1)) = p.1 ∙ ap (λ t. seq ++ 47 ∷ t) (q.1 ∙ ap (λ t. buf ++ 47 ∷ t) r.1) in
    subst (λ (y : Option OpenedAt × List ℕ). OpenedFits y.0 × (text ≡ opened_word y.0 ++ 32 ∷ y.1)) (same_Some _ x c.2)
    ((p.0, q.0, r.0), read ∙ sym (opened_grouped seq buf change c.0.1))

pub opened_takes : (text : List ℕ) (x : Option OpenedAt × List ℕ) → opened_at text ≡ Some x → OpenedFits x.0 × (text ≡ opened_word x.0 ++ 32 ∷ x.1)
unfolding opened_at
opened_takes text x e =
    let P : Option OpenedAt × List ℕ → Type 0 = λ y. OpenedFits y.0 × (text ≡ opened_word y.0 ++ 32 ∷ y.1) in
    either (word_at (codes "- ") None text) (opened_place_at text) x (P x) (λ h. word_found (codes "- ") None text x P (λ rest is. (tt, is)) h) (λ h. opened_place_takes text x h) e

-- a number is no dash
no_dash : (n : ℕ) (rest : List ℕ) → n < 2 ^ 64 → word_at {A = Option OpenedAt} (codes "- ") None (decimal n ++ rest) ≡ None
no_dash n rest small =
    let d = first_digit n small in
    rw d.2 (rw (ne_eqb d.0 45 (λ is. omega (arith, is, d.3))) refl)

pub opened_again : (opened : Option OpenedAt) (rest : List ℕ) → OpenedFits opened → opened_at (opened_word opened ++ 32 ∷ rest) ≡ Some (opened, rest)
unfolding opened_at opened_place_at
opened_again None rest fits = refl
opened_again (Some o) rest fits =
    let seq : List ℕ = decimal o.seq in
    let buf : List ℕ = decimal o.buf.0 in
    let change : List ℕ = decimal o.change in
    ap opened_at (opened_grouped seq buf change rest)
    ∙ rw (no_dash o.seq (47 ∷ (buf ++ 47 ∷ (change ++ 32 ∷ rest))) (omega (arith, fits.0)))
    (rw (part_again (2 ^ 32) o.seq (buf ++ 47 ∷ (change ++ 32 ∷ rest)) (omega arith) fits.0)
    (rw (part_again (2 ^ 8) o.buf.0 (change ++ 32 ∷ rest) (omega arith) fits.1) (rw (field_again (2 ^ 32) o.change rest (omega arith) fits.2) refl)))

-- ---- deeds and groups

one_is : (version : ℕ) → version ≡ 1 → eqb version 1 ≡ false → ⊥
one_is version is other = grind (arith, nat_tests, is, other)

pub deed_takes : (text : List ℕ) (x : Bool × List ℕ) → deed_at text ≡ Some x → text ≡ deed_word x.0 ++ 32 ∷ x.1
unfolding deed_at
deed_takes text x e =
    let P : Bool × List ℕ → Type 0 = λ y. text ≡ deed_word y.0 ++ 32 ∷ y.1 in
    either (word_at (codes "take ") true text) (word_at (codes "free ") false text) x (P x)
    (λ h. word_found (codes "take ") true text x P (λ rest is. is) h) (λ h. word_found (codes "free ") false text x P (λ rest is. is) h) e

pub deed_again : (took : Bool) (rest : List ℕ) → deed_at (deed_word took ++ 32 ∷ rest) ≡ Some (took, rest)
unfolding deed_at
deed_again true rest = refl
deed_again false rest = refl

-- the fields that stand after a group, and the line's end
pub group_takes : (version : ℕ) (text : List ℕ) (x : ℕ × List ℕ) → group_at version text ≡ Some x →
    GroupFits version x.0 × ((field : List ℕ) (fields : List (List ℕ)) (rest : List ℕ) → x.1 ≡ line_before (field ∷ fields) rest →
    text ≡ line_before (group_fields version x.0 (field ∷ fields)) rest)
unfolding group_at
group_takes version text x e =
    elim (cases_Bool (eqb version 1)) [
      | inl one ↦
          let same : (0, text) ≡ x = same_Some (0, text) x (rw one at e) in
          subst (λ (y : ℕ × List ℕ). GroupFits version y.0 × ((field : List ℕ) (fields : List (List ℕ)) (rest : List ℕ) → y.1 ≡ line_before (field ∷ fields) rest → text ≡ line_before (group_fields version y.0 (field ∷ fields)) rest))
          same (record { small = omega arith; alone = λ is. refl }, λ field fields rest is. rw one is)
      | inr other ↦
          let found = byte_takes (codes " ") text x (rw other at e) in (
            record { small = found.0; alone = λ is. absurd (one_is version is other) },
            λ field fields rest is. rw other (found.1 ∙ ap (λ t. decimal x.0 ++ 32 ∷ t) is),
          )
    ]

pub group_again : (version group : ℕ) (field : List ℕ) (fields : List (List ℕ)) (rest : List ℕ) → GroupFits version group →
    group_at version (line_before (group_fields version group (field ∷ fields)) rest) ≡ Some (group, line_before (field ∷ fields) rest)
unfolding group_at
group_again version group field fields rest fits =
    elim (cases_Bool (eqb version 1)) [
      | inl one ↦ let none : group ≡ 0 = fits.alone (eqb-true version 1 one) in rw (one, none) refl
      | inr other ↦ rw other (field_again (2 ^ 8) group (line_before (field ∷ fields) rest) (omega arith) fits.small)
    ]
