-- Lists that are one another in some order: they weigh the same, however their items are weighed.
use Rattle.std.proofs.Common.{◌≡◌, ℕ, ◌+◌, ◌<◌, inl, inr, Bool, true, false, List, [], ◌∷◌, length, Option, Some, None, All, refl, ap, sym, ◌∙◌, subst, arith, eq-eqb}
use Rattle.std.proofs.lemmas.Bool.Decides.{eqb_tells}
use Rattle.std.proofs.lemmas.List.Elements.{All-nil, All-cons, All-head, All-tail}
use Rattle.std.specs.Prelude.{◌==◌, ◌&&◌, if◌then◌else◌}
use Rattle.hub_core.proofs.Numbered.{numbered-number}
use Rattle.hub_core.specs.Groups.{group_of, in_group, journal_of}
use Rattle.hub_core.specs.Journal.{changed_buf, number_of, numbered}
use Rattle.hub_core.specs.View.{Change, Taken, Freed, Refusal}
use Rattle.hub_shared.specs.Counts.{counts_one, weigh}

abbrev pub WeighSame : {A : Type 0} → List A → List A → Type 0
WeighSame {A} xs ys = (h : A → ℕ) → weigh h xs ≡ weigh h ys

pub length-weight : {A : Type 0} (xs : List A) → length xs ≡ weigh (λ x. 1) xs
length-weight [] = refl
length-weight (x ∷ xs) = let rest = length-weight xs in omega (arith, rest)

-- a test of items
pub record Tells (A : Type 0) : Type 0 where
  pub is : A → A → Bool
  pub same : (x y : A) → is x y ≡ true → x ≡ y
  pub itself : (x : A) → is x x ≡ true

both-true : (a b : Bool) → (a && b) ≡ true → (a ≡ true) × (b ≡ true)
both-true true b is = (refl, is)
both-true false b is = absurd cc

eq-is : (a b : ℕ) → (a == b) ≡ true → a ≡ b
eq-is a b is = elim (eqb_tells a b) [ inl same ↦ same.1 | inr other ↦ absurd (let no : false ≡ true = sym other.0 ∙ is in cc) ]

pub change-tells : Tells Change
change-tells = record { is = test; same = same; itself = itself }
  where
    test : Change → Change → Bool
    test (Taken n b d) (Taken m c e) = (n == m) && ((b == c) && (d == e))
    test (Taken n b d) (Freed m c) = false
    test (Freed n b) (Taken m c e) = false
    test (Freed n b) (Freed m c) = (n == m) && (b == c)

    same : (x y : Change) → test x y ≡ true → x ≡ y
    same (Taken n b d) (Taken m c e) is =
        let first = both-true (n == m) ((b == c) && (d == e)) is in
        let rest = both-true (b == c) (d == e) first.1 in
        λ i. Taken (eq-is n m first.0 i) (eq-is b c rest.0 i) (eq-is d e rest.1 i)
    same (Taken n b d) (Freed m c) is = absurd cc
    same (Freed n b) (Taken m c e) is = absurd cc
    same (Freed n b) (Freed m c) is = let first = both-true (n == m) (b == c) is in λ i. Freed (eq-is n m first.0 i) (eq-is b c first.1 i)

    itself : (x : Change) → test x x ≡ true
    itself (Taken n b d) = λ i. eq-eqb n n refl i && (eq-eqb b b refl i && eq-eqb d d refl i)
    itself (Freed n b) = λ i. eq-eqb n n refl i && eq-eqb b b refl i

pub refusal-tells : Tells Refusal
refusal-tells = record {
  is = λ r s. (r.group == s.group) && ((r.number == s.number) && ((r.free == s.free) && (r.need == s.need)));
  same = λ r s is.
      let first = both-true (r.group == s.group) ((r.number == s.number) && ((r.free == s.free) && (r.need == s.need))) is in
      let second = both-true (r.number == s.number) ((r.free == s.free) && (r.need == s.need)) first.1 in
      let third = both-true (r.free == s.free) (r.need == s.need) second.1 in
      λ i. record { group = eq-is r.group s.group first.0 i; number = eq-is r.number s.number second.0 i; free = eq-is r.free s.free third.0 i; need = eq-is r.need s.need third.1 i };
  itself = λ r i. eq-eqb r.group r.group refl i && (eq-eqb r.number r.number refl i && (eq-eqb r.free r.free refl i && eq-eqb r.need r.need refl i));
}

-- what holds of all items of a list holds of those of each list that weighs the same
found : {A : Type 0} (P : A → Type 0) (test : A → Bool) (xs : List A) → All P xs → 0 < weigh (λ x. counts_one (test x)) xs → (x : A) × P x × (test x ≡ true)
found P test [] all some = absurd (omega (arith, some))
found {A = A} P test (x ∷ xs) all some = go (test x) refl (λ more. found P test xs (All-tail P x xs all) more)
  where
    go : (b : Bool) → test x ≡ b → (0 < weigh (λ x. counts_one (test x)) xs → (y : A) × P y × (test y ≡ true)) → (y : A) × P y × (test y ≡ true)
    go true is rest = (x, All-head P x xs all, is)
    go false is rest = rest (omega (arith, some, ap counts_one is))

members : {A : Type 0} (tells : Tells A) (P : A → Type 0) (xs : List A) → ((x : A) → 0 < weigh (λ y. counts_one (tells.is x y)) xs → P x) → All P xs
members tells P [] each = All-nil P
members tells P (x ∷ xs) each = All-cons P x xs (each x (omega (arith, ap counts_one (tells.itself x)))) (members tells P xs (λ y some. each y (omega (arith, some))))

pub all-same : {A : Type 0} (tells : Tells A) (P : A → Type 0) (xs ys : List A) → WeighSame ys xs → All P xs → All P ys
all-same tells P xs ys weight all = members tells P ys (λ y some.
    let h = found P (tells.is y) xs all (omega (arith, some, weight (λ x. counts_one (tells.is y x)))) in
    subst P (sym (tells.same y h.0 h.2)) h.1)

-- a group's changes, weighed
pub journal-weight : (groups : List (List ℕ)) (group : ℕ) (h : Change → ℕ) (changes : List Change) → weigh h (journal_of groups group changes) ≡ weigh (λ c. if group_of groups (changed_buf c) == group then h (in_group groups c) else 0) changes
journal-weight groups group h [] = refl
journal-weight groups group h (c ∷ changes) = one (journal-weight groups group h changes) (group_of groups (changed_buf c) == group)
  where
    one : weigh h (journal_of groups group changes) ≡ weigh (λ d. if group_of groups (changed_buf d) == group then h (in_group groups d) else 0) changes → (b : Bool) →
        weigh h (if b then in_group groups c ∷ journal_of groups group changes else journal_of groups group changes) ≡ (if b then h (in_group groups c) else 0) + weigh (λ d. if group_of groups (changed_buf d) == group then h (in_group groups d) else 0) changes
    one rest true = omega (arith, rest)
    one rest false = omega (arith, rest)

pub journal-same : (groups : List (List ℕ)) (group : ℕ) (xs ys : List Change) → WeighSame xs ys → WeighSame (journal_of groups group xs) (journal_of groups group ys)
journal-same groups group xs ys weight h = journal-weight groups group h xs ∙ weight (λ c. if group_of groups (changed_buf c) == group then h (in_group groups c) else 0) ∙ sym (journal-weight groups group h ys)

pub length-same : {A : Type 0} (xs ys : List A) → WeighSame xs ys → length xs ≡ length ys
length-same xs ys weight = length-weight xs ∙ weight (λ x. 1) ∙ sym (length-weight ys)

-- a number is found in one list as in the other, where each change of the one is found by its number in the other
pub numbered-same : (js ks : List Change) → WeighSame js ks → All (λ c. numbered ks (number_of c) ≡ Some c) js → (n : ℕ) → numbered js n ≡ numbered ks n
numbered-same js ks weight own n = go (numbered js n) refl
  where
    counts : Change → ℕ
    counts c = counts_one (number_of c == n)

    nothing : (cs : List Change) → numbered cs n ≡ None → weigh counts cs ≡ 0
    nothing [] none = refl
    nothing (c ∷ cs) none = elim (eqb_tells (number_of c) n) [
      | inl same ↦ absurd (let no : Some c ≡ None = sym (ap (λ (b : Bool). if b then Some c else numbered cs n) same.0) ∙ none in cc)
      | inr other ↦ (let rest = nothing cs (sym (ap (λ (b : Bool). if b then Some c else numbered cs n) other.0) ∙ none) in omega (arith, rest, ap counts_one other.0))
    ]

    no-one : (cs : List Change) → weigh counts cs ≡ 0 → numbered cs n ≡ None
    no-one [] none = refl
    no-one (c ∷ cs) none = elim (eqb_tells (number_of c) n) [
      | inl same ↦ absurd (omega (arith, none, ap counts_one same.0))
      | inr other ↦ ap (λ (b : Bool). if b then Some c else numbered cs n) other.0 ∙ no-one cs (omega (arith, none))
    ]

    theirs : (cs : List Change) (c : Change) → All (λ d. numbered ks (number_of d) ≡ Some d) cs → numbered cs n ≡ Some c → numbered ks (number_of c) ≡ Some c
    theirs [] c all is = absurd cc
    theirs (d ∷ cs) c all is = elim (eqb_tells (number_of d) n) [
      | inl same ↦ (let here : Some d ≡ Some c = sym (ap (λ (b : Bool). if b then Some d else numbered cs n) same.0) ∙ is in let it : d ≡ c = cc in subst (λ (x : Change). numbered ks (number_of x) ≡ Some x) it (All-head (λ (e : Change). numbered ks (number_of e) ≡ Some e) d cs all))
      | inr other ↦ theirs cs c (All-tail (λ (e : Change). numbered ks (number_of e) ≡ Some e) d cs all) (sym (ap (λ (b : Bool). if b then Some d else numbered cs n) other.0) ∙ is)
    ]

    go : (found : Option Change) → numbered js n ≡ found → numbered js n ≡ numbered ks n
    go None is = is ∙ sym (no-one ks (omega (arith, nothing js is, weight counts)))
    go (Some c) is = is ∙ sym (ap (numbered ks) (sym (numbered-number js n c is)) ∙ theirs js c own is)
