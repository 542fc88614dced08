-- Frames put into boxes and taken out of them.
use Rattle.std.proofs.Common.{◌≡◌, ℕ, ◌+◌, ◌<◌, ◌≤◌, ◌⊎◌, inl, inr, ⊎_elim, Bool, true, false, true≢false, cond, List, [], ◌∷◌, length, take, Some, None, Option, zero, suc, sym, refl, ap, ◌∙◌, subst, arith, lt-ltb, le-ltb}
use Rattle.std.specs.Prelude.{◌==◌, nat_lt, if◌then◌else◌, not, ◌||◌, ◌&&◌, insert, remove, take_while, is_some}
use Rattle.std.specs.List.{AllByRecursion, prefix_len}
use Rattle.std.proofs.lemmas.Bool.{eqb-true, eqb-false}
use mathlib.Core.Logic.{dite}
use native.Mathlib.Decide.{dec_lt, ℕ_discrete}
use Rattle.can_frame.specs.Frame.{CanFrame}
use Rattle.can_frame.specs.Priority.{priority_of}
use Rattle.tx_mailbox.specs.Boxes.{Pending, content, with_content, LeavesBefore, leaves_before, AreInOrder, IsPending}

-- tests of numbers

pub same_number : (a b : ℕ) → a ≡ b → (a == b) ≡ true
same_number a b e = go (a == b) refl
  where
    go : (t : Bool) → (a == b) ≡ t → t ≡ true
    go true h = refl
    go false h = absurd (eqb-false a b h e)

pub other_number : (a b : ℕ) → (a ≡ b → ⊥) → (a == b) ≡ false
other_number a b ne = go (a == b) refl
  where
    go : (t : Bool) → (a == b) ≡ t → t ≡ false
    go false h = refl
    go true h = absurd (ne (eqb-true a b h))

not_same : (a b : ℕ) → (a == b) ≡ false → a ≡ b → ⊥
not_same a b h = eqb-false a b h

-- which frame leaves first

pub to_before : (a b : Pending) → leaves_before a b ≡ true → LeavesBefore a b
to_before a b h = dite (dec_lt (priority_of a.1.id) (priority_of b.1.id))
    (λ less. inl less)
    (λ no. dite (ℕ_discrete (priority_of a.1.id) (priority_of b.1.id))
    (λ same. dite (dec_lt a.0 b.0)
    (λ low. inr (same, low))
    (λ high. absurd (true≢false (sym h ∙ ap (λ (t : Bool). t || ((priority_of a.1.id == priority_of b.1.id) && nat_lt a.0 b.0)) (le-ltb (priority_of a.1.id) (priority_of b.1.id) (omega (arith, no)))
    ∙ ap (λ (t : Bool). t && nat_lt a.0 b.0) (same_number (priority_of a.1.id) (priority_of b.1.id) same) ∙ le-ltb a.0 b.0 (omega (arith, high))))))
    (λ other. absurd (true≢false (sym h ∙ ap (λ (t : Bool). t || ((priority_of a.1.id == priority_of b.1.id) && nat_lt a.0 b.0)) (le-ltb (priority_of a.1.id) (priority_of b.1.id) (omega (arith, no)))
    ∙ ap (λ (t : Bool). t && nat_lt a.0 b.0) (other_number (priority_of a.1.id) (priority_of b.1.id) other)))))

pub from_before : (a b : Pending) → LeavesBefore a b → leaves_before a b ≡ true
from_before a b h = ⊎_elim
    (λ less. ap (λ (t : Bool). t || ((priority_of a.1.id == priority_of b.1.id) && nat_lt a.0 b.0)) (lt-ltb (priority_of a.1.id) (priority_of b.1.id) less))
    (λ same. ap (λ (t : Bool). t || ((priority_of a.1.id == priority_of b.1.id) && nat_lt a.0 b.0)) (le-ltb (priority_of a.1.id) (priority_of b.1.id) (omega (arith, same.0)))
    ∙ ap (λ (t : Bool). t && nat_lt a.0 b.0) (same_number (priority_of a.1.id) (priority_of b.1.id) same.0) ∙ lt-ltb a.0 b.0 same.1)
    h

pub before_trans : (a b c : Pending) → LeavesBefore a b → LeavesBefore b c → LeavesBefore a c
before_trans a b c h l = ⊎_elim
    (λ less. ⊎_elim (λ lower. inl (omega (arith, less, lower))) (λ same. inl (omega (arith, less, same.0))) l)
    (λ same. ⊎_elim (λ lower. inl (omega (arith, same.0, lower))) (λ also. inr (omega (arith, same.0, also.0), omega (arith, same.1, also.1))) l)
    h

turned : (a b : Pending) → leaves_before a b ≡ false → (b.0 == a.0) ≡ false → leaves_before b a ≡ true
turned a b h apart = from_before b a (dite (dec_lt (priority_of b.1.id) (priority_of a.1.id))
    (λ less. inl less)
    (λ no. dite (dec_lt (priority_of a.1.id) (priority_of b.1.id))
    (λ less. absurd (true≢false (sym (from_before a b (inl less)) ∙ h)))
    (λ not. let same : priority_of a.1.id ≡ priority_of b.1.id = omega (arith, no, not) in dite (dec_lt b.0 a.0)
    (λ low. inr (sym same, low))
    (λ high. dite (dec_lt a.0 b.0)
    (λ low. absurd (true≢false (sym (from_before a b (inr (same, low))) ∙ h)))
    (λ even. absurd (not_same b.0 a.0 apart (omega (arith, high, even))))))))

-- lists

pub all_of : {A : Type 0} (P Q : A → Type 0) → ((x : A) → P x → Q x) → (xs : List A) → AllByRecursion P xs → AllByRecursion Q xs
all_of P Q f [] all = tt
all_of P Q f (x ∷ xs) all = (f x all.0, all_of P Q f xs all.1)

all_insert : {A : Type 0} (P : A → Type 0) (xs : List A) (i : ℕ) (e : A) → AllByRecursion P xs → P e → AllByRecursion P (insert xs i e)
all_insert P [] zero e all h = (h, tt)
all_insert P [] (suc i) e all h = (h, tt)
all_insert P (x ∷ xs) zero e all h = (h, all)
all_insert P (x ∷ xs) (suc i) e all h = (all.0, all_insert P xs i e all.1 h)

all_remove : {A : Type 0} (P : A → Type 0) (xs : List A) (i : ℕ) → AllByRecursion P xs → AllByRecursion P (remove xs i)
all_remove P [] zero all = tt
all_remove P [] (suc i) all = tt
all_remove P (x ∷ xs) zero all = all.1
all_remove P (x ∷ xs) (suc i) all = (all.0, all_remove P xs i all.1)

abbrev pub count_while : {A : Type 0} → (A → Bool) → List A → ℕ
count_while p [] = 0
count_while p (x ∷ xs) = cond (p x) (suc (count_while p xs)) 0

counted : {A : Type 0} (p : A → Bool) (xs : List A) → prefix_len p xs ≡ count_while p xs
counted p [] = refl
counted p (x ∷ xs) = go (p x) (counted p xs)
  where
    go : (t : Bool) → prefix_len p xs ≡ count_while p xs → cond t (1 + prefix_len p xs) 0 ≡ cond t (suc (count_while p xs)) 0
    go true h = omega (arith, h)
    go false h = refl

few_counted : {A : Type 0} (p : A → Bool) (xs : List A) → count_while p xs ≤ length xs
few_counted p [] = omega arith
few_counted p (x ∷ xs) = let h = few_counted p xs in go (p x) h
  where
    go : (t : Bool) → count_while p xs ≤ length xs → cond t (suc (count_while p xs)) 0 ≤ suc (length xs)
    go true h = omega (arith, h)
    go false h = omega arith

length_take : {A : Type 0} (xs : List A) (n : ℕ) → n ≤ length xs → length (take n xs) ≡ n
length_take [] zero h = refl
length_take [] (suc n) h = absurd (omega (arith, h))
length_take (x ∷ xs) zero h = refl
length_take (x ∷ xs) (suc n) h = ap suc (length_take xs n (omega (arith, h)))

-- how many a machine that stops at the first other one counts
pub count_of : {A : Type 0} (p : A → Bool) (xs : List A) → length (take_while p xs) ≡ count_while p xs
count_of p xs = ap (λ (n : ℕ). length (take n xs)) (counted p xs) ∙ length_take xs (count_while p xs) (few_counted p xs)

-- what lies in a box

pub hit : (number : ℕ) (x : Pending) (xs : List Pending) → x.0 ≡ number → content number (x ∷ xs) ≡ Some x.1
hit number x xs e = ap (λ (t : Bool). if t then Some x.1 else content number xs) (same_number x.0 number e)

pub miss : (number : ℕ) (x : Pending) (xs : List Pending) → (x.0 ≡ number → ⊥) → content number (x ∷ xs) ≡ content number xs
miss number x xs ne = ap (λ (t : Bool). if t then Some x.1 else content number xs) (other_number x.0 number ne)

none_some : {A : Type 0} {y : A} → None ≡ Some y → ⊥
none_some e = cc

-- a number that no frame has
abbrev pub Absent : ℕ → List Pending → Type 0
Absent number xs = AllByRecursion (λ x. (x.0 == number) ≡ false) xs

pub absent_none : (number : ℕ) (xs : List Pending) → Absent number xs → content number xs ≡ None
absent_none number [] all = refl
absent_none number (x ∷ xs) all = miss number x xs (not_same x.0 number all.0) ∙ absent_none number xs all.1

pub none_absent : (number : ℕ) (xs : List Pending) → content number xs ≡ None → Absent number xs
none_absent number [] h = tt
none_absent number (x ∷ xs) h = dite (ℕ_discrete x.0 number)
    (λ e. absurd (none_some (sym h ∙ hit number x xs e)))
    (λ ne. (other_number x.0 number ne, none_absent number xs (sym (miss number x xs ne) ∙ h)))

insert_other : (m : ℕ) (xs : List Pending) (i : ℕ) (e : Pending) → (e.0 ≡ m → ⊥) → content m (insert xs i e) ≡ content m xs
insert_other m [] zero e ne = miss m e [] ne
insert_other m [] (suc i) e ne = miss m e [] ne
insert_other m (x ∷ xs) zero e ne = miss m e (x ∷ xs) ne
insert_other m (x ∷ xs) (suc i) e ne = ap (λ (o : Option CanFrame). if x.0 == m then Some x.1 else o) (insert_other m xs i e ne)

insert_same : (xs : List Pending) (i : ℕ) (e : Pending) → Absent e.0 xs → content e.0 (insert xs i e) ≡ Some e.1
insert_same [] zero e all = hit e.0 e [] refl
insert_same [] (suc i) e all = hit e.0 e [] refl
insert_same (x ∷ xs) zero e all = hit e.0 e (x ∷ xs) refl
insert_same (x ∷ xs) (suc i) e all = miss e.0 x (insert xs i e) (not_same x.0 e.0 all.0) ∙ insert_same xs i e all.1

-- a frame in an empty box
pub content_insert : (xs : List Pending) (i : ℕ) (e : Pending) → content e.0 xs ≡ None → (m : ℕ) → content m (insert xs i e) ≡ with_content e.0 (Some e.1) xs m
content_insert xs i e none m = dite (ℕ_discrete m e.0)
    (λ same. subst (λ (n : ℕ). content n (insert xs i e) ≡ Some e.1) (sym same) (insert_same xs i e (none_absent e.0 xs none)) ∙ sym (ap (λ (t : Bool). if t then Some e.1 else content m xs) (same_number m e.0 same)))
    (λ ne. insert_other m xs i e (λ same. ne (sym same)) ∙ sym (ap (λ (t : Bool). if t then Some e.1 else content m xs) (other_number m e.0 ne)))

abbrev pub place : Pending → List Pending → ℕ
place e xs = length (take_while (λ other. leaves_before e other) xs)

in_order_at : (xs : List Pending) (e : Pending) → AreInOrder xs → Absent e.0 xs → AreInOrder (insert xs (count_while (λ other. leaves_before e other) xs) e)
in_order_at [] e order all = (tt, tt)
in_order_at (x ∷ xs) e order all = go (leaves_before e x) refl (in_order_at xs e order.1 all.1)
  where
    go : (t : Bool) → leaves_before e x ≡ t → AreInOrder (insert xs (count_while (λ other. leaves_before e other) xs) e) →
        AreInOrder (insert (x ∷ xs) (cond t (suc (count_while (λ other. leaves_before e other) xs)) 0) e)
    go true h rest = (
      all_insert (λ other. (leaves_before other x ≡ true) × ((other.0 == x.0) ≡ false)) xs (count_while (λ other. leaves_before e other) xs) e order.0
          (h, other_number e.0 x.0 (λ same. not_same x.0 e.0 all.0 (sym same))),
      rest,
    )
    go false h rest =
        let first = turned e x h all.0 in
        let later : (y : Pending) → (leaves_before y x ≡ true) × ((y.0 == x.0) ≡ false) → leaves_before y e ≡ true = λ y b. from_before y e (before_trans y x e (to_before y x b.0) (to_before x e first)) in
        (((first, all.0), both xs (all_of (λ other. (leaves_before other x ≡ true) × ((other.0 == x.0) ≡ false)) (λ other. leaves_before other e ≡ true) later xs order.0) all.1), order)
      where
        both : (ys : List Pending) → AllByRecursion (λ other. leaves_before other e ≡ true) ys → Absent e.0 ys → AllByRecursion (λ other. (leaves_before other e ≡ true) × ((other.0 == e.0) ≡ false)) ys
        both [] a b = tt
        both (y ∷ ys) a b = ((a.0, b.0), both ys a.1 b.1)

pub pending_insert : (xs : List Pending) (e : Pending) → IsPending xs → content e.0 xs ≡ None → e.0 < 176 → IsPending (insert xs (place e xs) e)
pending_insert xs e p none small =
    let at = count_of (λ other. leaves_before e other) xs in
    record {
      in_order = subst (λ (n : ℕ). AreInOrder (insert xs n e)) (sym at) (in_order_at xs e p.in_order (none_absent e.0 xs none));
      boxes = all_insert (λ x. x.0 < 176) xs (place e xs) e p.boxes small;
    }

-- the frame of a box, taken out

in_order_remove : (xs : List Pending) (i : ℕ) → AreInOrder xs → AreInOrder (remove xs i)
in_order_remove [] zero h = tt
in_order_remove [] (suc i) h = tt
in_order_remove (x ∷ xs) zero h = h.1
in_order_remove (x ∷ xs) (suc i) h = (all_remove (λ other. (leaves_before other x ≡ true) × ((other.0 == x.0) ≡ false)) xs i h.0, in_order_remove xs i h.1)

pub pending_remove : (xs : List Pending) (i : ℕ) → IsPending xs → IsPending (remove xs i)
pending_remove xs i p = record { in_order = in_order_remove xs i p.in_order; boxes = all_remove (λ x. x.0 < 176) xs i p.boxes }

abbrev pub before : ℕ → List Pending → ℕ
before number xs = length (take_while (λ other. not (other.0 == number)) xs)

count_hit : (number : ℕ) (x : Pending) (xs : List Pending) → x.0 ≡ number → count_while (λ other. not (other.0 == number)) (x ∷ xs) ≡ 0
count_hit number x xs e = ap (λ (t : Bool). cond (not t) (suc (count_while (λ other. not (other.0 == number)) xs)) 0) (same_number x.0 number e)

count_miss : (number : ℕ) (x : Pending) (xs : List Pending) → (x.0 ≡ number → ⊥) → count_while (λ other. not (other.0 == number)) (x ∷ xs) ≡ suc (count_while (λ other. not (other.0 == number)) xs)
count_miss number x xs ne = ap (λ (t : Bool). cond (not t) (suc (count_while (λ other. not (other.0 == number)) xs)) 0) (other_number x.0 number ne)

others : (x : Pending) (xs : List Pending) → AllByRecursion (λ other. (leaves_before other x ≡ true) × ((other.0 == x.0) ≡ false)) xs → Absent x.0 xs
others x xs all = all_of (λ other. (leaves_before other x ≡ true) × ((other.0 == x.0) ≡ false)) (λ other. (other.0 == x.0) ≡ false) (λ y h. h.1) xs all

-- the box is empty afterwards
removed_same : (number : ℕ) (xs : List Pending) → AreInOrder xs → content number (remove xs (count_while (λ other. not (other.0 == number)) xs)) ≡ None
removed_same number [] h = refl
removed_same number (x ∷ xs) h = dite (ℕ_discrete x.0 number)
    (λ e. ap (λ (i : ℕ). content number (remove (x ∷ xs) i)) (count_hit number x xs e) ∙ subst (λ (n : ℕ). content n xs ≡ None) e (absent_none x.0 xs (others x xs h.0)))
    (λ ne. ap (λ (i : ℕ). content number (remove (x ∷ xs) i)) (count_miss number x xs ne) ∙ miss number x (remove xs (count_while (λ other. not (other.0 == number)) xs)) ne ∙ removed_same number xs h.1)

removed_other : (number m : ℕ) (xs : List Pending) → (m ≡ number → ⊥) → content m (remove xs (count_while (λ other. not (other.0 == number)) xs)) ≡ content m xs
removed_other number m [] other = refl
removed_other number m (x ∷ xs) other = dite (ℕ_discrete x.0 number)
    (λ e. ap (λ (i : ℕ). content m (remove (x ∷ xs) i)) (count_hit number x xs e) ∙ sym (miss m x xs (λ same. other (sym same ∙ e))))
    (λ ne. ap (λ (i : ℕ). content m (remove (x ∷ xs) i)) (count_miss number x xs ne) ∙ ap (λ (o : Option CanFrame). if x.0 == m then Some x.1 else o) (removed_other number m xs other))

pub content_remove : (number : ℕ) (xs : List Pending) → AreInOrder xs → (m : ℕ) → content m (remove xs (before number xs)) ≡ with_content number None xs m
content_remove number xs h m = ap (λ (i : ℕ). content m (remove xs i)) (count_of (λ other. not (other.0 == number)) xs) ∙ dite (ℕ_discrete m number)
    (λ same. subst (λ (n : ℕ). content n (remove xs (count_while (λ other. not (other.0 == number)) xs)) ≡ None) (sym same) (removed_same number xs h) ∙ sym (ap (λ (t : Bool). if t then None else content m xs) (same_number m number same)))
    (λ ne. removed_other number m xs ne ∙ sym (ap (λ (t : Bool). if t then None else content m xs) (other_number m number ne)))

-- whether the box has a frame
there_or_not : (number : ℕ) (xs : List Pending) → ((count_while (λ other. not (other.0 == number)) xs ≡ length xs) × (content number xs ≡ None)) ⊎ ((count_while (λ other. not (other.0 == number)) xs < length xs) × (is_some (content number xs) ≡ true))
there_or_not number [] = inl (refl, refl)
there_or_not number (x ∷ xs) = dite (ℕ_discrete x.0 number)
    (λ e. inr (let z = count_hit number x xs e in omega (arith, z), ap (λ (o : Option CanFrame). is_some o) (hit number x xs e)))
    (λ ne. let c = count_miss number x xs ne in ⊎_elim
    (λ h. inl (omega (arith, c, h.0), miss number x xs ne ∙ h.1))
    (λ h. inr (omega (arith, c, h.0), ap (λ (o : Option CanFrame). is_some o) (miss number x xs ne) ∙ h.1))
    (there_or_not number xs))

pub box_empty : (number : ℕ) (xs : List Pending) → before number xs ≡ length xs → content number xs ≡ None
box_empty number xs e = let c = count_of (λ other. not (other.0 == number)) xs in ⊎_elim (λ h. h.1) (λ h. absurd (omega (arith, c, e, h.0))) (there_or_not number xs)

pub box_full : (number : ℕ) (xs : List Pending) → (before number xs ≡ length xs → ⊥) → is_some (content number xs) ≡ true
box_full number xs ne = let c = count_of (λ other. not (other.0 == number)) xs in ⊎_elim (λ h. absurd (ne (c ∙ h.0))) (λ h. h.1) (there_or_not number xs)

pub before_within : (number : ℕ) (xs : List Pending) → before number xs ≤ length xs
before_within number xs = let c = count_of (λ other. not (other.0 == number)) xs in let h = few_counted (λ other. not (other.0 == number)) xs in omega (arith, c, h)

pub place_within : (e : Pending) (xs : List Pending) → place e xs ≤ length xs
place_within e xs = let c = count_of (λ other. leaves_before e other) xs in let h = few_counted (λ other. leaves_before e other) xs in omega (arith, c, h)

pub empty_same : (number : ℕ) (xs : List Pending) → content number xs ≡ None → (m : ℕ) → content m xs ≡ with_content number None xs m
empty_same number xs none m = dite (ℕ_discrete m number)
    (λ same. ap (λ (n : ℕ). content n xs) same ∙ none ∙ sym (ap (λ (t : Bool). if t then None else content m xs) (same_number m number same)))
    (λ ne. sym (ap (λ (t : Bool). if t then None else content m xs) (other_number m number ne)))

-- all boxes are empty exactly where nothing is pending
pub all_none : (xs : List Pending) → ((number : ℕ) → content number xs ≡ None) → length xs ≡ 0
all_none [] h = refl
all_none (x ∷ xs) h = absurd (none_some (sym (h x.0) ∙ hit x.0 x xs refl))

pub nothing : (xs : List Pending) → length xs ≡ 0 → (number : ℕ) → content number xs ≡ None
nothing [] h number = refl
nothing (x ∷ xs) h number = absurd (omega (arith, h))

-- there is room for a frame whose box is empty

abbrev one_if : Bool → ℕ
one_if t = cond t 1 0

abbrev below : ℕ → List Pending → ℕ
below n [] = 0
below n (x ∷ xs) = one_if (nat_lt x.0 n) + below n xs

abbrev times : ℕ → List Pending → ℕ
times n [] = 0
times n (x ∷ xs) = one_if (x.0 == n) + times n xs

below_next : (n : ℕ) (xs : List Pending) → below (suc n) xs ≡ below n xs + times n xs
below_next n [] = omega arith
below_next n (x ∷ xs) = let h = below_next n xs in let one = each x.0 in omega (arith, h, one)
  where
    each : (a : ℕ) → one_if (nat_lt a (suc n)) ≡ one_if (nat_lt a n) + one_if (a == n)
    each a = dite (dec_lt a n)
        (λ low. let p = ap one_if (lt-ltb a (suc n) (omega (arith, low))) in let q = ap one_if (lt-ltb a n low) in let r = ap one_if (other_number a n (λ e. omega (arith, e, low))) in omega (arith, p, q, r))
        (λ not. let q = ap one_if (le-ltb a n (omega (arith, not))) in dite (ℕ_discrete a n)
        (λ e. let p = ap one_if (lt-ltb a (suc n) (omega (arith, e))) in let r = ap one_if (same_number a n e) in omega (arith, p, q, r))
        (λ ne. let p = ap one_if (le-ltb a (suc n) (omega (arith, ne, not))) in let r = ap one_if (other_number a n ne) in omega (arith, p, q, r)))

times_none : (n : ℕ) (xs : List Pending) → Absent n xs → times n xs ≡ 0
times_none n [] all = refl
times_none n (x ∷ xs) all = let h = times_none n xs all.1 in let z = ap one_if all.0 in omega (arith, h, z)

times_once : (n : ℕ) (xs : List Pending) → AreInOrder xs → times n xs ≤ 1
times_once n [] h = omega arith
times_once n (x ∷ xs) h = dite (ℕ_discrete x.0 n)
    (λ e. let none = subst (λ (m : ℕ). times m xs ≡ 0) e (times_none x.0 xs (others x xs h.0)) in let one = ap one_if (same_number x.0 n e) in omega (arith, none, one))
    (λ ne. let rest = times_once n xs h.1 in let zero = ap one_if (other_number x.0 n ne) in omega (arith, rest, zero))

below_few : (n : ℕ) (xs : List Pending) → AreInOrder xs → below n xs ≤ n
below_few zero xs h = none xs
  where
    none : (xs : List Pending) → below 0 xs ≤ 0
    none [] = omega arith
    none (x ∷ xs) = let r = none xs in let z = ap one_if (le-ltb x.0 0 (omega arith)) in omega (arith, r, z)
below_few (suc n) xs h = let r = below_few n xs h in let one = times_once n xs h in let e = below_next n xs in omega (arith, r, one, e)

below_all : (n : ℕ) (xs : List Pending) → AllByRecursion (λ x. x.0 < n) xs → below n xs ≡ length xs
below_all n [] all = refl
below_all n (x ∷ xs) all = let r = below_all n xs all.1 in let one = ap one_if (lt-ltb x.0 n all.0) in omega (arith, r, one)

pub pending_few : (xs : List Pending) → IsPending xs → length xs ≤ 176
pending_few xs p = let few = below_few 176 xs p.in_order in let all = below_all 176 xs p.boxes in omega (arith, few, all)

length_insert : {A : Type 0} (xs : List A) (i : ℕ) (e : A) → length (insert xs i e) ≡ length xs + 1
length_insert [] zero e = refl
length_insert [] (suc i) e = refl
length_insert (x ∷ xs) zero e = omega arith
length_insert (x ∷ xs) (suc i) e = let h = length_insert xs i e in omega (arith, h)

pub pending_room : (xs : List Pending) (e : Pending) → IsPending xs → content e.0 xs ≡ None → e.0 < 176 → length xs < 176
pending_room xs e p none small = let few = pending_few (insert xs (place e xs) e) (pending_insert xs e p none small) in let more = length_insert xs (place e xs) e in omega (arith, few, more)

-- a box after its frame was taken out

pub emptied : (number : ℕ) (old new : List Pending) → ((m : ℕ) → content m new ≡ with_content number None old m) → content number new ≡ None
emptied number old new all = all number ∙ ap (λ (t : Bool). if t then None else content number old) (same_number number number refl)

pub with_other : (number : ℕ) (lies : Option CanFrame) (old new : List Pending) → ((m : ℕ) → content m new ≡ with_content number None old m) → (m : ℕ) → with_content number lies new m ≡ with_content number lies old m
with_other number lies old new all m = dite (ℕ_discrete m number)
    (λ same. ap (λ (t : Bool). if t then lies else content m new) (same_number m number same) ∙ sym (ap (λ (t : Bool). if t then lies else content m old) (same_number m number same)))
    (λ ne. ap (λ (t : Bool). if t then lies else content m new) (other_number m number ne) ∙ all m ∙ ap (λ (t : Bool). if t then None else content m old) (other_number m number ne)
    ∙ sym (ap (λ (t : Bool). if t then lies else content m old) (other_number m number ne)))
