-- The last of the pending frames leave, one after another.
use Rattle.std.proofs.Common.{◌≡◌, ℕ, ◌<◌, ◌≤◌, ◌⊎◌, inl, inr, ⊎_elim, true, false, List, [], ◌∷◌, ◌++◌, length, reverse, Some, None, Option, zero, suc, sym, refl, ap, ◌∙◌, subst, arith, append-nil, append_assoc, true≢false}
use Rattle.std.proofs.lemmas.List.{reverse-append}
use Rattle.std.specs.Prelude.{slice_get, ◌==◌, if◌then◌else◌}
use Rattle.std.specs.List.{AllByRecursion}
use Rattle.std.proofs.lemmas.Option.{slice_get_within}
use mathlib.Core.Logic.{dite}
use native.Mathlib.Decide.{dec_lt, ℕ_discrete}
use Rattle.can_frame.specs.Frame.{CanFrame}
use Rattle.can_frame.specs.Priority.{priority_of}
use Rattle.tx_mailbox.specs.Boxes.{Pending, content, LeavesBefore, leaves_before, AreInOrder, IsPending, IsEmitted}
use Rattle.tx_mailbox.proofs.Pendings.{hit, miss, to_before, all_of, Absent, absent_none, other_number, same_number}

none_some : {A : Type 0} {y : A} → None ≡ Some y → ⊥
none_some e = cc

same_of : {A : Type 0} {x y : A} → Some x ≡ Some y → x ≡ y
same_of e = cc

at_push : {A : Type 0} → (xs : List A) (x : A) (k : ℕ) (y : A) → slice_get (xs ++ x ∷ []) k ≡ Some y → (slice_get xs k ≡ Some y) ⊎ ((k ≡ length xs) × (x ≡ y))
at_push [] x zero y e = inr (refl, same_of e)
at_push [] x (suc k) y e = absurd (none_some e)
at_push (z ∷ xs) x zero y e = inl e
at_push (z ∷ xs) x (suc k) y e = ⊎_elim (λ old. inl old) (λ new. inr (ap suc new.0, new.1)) (at_push xs x k y e)

-- the last of the pending frames

all_front : {A : Type 0} (P : A → Type 0) (xs ys : List A) → AllByRecursion P (xs ++ ys) → AllByRecursion P xs × AllByRecursion P ys
all_front P [] ys all = (tt, all)
all_front P (x ∷ xs) ys all = let r = all_front P xs ys all.1 in ((all.0, r.0), r.1)

pub order_front : (xs ys : List Pending) → AreInOrder (xs ++ ys) → AreInOrder xs
order_front [] ys h = tt
order_front (x ∷ xs) ys h = ((all_front (λ other. (leaves_before other x ≡ true) × ((other.0 == x.0) ≡ false)) xs ys h.0).0, order_front xs ys h.1)

pub pending_front : (xs ys : List Pending) → IsPending (xs ++ ys) → IsPending xs
pending_front xs ys p = record { in_order = order_front xs ys p.in_order; boxes = (all_front (λ x. x.0 < 176) xs ys p.boxes).0 }

-- the frames before the last one leave after it, from other boxes
before_last : (xs : List Pending) (e : Pending) → AreInOrder (xs ++ e ∷ []) → AllByRecursion (λ x. (leaves_before e x ≡ true) × ((e.0 == x.0) ≡ false)) xs
before_last [] e h = tt
before_last (x ∷ xs) e h = (((all_front (λ other. (leaves_before other x ≡ true) × ((other.0 == x.0) ≡ false)) xs (e ∷ []) h.0).1.0), before_last xs e h.1)

turn : (a b : ℕ) → (a == b) ≡ false → (b == a) ≡ false
turn a b h = other_number b a (λ e. true≢false (sym (same_number a b (sym e)) ∙ h))

last_absent : (xs : List Pending) (e : Pending) → AllByRecursion (λ x. (leaves_before e x ≡ true) × ((e.0 == x.0) ≡ false)) xs → Absent e.0 xs
last_absent xs e all = all_of (λ x. (leaves_before e x ≡ true) × ((e.0 == x.0) ≡ false)) (λ x. (x.0 == e.0) ≡ false) (λ x h. turn e.0 x.0 h.1) xs all

content_front : (n : ℕ) (xs : List Pending) (e : Pending) → (e.0 ≡ n → ⊥) → content n (xs ++ e ∷ []) ≡ content n xs
content_front n [] e ne = miss n e [] ne
content_front n (x ∷ xs) e ne = ap (λ (o : Option CanFrame). if x.0 == n then Some x.1 else o) (content_front n xs e ne)

content_last : (xs : List Pending) (e : Pending) → Absent e.0 xs → content e.0 (xs ++ e ∷ []) ≡ Some e.1
content_last [] e all = hit e.0 e [] refl
content_last (x ∷ xs) e all = miss e.0 x (xs ++ e ∷ []) (λ same. true≢false (sym (same_number x.0 e.0 same) ∙ all.0)) ∙ content_last xs e all.1

-- a frame in a box is one of those pending
last_before : (xs : List Pending) (e : Pending) → AllByRecursion (λ x. (leaves_before e x ≡ true) × ((e.0 == x.0) ≡ false)) xs → (n : ℕ) (f : CanFrame) → content n xs ≡ Some f → LeavesBefore e (n, f)
last_before [] e all n f h = absurd (none_some h)
last_before (x ∷ xs) e all n f h = dite (ℕ_discrete x.0 n)
    (λ same. let is : x.1 ≡ f = same_of (sym (hit n x xs same) ∙ h) in subst (λ (y : Pending). LeavesBefore e y) (λ i. (same i, is i)) (to_before e x all.0.0))
    (λ ne. last_before xs e all.1 n f (sym (miss n x xs ne) ∙ h))

-- what left so far, and what is pending still

record Leaving (before now out : List Pending) : Type 0 where
  order : AreInOrder now
  lay : (n : ℕ) (f : CanFrame) → content n now ≡ Some f → content n before ≡ Some f
  pending : (i : ℕ) (e : Pending) → slice_get out i ≡ Some e → content e.0 before ≡ Some e.1
  gone : (i : ℕ) (e : Pending) → slice_get out i ≡ Some e → content e.0 now ≡ None
  in_order : (i j : ℕ) (a b : Pending) → i < j → slice_get out i ≡ Some a → slice_get out j ≡ Some b → LeavesBefore a b
  kept : (n : ℕ) → ((i : ℕ) (e : Pending) → slice_get out i ≡ Some e → e.0 ≡ n → ⊥) → content n now ≡ content n before
  least : (n : ℕ) (f : CanFrame) → content n now ≡ Some f → (i : ℕ) (e : Pending) → slice_get out i ≡ Some e → LeavesBefore e (n, f)

starts : (before : List Pending) → AreInOrder before → Leaving before before []
starts before order = record {
  order = order;
  lay = λ n f h. h;
  pending = λ i e h. absurd (none_some h);
  gone = λ i e h. absurd (none_some h);
  in_order = λ i j a b less h l. absurd (none_some h);
  kept = λ n none. refl;
  least = λ n f h i e l. absurd (none_some l);
}

one_leaves : (before now out : List Pending) (x : Pending) → Leaving before (now ++ x ∷ []) out → Leaving before now (out ++ x ∷ [])
one_leaves before now out x l =
    let behind = before_last now x l.order in
    let absent = last_absent now x behind in
    let lies = content_last now x absent in
    let none = absent_none x.0 now absent in
    let other : (n : ℕ) (f : CanFrame) → content n now ≡ Some f → x.0 ≡ n → ⊥ = λ n f h same. none_some (sym none ∙ ap (λ (m : ℕ). content m now) same ∙ h) in
    let still : (n : ℕ) (f : CanFrame) → content n now ≡ Some f → content n (now ++ x ∷ []) ≡ Some f = λ n f h. content_front n now x (other n f h) ∙ h in
    record {
      order = order_front now (x ∷ []) l.order;
      lay = λ n f h. l.lay n f (still n f h);
      pending = λ i e h. ⊎_elim (λ old. l.pending i e old) (λ new. subst (λ (y : Pending). content y.0 before ≡ Some y.1) new.1 (l.lay x.0 x.1 lies)) (at_push out x i e h);
      gone = λ i e h. ⊎_elim
          (λ old. dite (ℕ_discrete x.0 e.0) (λ same. ap (λ (m : ℕ). content m now) (sym same) ∙ none) (λ ne. sym (content_front e.0 now x ne) ∙ l.gone i e old))
          (λ new. subst (λ (y : Pending). content y.0 now ≡ None) new.1 none)
          (at_push out x i e h);
      in_order = λ i j a b less first second. ⊎_elim
          (λ old. let inside = slice_get_within out j b old in ⊎_elim (λ was. l.in_order i j a b less was old) (λ last. absurd (omega (arith, last.0, inside, less))) (at_push out x i a first))
          (λ new. ⊎_elim (λ was. subst (λ (y : Pending). LeavesBefore a y) new.1 (l.least x.0 x.1 lies i a was)) (λ last. absurd (omega (arith, last.0, new.0, less))) (at_push out x i a first))
          (at_push out x j b second);
      kept = λ n free. sym (content_front n now x (free (length out) x (at_end out x))) ∙ l.kept n (λ i e h. free i e (at_front out x i e h));
      least = λ n f h i e there. ⊎_elim (λ old. l.least n f (still n f h) i e old) (λ new. subst (λ (y : Pending). LeavesBefore y (n, f)) new.1 (last_before now x behind n f h)) (at_push out x i e there);
    }
  where
    at_end : (xs : List Pending) (y : Pending) → slice_get (xs ++ y ∷ []) (length xs) ≡ Some y
    at_end [] y = refl
    at_end (z ∷ xs) y = at_end xs y

    at_front : (xs : List Pending) (y : Pending) (k : ℕ) (z : Pending) → slice_get xs k ≡ Some z → slice_get (xs ++ y ∷ []) k ≡ Some z
    at_front [] y k z e = absurd (none_some e)
    at_front (w ∷ xs) y zero z e = e
    at_front (w ∷ xs) y (suc k) z e = at_front xs y k z e

-- all that left, the last one first
leaves : (before now out more : List Pending) → Leaving before (now ++ reverse more) out → Leaving before now (out ++ more)
leaves before now out [] l = subst (λ (xs : List Pending). Leaving before now xs) (sym (append-nil out)) (subst (λ (xs : List Pending). Leaving before xs out) (append-nil now) l)
leaves before now out (x ∷ more) l =
    let split : now ++ reverse (x ∷ more) ≡ (now ++ reverse more) ++ x ∷ [] = ap (λ (xs : List Pending). now ++ xs) (reverse-append (x ∷ []) more) ∙ sym (append_assoc now (reverse more) (x ∷ [])) in
    subst (λ (xs : List Pending). Leaving before now xs) (append_assoc out (x ∷ []) more)
    (leaves before now (out ++ x ∷ []) more (one_leaves before (now ++ reverse more) out x (subst (λ (xs : List Pending). Leaving before xs out) split l)))

all_at : {A : Type 0} (P : A → Type 0) (xs : List A) → ((i : ℕ) (x : A) → slice_get xs i ≡ Some x → P x) → AllByRecursion P xs
all_at P [] h = tt
all_at P (x ∷ xs) h = (h 0 x refl, all_at P xs (λ i y e. h (suc i) y e))

not_after : (a b : Pending) → LeavesBefore a b → priority_of a.1.id ≤ priority_of b.1.id
not_after a b h = ⊎_elim (λ less. omega (arith, less)) (λ same. omega (arith, same.0)) h

pub emitted : (budget : ℕ) (before now out : List Pending) → IsPending before → before ≡ now ++ reverse out → length out ≤ budget → (length out < budget → length now ≡ 0) → IsEmitted budget before out now
emitted budget before now out p is few rest =
    let l : Leaving before now out = leaves before now [] out (subst (λ (xs : List Pending). Leaving before xs []) is (starts before p.in_order)) in
    record {
      few = few;
      pending = l.pending;
      gone = l.gone;
      in_order = l.in_order;
      kept = l.kept;
      least = l.least;
      full = λ n f h. (
        dite (dec_lt (length out) budget) (λ less. absurd (none_some (sym (empty now (rest less) n) ∙ h))) (λ not. omega (arith, few, not)),
        all_at (λ e. priority_of e.1.id ≤ priority_of f.id) out (λ i e there. not_after e (n, f) (l.least n f h i e there)),
      );
    }
  where
    empty : (xs : List Pending) → length xs ≡ 0 → (n : ℕ) → content n xs ≡ None
    empty [] h n = refl
    empty (x ∷ xs) h n = absurd (omega (arith, h))
