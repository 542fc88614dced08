-- Lists, and what stands at a place in them.
use Rattle.std.proofs.Common.{◌≡◌, ℕ, ◌<◌, ◌≤◌, ◌⊎◌, inl, inr, ⊎_elim, List, [], ◌∷◌, ◌++◌, length, take, drop, Some, None, zero, suc, sym, refl, ap, arith}
use Rattle.std.specs.Prelude.{slice_get}
use Rattle.std.proofs.lemmas.List.{drop-append-le, drop_at}

pub none_some : {A : Type 0} {y : A} → None ≡ Some y → ⊥
none_some e = cc

pub same_of : {A : Type 0} {x y : A} → Some x ≡ Some y → x ≡ y
same_of e = cc

pub at_push : {A : Type 0} → (xs : List A) (x : A) (k : ℕ) (y : A) → slice_get (xs ++ x ∷ []) k ≡ Some y → (slice_get xs k ≡ Some y) ⊎ ((k ≡ length xs) × (x ≡ y))
at_push [] x zero y e = let same : x ≡ y = cc in inr (refl, same)
at_push [] x (suc k) y e = absurd (none_some e)
at_push (z ∷ xs) x zero y e = inl e
at_push (z ∷ xs) x (suc k) y e = ⊎_elim (λ old. inl old) (λ new. inr (ap suc new.0, new.1)) (at_push xs x k y e)

pub at_front : {A : Type 0} → (xs ys : List A) (k : ℕ) (y : A) → slice_get xs k ≡ Some y → slice_get (xs ++ ys) k ≡ Some y
at_front [] ys k y e = absurd (none_some e)
at_front (x ∷ xs) ys zero y e = e
at_front (x ∷ xs) ys (suc k) y e = at_front xs ys k y e

pub at_take : {A : Type 0} → (xs : List A) (p i : ℕ) (x : A) → slice_get (take p xs) i ≡ Some x → (slice_get xs i ≡ Some x) × (i < p)
at_take [] zero i x e = absurd (none_some e)
at_take [] (suc p) i x e = absurd (none_some e)
at_take (y ∷ xs) zero i x e = absurd (none_some e)
at_take (y ∷ xs) (suc p) zero x e = (e, omega arith)
at_take (y ∷ xs) (suc p) (suc i) x e = let r = at_take xs p i x e in (r.0, omega (arith, r.1))

pub in_take : {A : Type 0} → (xs : List A) (p i : ℕ) (x : A) → slice_get xs i ≡ Some x → i < p → slice_get (take p xs) i ≡ Some x
in_take [] p i x e l = absurd (none_some e)
in_take (y ∷ xs) zero i x e l = absurd (omega (arith, l))
in_take (y ∷ xs) (suc p) zero x e l = e
in_take (y ∷ xs) (suc p) (suc i) x e l = in_take xs p i x e (omega (arith, l))

pub there_is : {A : Type 0} → (xs : List A) (i : ℕ) → i < length xs → (x : A) × (slice_get xs i ≡ Some x)
there_is [] i l = absurd (omega (arith, l))
there_is (x ∷ xs) zero l = (x, refl)
there_is (x ∷ xs) (suc i) l = there_is xs i (omega (arith, l))

nil_cons : {A : Type 0} {x : A} {rest : List A} → [] ≡ x ∷ rest → ⊥
nil_cons e = cc

-- the first of what is left of a list
pub at_drop : {A : Type 0} → (xs : List A) (p : ℕ) (x : A) (rest : List A) → drop p xs ≡ x ∷ rest → slice_get xs p ≡ Some x
at_drop [] zero x rest e = absurd (nil_cons e)
at_drop [] (suc p) x rest e = absurd (nil_cons e)
at_drop (y ∷ xs) zero x rest e = let same : y ≡ x = cc in ap Some same
at_drop (y ∷ xs) (suc p) x rest e = at_drop xs p x rest e

-- a list with one more, after what was before it
pub drop-push : {A : Type 0} → (xs : List A) (p : ℕ) (x : A) → p ≤ length xs → drop p (xs ++ x ∷ []) ≡ drop p xs ++ x ∷ []
drop-push xs p x h = drop-append-le p xs (x ∷ []) h

pub drop-to_push : {A : Type 0} → (xs : List A) (p : ℕ) (x : A) → p ≡ length xs → drop p (xs ++ x ∷ []) ≡ x ∷ []
drop-to_push xs p x h = drop_at xs (x ∷ []) p (sym h)
