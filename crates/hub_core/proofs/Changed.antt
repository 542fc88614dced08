-- Lists whose item at a place is changed, and lists that have an item with a property.
use Rattle.std.proofs.Common.{◌≡◌, ◌≢◌, ℕ, ◌≤◌, zero, suc, Some, List, [], ◌∷◌, ◌++◌, length, refl, ap, sym, inl, inr, arith}
use Rattle.std.specs.Prelude.{slice_get}
use Rattle.std.specs.List.{AllByRecursion}
use Rattle.hub_core.specs.View.{change_at}
use Rattle.gw_base.proofs.Lists.{at-next, get-append, slice_get-more}
use Rattle.hub_core.proofs.Growing.{slice_get-pushed}

-- the other places stay
pub other-place : {A : Type 0} (k seq : ℕ) (f : A → A) (xs : List A) → k ≢ seq → slice_get (change_at seq f xs) k ≡ slice_get xs k
other-place k seq f [] ne = refl
other-place zero zero f (x ∷ xs) ne = absurd (ne refl)
other-place (suc k) zero f (x ∷ xs) ne = refl
other-place zero (suc seq) f (x ∷ xs) ne = refl
other-place (suc k) (suc seq) f (x ∷ xs) ne = other-place k seq f xs (λ is. ne (ap suc is))

-- an item of a list with one more is an item before or the last one
pub data Pushed {A : Type 0} (xs : List A) (x : A) (k : ℕ) (y : A) : Type 0 where
  Before : slice_get xs k ≡ Some y → Pushed xs x k y
  Last : y ≡ x → Pushed xs x k y

pub pushed : {A : Type 0} (k : ℕ) (xs : List A) (x y : A) → slice_get (xs ++ x ∷ []) k ≡ Some y → Pushed xs x k y
pushed k xs x y is = elim (at-next xs x y k is) [ inl before ↦ Before before | inr last ↦ Last (sym last.1) ]

-- an item of the list has the property
pub record Has {A : Type 0} (P : A → Type 0) (xs : List A) : Type 0 where
  pub place : ℕ
  pub item : A
  pub there : slice_get xs place ≡ Some item
  pub holds : P item

pub has-more : {A : Type 0} (P : A → Type 0) (xs ys : List A) → Has P xs → Has P (xs ++ ys)
has-more P xs ys has = record { place = has.place; item = has.item; there = slice_get-more xs ys has.place has.item has.there; holds = has.holds }

pub has-last : {A : Type 0} (P : A → Type 0) (xs : List A) (x : A) → P x → Has P (xs ++ x ∷ [])
has-last P xs x is = record { place = length xs; item = x; there = slice_get-pushed xs x (length xs) refl; holds = is }

pub all-by : {A : Type 0} (P : A → Type 0) (xs : List A) → ((k : ℕ) (x : A) → slice_get xs k ≡ Some x → P x) → AllByRecursion P xs
all-by P [] each = tt
all-by P (x ∷ xs) each = (each zero x refl, all-by P xs (λ k y is. each (suc k) y is))

-- an item of two joined lists is one of the first, or of the second and past the first
pub data Joined {A : Type 0} (xs ys : List A) (k : ℕ) (x : A) : Type 0 where
  InFirst : slice_get xs k ≡ Some x → Joined xs ys k x
  InNext : (j : ℕ) → slice_get ys j ≡ Some x → length xs ≤ k → Joined xs ys k x

pub joined : {A : Type 0} (xs ys : List A) (k : ℕ) (x : A) → slice_get (xs ++ ys) k ≡ Some x → Joined xs ys k x
joined xs ys k x is = elim (get-append xs ys k x is) [ inl first ↦ InFirst first | inr next ↦ InNext next.0 next.2 (omega (arith, next.1)) ]
