-- Lists: their items by place, and what holds of all items or of all pairs.
use Rattle.std.proofs.Common.{◌≡◌, ◌⊎◌, inl, inr, ap, ℕ, ◌+◌, ◌<◌, zero, suc, Option, None, Some, List, [], ◌∷◌, ◌++◌, length, map, refl, subst, arith}
use Rattle.std.specs.Prelude.{slice_get}
use Rattle.std.specs.List.{AllByRecursion, AllZip}

-- what an optional item is
pub same-some : {A : Type 0} {item : Option A} {x y : A} → item ≡ Some x → item ≡ Some y → x ≡ y
same-some one two = cc

pub none-some : {A : Type 0} {item : Option A} {x : A} → item ≡ None → item ≡ Some x → ⊥
none-some none is = cc

-- items by their places
pub there-at : {A : Type 0} (xs : List A) (k : ℕ) → k < length xs → (x : A) × (slice_get xs k ≡ Some x)
there-at [] k below = absurd (omega (arith, below))
there-at (x ∷ xs) zero below = (x, refl)
there-at (x ∷ xs) (suc k) below = there-at xs k (omega (arith, below))

pub slice_get-more : {A : Type 0} (xs ys : List A) (k : ℕ) (x : A) → slice_get xs k ≡ Some x → slice_get (xs ++ ys) k ≡ Some x
slice_get-more [] ys k x is = cc
slice_get-more (first ∷ xs) ys zero x is = is
slice_get-more (first ∷ xs) ys (suc k) x is = slice_get-more xs ys k x is

pub at-next : {A : Type 0} (xs : List A) (x y : A) (k : ℕ) → slice_get (xs ++ x ∷ []) k ≡ Some y → (slice_get xs k ≡ Some y) ⊎ ((k ≡ length xs) × (x ≡ y))
at-next [] x y zero is = inr (refl, cc)
at-next [] x y (suc k) is = absurd cc
at-next (z ∷ xs) x y zero is = inl is
at-next (z ∷ xs) x y (suc k) is = elim (at-next xs x y k is) [ inl old ↦ inl old | inr new ↦ inr (ap (λ n. suc n) new.0, new.1) ]

pub get-append : {A : Type 0} (xs ys : List A) (k : ℕ) (x : A) → slice_get (xs ++ ys) k ≡ Some x → (slice_get xs k ≡ Some x) ⊎ ((j : ℕ) × (k ≡ length xs + j) × (slice_get ys j ≡ Some x))
get-append [] ys k x is = inr (k, omega arith, is)
get-append (y ∷ xs) ys zero x is = inl is
get-append (y ∷ xs) ys (suc k) x is = elim (get-append xs ys k x is) [
  | inl here ↦ inl here
  | inr later ↦ inr (later.0, omega (arith, later.1), later.2)
]

pub get-after : {A : Type 0} (xs ys : List A) (k j : ℕ) (x : A) → k ≡ length xs + j → slice_get (xs ++ ys) k ≡ Some x → slice_get ys j ≡ Some x
get-after [] ys k j x at is = let same : k ≡ j = omega (arith, at) in rw (← same) is
get-after (y ∷ xs) ys zero j x at is = absurd (omega (arith, at))
get-after (y ∷ xs) ys (suc k) j x at is = get-after xs ys k j x (omega (arith, at)) is

pub mapped-at : {A B : Type 0} (f : A → B) (k : ℕ) (xs : List A) (y : B) → slice_get (map f xs) k ≡ Some y → (x : A) × (slice_get xs k ≡ Some x) × (f x ≡ y)
mapped-at f k [] y is = cc
mapped-at f zero (x ∷ xs) y is = (x, refl, cc)
mapped-at f (suc k) (x ∷ xs) y is = mapped-at f k xs y is

-- what holds of all items, or of all pairs
pub all-weaker : {A : Type 0} (P Q : A → Type 0) (xs : List A) → ((x : A) → P x → Q x) → AllByRecursion P xs → AllByRecursion Q xs
all-weaker P Q [] on all = tt
all-weaker P Q (x ∷ xs) on all = (on x all.0, all-weaker P Q xs on all.1)

pub all-push : {A : Type 0} (P : A → Type 0) (xs : List A) (x : A) → AllByRecursion P xs → P x → AllByRecursion P (xs ++ x ∷ [])
all-push P [] x all is = (is, tt)
all-push P (first ∷ xs) x all is = (all.0, all-push P xs x all.1 is)

pub all-both : {A : Type 0} (P Q R : A → Type 0) (xs : List A) → ((x : A) → P x → Q x → R x) → AllByRecursion P xs → AllByRecursion Q xs → AllByRecursion R xs
all-both P Q R [] on all others = tt
all-both P Q R (x ∷ xs) on all others = (on x all.0 others.0, all-both P Q R xs on all.1 others.1)

pub all-at : {A : Type 0} (P : A → Type 0) (xs : List A) (k : ℕ) (x : A) → AllByRecursion P xs → slice_get xs k ≡ Some x → P x
all-at P [] k x all is = cc
all-at P (y ∷ xs) zero x all is = let same : y ≡ x = cc in rw (← same) all.0
all-at P (y ∷ xs) (suc k) x all is = all-at P xs k x all.1 is

pub all-join : {A : Type 0} (P : A → Type 0) (xs ys : List A) → AllByRecursion P xs → AllByRecursion P ys → AllByRecursion P (xs ++ ys)
all-join P [] ys all others = others
all-join P (x ∷ xs) ys all others = (all.0, all-join P xs ys all.1 others)

pub all-front : {A : Type 0} (P : A → Type 0) (xs ys : List A) → AllByRecursion P (xs ++ ys) → AllByRecursion P xs
all-front P [] ys all = tt
all-front P (x ∷ xs) ys all = (all.0, all-front P xs ys all.1)

pub all-last : {A : Type 0} (P : A → Type 0) (xs : List A) (x : A) → AllByRecursion P (xs ++ x ∷ []) → P x
all-last P [] x all = all.0
all-last P (y ∷ xs) x all = all-last P xs x all.1

pub all-split : {A : Type 0} (P : A → Type 0) (before after : List A) (x : A) → AllByRecursion P (before ++ x ∷ after) → P x × AllByRecursion P after
all-split P [] after x all = all
all-split P (y ∷ before) after x all = all-split P before after x all.1

pub all-map : {A B : Type 0} (P : B → Type 0) (f : A → B) (xs : List A) → AllByRecursion (λ (x : A). P (f x)) xs → AllByRecursion P (map f xs)
all-map P f [] all = tt
all-map P f (x ∷ xs) all = (all.0, all-map P f xs all.1)

pub zip-weaker : {A B : Type 0} (P Q : A → B → Type 0) (xs : List A) (ys : List B) → ((x : A) (y : B) → P x y → Q x y) → AllZip P xs ys → AllZip Q xs ys
zip-weaker P Q [] [] on all = all
zip-weaker P Q [] (y ∷ ys) on all = absurd all
zip-weaker P Q (x ∷ xs) [] on all = absurd all
zip-weaker P Q (x ∷ xs) (y ∷ ys) on all = (on x y all.0, zip-weaker P Q xs ys on all.1)

pub zip-push : {A B : Type 0} (P : A → B → Type 0) (xs : List A) (ys : List B) (x : A) (y : B) → AllZip P xs ys → P x y → AllZip P (xs ++ x ∷ []) (ys ++ y ∷ [])
zip-push P [] [] x y all is = (is, tt)
zip-push P [] (b ∷ ys) x y all is = absurd all
zip-push P (a ∷ xs) [] x y all is = absurd all
zip-push P (a ∷ xs) (b ∷ ys) x y all is = (all.0, zip-push P xs ys x y all.1 is)

pub zip-both : {A B : Type 0} (P Q R : A → B → Type 0) (xs : List A) (ys : List B) → ((x : A) (y : B) → P x y → Q x y → R x y) → AllZip P xs ys → AllZip Q xs ys → AllZip R xs ys
zip-both P Q R [] [] on first second = tt
zip-both P Q R [] (y ∷ ys) on first second = absurd first
zip-both P Q R (x ∷ xs) [] on first second = absurd first
zip-both P Q R (x ∷ xs) (y ∷ ys) on first second = (on x y first.0 second.0, zip-both P Q R xs ys on first.1 second.1)

pub zip-long : {A B : Type 0} (R : A → B → Type 0) (xs : List A) (ys : List B) → AllZip R xs ys → length xs ≡ length ys
zip-long R [] [] all = refl
zip-long R [] (b ∷ ys) all = absurd all
zip-long R (a ∷ xs) [] all = absurd all
zip-long R (a ∷ xs) (b ∷ ys) all = omega (arith, zip-long R xs ys all.1)

pub zip-all : {A B : Type 0} (P : B → Type 0) (R S : A → B → Type 0) (xs : List A) (ys : List B) → ((x : A) (y : B) → P y → R x y → S x y) → AllByRecursion P ys → AllZip R xs ys → AllZip S xs ys
zip-all P R S [] [] on all zip = tt
zip-all P R S [] (y ∷ ys) on all zip = absurd zip
zip-all P R S (x ∷ xs) [] on all zip = absurd zip
zip-all P R S (x ∷ xs) (y ∷ ys) on all zip = (on x y all.0 zip.0, zip-all P R S xs ys on all.1 zip.1)

pub zip-at : {A B : Type 0} (R : A → B → Type 0) (xs : List A) (ys : List B) (k : ℕ) (x : A) → AllZip R xs ys → slice_get xs k ≡ Some x → (y : B) × (slice_get ys k ≡ Some y) × R x y
zip-at R [] ys k x all is = cc
zip-at R (a ∷ xs) [] k x all is = absurd all
zip-at R (a ∷ xs) (b ∷ ys) zero x all is = let same : a ≡ x = cc in rw (← same) (b, refl, all.0)
zip-at R (a ∷ xs) (b ∷ ys) (suc k) x all is = zip-at R xs ys k x all.1 is

pub zip-back : {A B : Type 0} (R : A → B → Type 0) (xs : List A) (ys : List B) (k : ℕ) (y : B) → AllZip R xs ys → slice_get ys k ≡ Some y → (x : A) × (slice_get xs k ≡ Some x) × R x y
zip-back R [] [] k y all is = cc
zip-back R [] (b ∷ ys) k y all is = absurd all
zip-back R (a ∷ xs) [] k y all is = cc
zip-back R (a ∷ xs) (b ∷ ys) zero y all is = let same : b ≡ y = cc in rw (← same) (a, refl, all.0)
zip-back R (a ∷ xs) (b ∷ ys) (suc k) y all is = zip-back R xs ys k y all.1 is

pub zip-index : {A B : Type 0} (R S : A → B → Type 0) (xs : List A) (ys : List B) → ((k : ℕ) (x : A) (y : B) → slice_get xs k ≡ Some x → slice_get ys k ≡ Some y → R x y → S x y) → AllZip R xs ys → AllZip S xs ys
zip-index R S [] [] on all = tt
zip-index R S [] (b ∷ ys) on all = absurd all
zip-index R S (a ∷ xs) [] on all = absurd all
zip-index R S (a ∷ xs) (b ∷ ys) on all = (on zero a b refl refl all.0, zip-index R S xs ys (λ k x y. on (suc k) x y) all.1)

pub zip-pair : {A B : Type 0} (R : A → B → Type 0) (xs : List A) (ys : List B) (k : ℕ) (x : A) (y : B) → AllZip R xs ys → slice_get xs k ≡ Some x → slice_get ys k ≡ Some y → R x y
zip-pair R xs ys k x y all is at = let other = zip-at R xs ys k x all is in subst (R x) (same-some other.1 at) other.2
