-- Numbers and lists of all seats, added up, as one seat's change.
use Rattle.std.proofs.Common.{◌≡◌, ◌≢◌, ℕ, zero, suc, ◌+◌, ◌<◌, ◌≤◌, ◌⊎◌, inl, inr, List, [], ◌∷◌, ◌++◌, length, set, refl, ap, sym, subst, arith}
use mathlib.Core.Option.{some}
use lib.ListN.{get_elem?}
use Rattle.atomic_table.proofs.Lists.{at_set}
use Rattle.hub_shared.specs.Counts.{weigh, total, AreDealt}
use Rattle.hub_shared.specs.declared.sight.Sight.{Sight}

-- what holds of each view
abbrev pub OfEach : (ℕ → Sight → Type 0) → List Sight → Type 0
OfEach P views = (id : ℕ) (v : Sight) → get_elem? views id ≡ some v → P id v

pub each-set : (P : ℕ → Sight → Type 0) (views : List Sight) (id : ℕ) (w : Sight) → P id w → ((j : ℕ) (u : Sight) → j ≢ id → get_elem? views j ≡ some u → P j u) → OfEach P (set views id w)
each-set P views id w mine others j u e = elim (at_set views id j w u e) [
  | inl same ↦ subst (λ (y : ℕ × Sight). P y.0 y.1) (λ i. (sym same.0 i, same.1 i)) mine
  | inr other ↦ others j u other.0 other.1
]

pub each-added : (P : ℕ → Sight → Type 0) (views : List Sight) (w : Sight) → ((j : ℕ) → P j w) → OfEach P views → OfEach P (views ++ w ∷ [])
each-added P views w mine all j u e = elim (last-or views w u j e) [
  | inl same ↦ subst (P j) same (mine j)
  | inr was ↦ all j u was
]
  where
    last-or : (l : List Sight) (a b : Sight) (j : ℕ) → get_elem? (l ++ a ∷ []) j ≡ some b → (a ≡ b) ⊎ (get_elem? l j ≡ some b)
    last-or [] a b zero e = inl (mathlib.Core.Option.some-injective a b e)
    last-or [] a b (suc j) e = absurd cc
    last-or (x ∷ xs) a b zero e = inr e
    last-or (x ∷ xs) a b (suc j) e = last-or xs a b j e

pub there : (views : List Sight) (id : ℕ) (v : Sight) → get_elem? views id ≡ some v → id < length views
there [] id v e = absurd cc
there (u ∷ views) zero v e = omega arith
there (u ∷ views) (suc id) v e = let h = there views id v e in omega (arith, h)

-- sums
pub total-set : (f : Sight → ℕ) (views : List Sight) (id : ℕ) (v w : Sight) → get_elem? views id ≡ some v → total f (set views id w) + f v ≡ total f views + f w
total-set f [] id v w e = absurd cc
total-set f (u ∷ views) zero v w e = let same : u ≡ v = cc in omega (arith, ap f same)
total-set f (u ∷ views) (suc id) v w e = let h = total-set f views id v w e in omega (arith, h)

pub total-part : (f : Sight → ℕ) (views : List Sight) (id : ℕ) (v : Sight) → get_elem? views id ≡ some v → f v ≤ total f views
total-part f [] id v e = absurd cc
total-part f (u ∷ views) zero v e = let same : u ≡ v = cc in omega (arith, ap f same)
total-part f (u ∷ views) (suc id) v e = let h = total-part f views id v e in omega (arith, h)

pub total-two : (f : Sight → ℕ) (views : List Sight) (id other : ℕ) (v u : Sight) → id ≢ other → get_elem? views id ≡ some v → get_elem? views other ≡ some u → f v + f u ≤ total f views
total-two f [] id other v u ne e d = absurd cc
total-two f (x ∷ views) zero zero v u ne e d = absurd (ne refl)
total-two f (x ∷ views) zero (suc other) v u ne e d = let same : x ≡ v = cc in let h = total-part f views other u d in omega (arith, ap f same, h)
total-two f (x ∷ views) (suc id) zero v u ne e d = let same : x ≡ u = cc in let h = total-part f views id v e in omega (arith, ap f same, h)
total-two f (x ∷ views) (suc id) (suc other) v u ne e d = let h = total-two f views id other v u (λ s. ne (ap suc s)) e d in omega (arith, h)

pub total-added : (f : Sight → ℕ) (views : List Sight) (v : Sight) → total f (views ++ v ∷ []) ≡ total f views + f v
total-added f [] v = omega arith
total-added f (u ∷ views) v = let h = total-added f views v in omega (arith, h)

-- where one view has all of a number, another number is 0 in the other views as soon as it is 0 in each that has nothing
pub total-alone : (f g : Sight → ℕ) (views : List Sight) (id : ℕ) (v : Sight) → get_elem? views id ≡ some v → total g views ≡ g v → ((j : ℕ) (u : Sight) → get_elem? views j ≡ some u → g u ≡ 0 → f u ≡ 0) → total f views ≡ f v
total-alone f g [] id v e all none = absurd cc
total-alone f g (u ∷ views) zero v e all none =
    let same : u ≡ v = cc in
    let rest = nothing views (omega (arith, all, ap g same)) (λ j w at. none (suc j) w at) in
    omega (arith, rest, ap f same)
  where
    nothing : (views : List Sight) → total g views ≡ 0 → ((j : ℕ) (u : Sight) → get_elem? views j ≡ some u → g u ≡ 0 → f u ≡ 0) → total f views ≡ 0
    nothing [] all none = refl
    nothing (u ∷ views) all none =
        let rest = nothing views (omega (arith, all)) (λ j w at. none (suc j) w at) in
        let one = none 0 u refl (omega (arith, all)) in
        omega (arith, rest, one)
total-alone f g (u ∷ views) (suc id) v e all none =
    let part = total-part g views id v e in
    let rest = total-alone f g views id v e (omega (arith, all, part)) (λ j w at. none (suc j) w at) in
    let one = none 0 u refl (omega (arith, all, part)) in
    omega (arith, rest, one)

-- lists that are weighed
pub weigh-append : {A : Type 0} (h : A → ℕ) (xs ys : List A) → weigh h (xs ++ ys) ≡ weigh h xs + weigh h ys
weigh-append h [] ys = omega arith
weigh-append h (x ∷ xs) ys = let rest = weigh-append h xs ys in omega (arith, rest)

-- a seat adds to its list what comes to the whole
pub dealt-more : {A : Type 0} (own : Sight → List A) (whole more : List A) (views : List Sight) (id : ℕ) (v w : Sight) → get_elem? views id ≡ some v → own w ≡ own v ++ more → AreDealt own whole views → AreDealt own (whole ++ more) (set views id w)
dealt-more own whole more views id v w at is dealt h =
    let t = total-set (λ u. weigh h (own u)) views id v w at in
    omega (arith, t, dealt h, ap (weigh h) is, weigh-append h (own v) more, weigh-append h whole more)

pub dealt-same : {A : Type 0} (own : Sight → List A) (whole : List A) (views : List Sight) (id : ℕ) (v w : Sight) → get_elem? views id ≡ some v → own w ≡ own v → AreDealt own whole views → AreDealt own whole (set views id w)
dealt-same own whole views id v w at is dealt h = let t = total-set (λ u. weigh h (own u)) views id v w at in omega (arith, t, dealt h, ap (weigh h) is)

-- a seat is divided, and keeps the list
pub dealt-divided : {A : Type 0} (own : Sight → List A) (whole : List A) (views : List Sight) (id : ℕ) (v l r : Sight) → get_elem? views id ≡ some v → own l ≡ own v → own r ≡ [] → AreDealt own whole views → AreDealt own whole (set views id l ++ r ∷ [])
dealt-divided own whole views id v l r at is none dealt h =
    let t = total-set (λ u. weigh h (own u)) views id v l at in
    let n = total-added (λ u. weigh h (own u)) (set views id l) r in
    omega (arith, t, n, dealt h, ap (weigh h) is, ap (weigh h) none)

-- a seat takes in another, which has nothing any more
pub dealt-joined : {A : Type 0} (own : Sight → List A) (whole : List A) (views : List Sight) (id other : ℕ) (v w b gone : Sight) → get_elem? views id ≡ some v → get_elem? (set views id b) other ≡ some w → own b ≡ own v ++ own w → own gone ≡ [] →
    AreDealt own whole views → AreDealt own whole (set (set views id b) other gone)
dealt-joined own whole views id other v w b gone at found is none dealt h =
    let t = total-set (λ u. weigh h (own u)) views id v b at in
    let n = total-set (λ u. weigh h (own u)) (set views id b) other w gone found in
    omega (arith, t, n, dealt h, ap (weigh h) is, weigh-append h (own v) (own w), ap (weigh h) none)
