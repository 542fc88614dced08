-- Lists of one item.
use Rattle.std.proofs.Common.{◌≡◌, ℕ, ◌+◌, zero, suc, List, [], ◌∷◌, ◌++◌, Some, None, arith, subst}
use Rattle.std.specs.Prelude.{slice_get}

-- the one item of a list
pub alone : {A : Type 0} (x y : A) (place : ℕ) → slice_get (x ∷ []) place ≡ Some y → x ≡ y
alone x y zero there = cc
alone x y (suc place) there = absurd (let none : None ≡ Some y = there in cc)

-- there is no second one
pub no-second : {A : Type 0} (x y : A) (place : ℕ) → slice_get (x ∷ []) (place + 1) ≡ Some y → ⊥
no-second {A} x y place there =
    let next : place + 1 ≡ suc place = omega arith in
    let none : None ≡ Some y = subst (λ (k : ℕ). slice_get (x ∷ []) k ≡ Some y) next there in
    cc

-- nothing is in a list of none
pub nothing-among : {A : Type 0} (before : List A) (y : A) (after : List A) → [] ≡ before ++ y ∷ after → ⊥
nothing-among [] y after among = cc
nothing-among (first ∷ more) y after among = cc

-- nothing stands after it
pub none-after : {A : Type 0} (x : A) (before : List A) (y : A) (after : List A) → x ∷ [] ≡ before ++ y ∷ after → after ≡ []
none-after x [] y after among = cc
none-after x (first ∷ []) y after among = absurd (let none : [] ≡ y ∷ after = cc in cc)
none-after x (first ∷ next ∷ more) y after among = absurd (let none : [] ≡ next ∷ more ++ y ∷ after = cc in cc)

-- and it is that item
pub alone-among : {A : Type 0} (x : A) (before : List A) (y : A) (after : List A) → x ∷ [] ≡ before ++ y ∷ after → x ≡ y
alone-among x [] y after among = cc
alone-among x (first ∷ []) y after among = absurd (let none : [] ≡ y ∷ after = cc in cc)
alone-among x (first ∷ next ∷ more) y after among = absurd (let none : [] ≡ next ∷ more ++ y ∷ after = cc in cc)
