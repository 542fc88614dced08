-- The cuts of a list that grows by one item.
use Rattle.std.proofs.Common.{◌≡◌, Bool, true, false, cond, List, [], ◌∷◌, ◌++◌, refl, ap, sym, ◌∙◌, append-nil, append_assoc}
use Rattle.std.specs.List.{AllByRecursion, AllZip}
use Rattle.tp_attempts.specs.Cuts.{Cut, before_start, cuts}

-- the last cut with one more item
abbrev pub grow_after : {T : Type 0} → T → Cut T → List (Cut T) → List (Cut T)
grow_after x cut [] = record { start = cut.start; after = cut.after ++ x ∷ [] } ∷ []
grow_after x cut (next ∷ later) = cut ∷ grow_after x next later

abbrev pub grow : {T : Type 0} → T → List (Cut T) → List (Cut T)
grow x [] = []
grow x (cut ∷ later) = grow_after x cut later

pub grow-last : {T : Type 0} (x : T) (earlier : List (Cut T)) (cut : Cut T) → grow x (earlier ++ cut ∷ []) ≡ earlier ++ record { start = cut.start; after = cut.after ++ x ∷ [] } ∷ []
grow-last x [] cut = refl
grow-last x (first ∷ []) cut = refl
grow-last x (first ∷ next ∷ earlier) cut = ap (λ later. first ∷ later) (grow-last x (next ∷ earlier) cut)

-- a start ends what stood before it, and is cut with what follows it
pub before_start-at : {T : Type 0} (starts : T → Bool) (xs : List T) (x : T) (ys : List T) → starts x ≡ true → before_start starts (xs ++ x ∷ ys) ≡ before_start starts xs
before_start-at starts [] x ys is = rw is refl
before_start-at starts (z ∷ zs) x ys is = rw (before_start-at starts zs x ys is) refl

pub cuts-at : {T : Type 0} (starts : T → Bool) (xs : List T) (x : T) (ys : List T) → starts x ≡ true → cuts starts (xs ++ x ∷ ys) ≡ cuts starts xs ++ record { start = x; after = before_start starts ys } ∷ cuts starts ys
cuts-at starts [] x ys is = rw is refl
cuts-at starts (z ∷ zs) x ys is =
    rw (before_start-at starts zs x ys is, cuts-at starts zs x ys is)
    (elim (starts z) as (λ b. cond b (record { start = z; after = before_start starts zs } ∷ (cuts starts zs ++ record { start = x; after = before_start starts ys } ∷ cuts starts ys)) (cuts starts zs ++ record { start = x; after = before_start starts ys } ∷ cuts starts ys)
    ≡ cond b (record { start = z; after = before_start starts zs } ∷ cuts starts zs) (cuts starts zs) ++ record { start = x; after = before_start starts ys } ∷ cuts starts ys) [ true ↦ refl | false ↦ refl ])

pub cuts-begin : {T : Type 0} (starts : T → Bool) (xs : List T) (x : T) → starts x ≡ true → cuts starts (xs ++ x ∷ []) ≡ cuts starts xs ++ record { start = x; after = [] } ∷ []
cuts-begin starts xs x is = cuts-at starts xs x [] is

-- each cut's start is a start
starts-by : {T : Type 0} (starts : T → Bool) (x : T) (xs : List T) (b : Bool) → starts x ≡ b → AllByRecursion (λ (cut : Cut T). starts cut.start ≡ true) (cuts starts xs) →
    AllByRecursion (λ (cut : Cut T). starts cut.start ≡ true) (cuts starts (x ∷ xs))
starts-by starts x xs true is later = rw is (is, later)
starts-by starts x xs false is later = rw is later

pub cuts-starts : {T : Type 0} (starts : T → Bool) (xs : List T) → AllByRecursion (λ (cut : Cut T). starts cut.start ≡ true) (cuts starts xs)
cuts-starts starts [] = tt
cuts-starts starts (x ∷ xs) = starts-by starts x xs (starts x) refl (cuts-starts starts xs)

-- another item belongs to the last cut
grow_after-before : {T : Type 0} (starts : T → Bool) (x : T) → starts x ≡ false → (y : T) (front ys : List T) →
    grow_after x (record { start = y; after = front ++ before_start starts ys }) (cuts starts ys) ≡ record { start = y; after = front ++ before_start starts (ys ++ x ∷ []) } ∷ grow x (cuts starts ys)
grow_after-before starts x is y front [] = rw (is, append-nil) refl
grow_after-before starts x is y front (z ∷ zs) =
    elim (starts z) as (λ b. grow_after x (record { start = y; after = front ++ cond b [] (z ∷ before_start starts zs) }) (cond b (record { start = z; after = before_start starts zs } ∷ cuts starts zs) (cuts starts zs))
    ≡ record { start = y; after = front ++ cond b [] (z ∷ before_start starts (zs ++ x ∷ [])) } ∷ grow x (cond b (record { start = z; after = before_start starts zs } ∷ cuts starts zs) (cuts starts zs)))
    [ true ↦ refl | false ↦ simp append_assoc at (grow_after-before starts x is y (front ++ z ∷ []) zs) ]

pub cuts-grow : {T : Type 0} (starts : T → Bool) (xs : List T) (x : T) → starts x ≡ false → cuts starts (xs ++ x ∷ []) ≡ grow x (cuts starts xs)
cuts-grow starts [] x is = rw is refl
cuts-grow starts (y ∷ ys) x is =
    rw (cuts-grow starts ys x is)
    (elim (starts y) as (λ b. cond b (record { start = y; after = before_start starts (ys ++ x ∷ []) } ∷ grow x (cuts starts ys)) (grow x (cuts starts ys)) ≡ grow x (cond b (record { start = y; after = before_start starts ys } ∷ cuts starts ys) (cuts starts ys)))
    [ true ↦ sym (grow_after-before starts x is y [] ys) | false ↦ refl ])

-- where there is a last cut, and where there is none
pub cuts-more : {T : Type 0} (starts : T → Bool) (xs : List T) (x : T) (earlier : List (Cut T)) (cut : Cut T) → starts x ≡ false → cuts starts xs ≡ earlier ++ cut ∷ [] →
    cuts starts (xs ++ x ∷ []) ≡ earlier ++ record { start = cut.start; after = cut.after ++ x ∷ [] } ∷ []
cuts-more starts xs x earlier cut is are = cuts-grow starts xs x is ∙ ap (grow x) are ∙ grow-last x earlier cut

pub cuts-none : {T : Type 0} (starts : T → Bool) (xs : List T) (x : T) → starts x ≡ false → cuts starts xs ≡ [] → cuts starts (xs ++ x ∷ []) ≡ []
cuts-none starts xs x is none = cuts-grow starts xs x is ∙ ap (grow x) none

-- the last transmission has one frame more
zip-after : {T B : Type 0} (P : Cut T → B → Type 0) (x : T) (cut : Cut T) (cuts : List (Cut T)) (ys : List B) →
    ((c : Cut T) (y : B) → P c y → P (record { start = c.start; after = c.after ++ x ∷ [] }) y) → AllZip P (cut ∷ cuts) ys → AllZip P (grow_after x cut cuts) ys
zip-after P x cut cuts [] on all = absurd all
zip-after P x cut [] (y ∷ ys) on all = (on cut y all.0, all.1)
zip-after P x cut (next ∷ cuts) (y ∷ ys) on all = (all.0, zip-after P x next cuts ys on all.1)

pub zip-grow : {T B : Type 0} (P : Cut T → B → Type 0) (x : T) (cuts : List (Cut T)) (ys : List B) →
    ((c : Cut T) (y : B) → P c y → P (record { start = c.start; after = c.after ++ x ∷ [] }) y) → AllZip P cuts ys → AllZip P (grow x cuts) ys
zip-grow P x [] ys on all = all
zip-grow P x (cut ∷ cuts) ys on all = zip-after P x cut cuts ys on all
