-- What calls add to one party's list in a view: a writer's sessions, or a destination's readings.
use Rattle.std.proofs.Common.{◌≡◌, ℕ, ◌+◌, ◌<◌, ◌==◌, if◌then◌else◌, zero, suc, Some, List, [], ◌∷◌, ◌++◌, length, map, refl, ap, sym, ◌∙◌, subst, arith, append-nil, append_assoc}
use Rattle.std.specs.Prelude.{slice_get}
use Rattle.std.specs.List.{flat_map}
use Rattle.std.proofs.lemmas.Bool.{ne_eqb}
use Rattle.std.proofs.lemmas.Bool.Decides.{nat_tests}
use Rattle.std.proofs.lemmas.List.{length-append, length-map, map-append}
use Rattle.std.proofs.lemmas.Grind.{flat_map-append}
use Rattle.hub_core.specs.View.{View, Event, change_at, grow, grows}
use Rattle.hub_core.proofs.Growing.{grows-append}

-- the cells of the item with that number; none where there is no such item
abbrev pub cells_at : {A : Type 0} → (A → List ℕ) → ℕ → List A → List ℕ
cells_at cells k [] = []
cells_at cells zero (x ∷ xs) = cells x
cells_at cells (suc k) (x ∷ xs) = cells_at cells k xs

pub cells_at-there : {A : Type 0} (cells : A → List ℕ) (k : ℕ) (xs : List A) (x : A) → slice_get xs k ≡ Some x → cells_at cells k xs ≡ cells x
cells_at-there cells k [] x is = cc
cells_at-there cells zero (y ∷ xs) x is = let same : y ≡ x = cc in ap cells same
cells_at-there cells (suc k) (y ∷ xs) x is = cells_at-there cells k xs x is

cells_at-push : {A : Type 0} (cells : A → List ℕ) (k : ℕ) (xs : List A) (x : A) → cells x ≡ [] → cells_at cells k (xs ++ x ∷ []) ≡ cells_at cells k xs
cells_at-push cells zero [] x none = none
cells_at-push cells (suc k) [] x none = refl
cells_at-push cells zero (y ∷ xs) x none = refl
cells_at-push cells (suc k) (y ∷ xs) x none = cells_at-push cells k xs x none

cells_at-keeps : {A : Type 0} (cells : A → List ℕ) (k seq : ℕ) (f : A → A) (xs : List A) → ((x : A) → cells (f x) ≡ cells x) → cells_at cells k (change_at seq f xs) ≡ cells_at cells k xs
cells_at-keeps cells k seq f [] keeps = refl
cells_at-keeps cells zero zero f (x ∷ xs) keeps = keeps x
cells_at-keeps cells (suc k) zero f (x ∷ xs) keeps = refl
cells_at-keeps cells zero (suc seq) f (x ∷ xs) keeps = refl
cells_at-keeps cells (suc k) (suc seq) f (x ∷ xs) keeps = cells_at-keeps cells k seq f xs keeps

eqb-suc : (a b : ℕ) → (suc a == suc b) ≡ (a == b)
eqb-suc a b = grind (arith, nat_tests)

cells_at-adds : {A : Type 0} (cells : A → List ℕ) (cell k seq : ℕ) (f : A → A) (xs : List A) → ((x : A) → cells (f x) ≡ cells x ++ cell ∷ []) → seq < length xs →
    cells_at cells k (change_at seq f xs) ≡ cells_at cells k xs ++ (if seq == k then cell ∷ [] else [])
cells_at-adds cells cell k seq f [] adds below = absurd (omega (arith, below))
cells_at-adds cells cell zero zero f (x ∷ xs) adds below = adds x
cells_at-adds cells cell (suc k) zero f (x ∷ xs) adds below = rw (ne_eqb 0 (suc k) (λ is. absurd (omega (arith, is)))) (sym (append-nil (cells_at cells k xs)))
cells_at-adds cells cell zero (suc seq) f (x ∷ xs) adds below = rw (ne_eqb (suc seq) 0 (λ is. absurd (omega (arith, is)))) (sym (append-nil (cells x)))
cells_at-adds cells cell (suc k) (suc seq) f (x ∷ xs) adds below = rw (eqb-suc seq k) (cells_at-adds cells cell k seq f xs adds (omega (arith, below)))

map-change_at : {A B : Type 0} (g : A → B) (k : ℕ) (f : A → A) (xs : List A) → ((x : A) → g (f x) ≡ g x) → map g (change_at k f xs) ≡ map g xs
map-change_at g k f [] keeps = refl
map-change_at g zero f (x ∷ xs) keeps = ap (λ y. y ∷ map g xs) (keeps x)
map-change_at g (suc k) f (x ∷ xs) keeps = ap (λ ys. g x ∷ ys) (map-change_at g k f xs keeps)

-- one party's list: what is fixed of an item as it is added, its cells, and what each call adds
pub record Side (A B : Type 0) : Type 0 where
  pub items : View → List A
  pub fixed : A → B
  pub cells : A → List ℕ
  pub fixed_by : Event → List B
  pub cells_by : ℕ → Event → List ℕ

-- what calls added to the list
pub record Fills {A B : Type 0} (side : Side A B) (old new : List A) (calls : List Event) : Type 0 where
  pub fixed : map side.fixed new ≡ map side.fixed old ++ flat_map side.fixed_by calls
  pub cells : (k : ℕ) → cells_at side.cells k new ≡ cells_at side.cells k old ++ flat_map (side.cells_by k) calls

-- calls that do so to every view with so many items
abbrev pub Fill : {A B : Type 0} → Side A B → ℕ → List Event → Type 0
Fill side n calls = (v : View) → length (side.items v) ≡ n → Fills side (side.items v) (side.items (grows calls v)) calls

-- how many items calls add
abbrev pub added : {A B : Type 0} → Side A B → List Event → ℕ
added side calls = length (flat_map side.fixed_by calls)

pub fill-none : {A B : Type 0} (side : Side A B) (n : ℕ) → Fill side n []
fill-none side n v at = record { fixed = sym (append-nil (map side.fixed (side.items v))); cells = λ k. sym (append-nil (cells_at side.cells k (side.items v))) }

pub fill-join : {A B : Type 0} (side : Side A B) (n m : ℕ) (calls more : List Event) → m ≡ n + added side calls → Fill side n calls → Fill side m more → Fill side n (calls ++ more)
fill-join side n m calls more is first second v at =
    let one = first v at in
    let count : length (side.items (grows calls v)) ≡ m =
    omega (arith, at, is, ap length one.fixed, length-append (map side.fixed (side.items v)) (flat_map side.fixed_by calls), length-map (side.items v) side.fixed, length-map (side.items (grows calls v)) side.fixed) in
    let two = second (grows calls v) count in
    let P : View → Type 0 = λ w. Fills side (side.items v) (side.items w) (calls ++ more) in
    subst P (sym (grows-append calls more v)) (record {
      fixed = two.fixed ∙ ap (λ l. l ++ flat_map side.fixed_by more) one.fixed ∙ append_assoc (map side.fixed (side.items v)) (flat_map side.fixed_by calls) (flat_map side.fixed_by more)
          ∙ ap (λ l. map side.fixed (side.items v) ++ l) (sym (flat_map-append side.fixed_by calls more));
      cells = λ k. two.cells k ∙ ap (λ l. l ++ flat_map (side.cells_by k) more) (one.cells k) ∙ append_assoc (cells_at side.cells k (side.items v)) (flat_map (side.cells_by k) calls) (flat_map (side.cells_by k) more)
          ∙ ap (λ l. cells_at side.cells k (side.items v) ++ l) (sym (flat_map-append (side.cells_by k) calls more));
    })

-- a call that leaves the list
pub fill-same : {A B : Type 0} (side : Side A B) (n : ℕ) (call : Event) → side.fixed_by call ≡ [] → ((k : ℕ) → side.cells_by k call ≡ []) → ((v : View) → side.items (grow call v) ≡ side.items v) → Fill side n (call ∷ [])
fill-same side n call lens cells same v at = record {
  fixed = rw (lens, same v) (sym (append-nil (map side.fixed (side.items v))));
  cells = λ k. rw (cells k, same v) (sym (append-nil (cells_at side.cells k (side.items v))));
}

-- a call that changes an item, but not its length and cells
pub fill-changes : {A B : Type 0} (side : Side A B) (n seq : ℕ) (call : Event) (f : A → A) → side.fixed_by call ≡ [] → ((k : ℕ) → side.cells_by k call ≡ []) → ((v : View) → side.items (grow call v) ≡ change_at seq f (side.items v)) →
    ((x : A) → side.fixed (f x) ≡ side.fixed x) → ((x : A) → side.cells (f x) ≡ side.cells x) → Fill side n (call ∷ [])
fill-changes side n seq call f lens cells same len kept v at = record {
  fixed = rw (lens, same v) (map-change_at side.fixed seq f (side.items v) len ∙ sym (append-nil (map side.fixed (side.items v))));
  cells = λ k. rw (cells k, same v) (cells_at-keeps side.cells k seq f (side.items v) kept ∙ sym (append-nil (cells_at side.cells k (side.items v))));
}

-- a call that adds a cell to an item
pub fill-adds : {A B : Type 0} (side : Side A B) (n seq cell : ℕ) (call : Event) (f : A → A) → side.fixed_by call ≡ [] → ((k : ℕ) → side.cells_by k call ≡ (if seq == k then cell ∷ [] else [])) → ((v : View) → side.items (grow call v) ≡ change_at seq f (side.items v)) →
    ((x : A) → side.fixed (f x) ≡ side.fixed x) → ((x : A) → side.cells (f x) ≡ side.cells x ++ cell ∷ []) → seq < n → Fill side n (call ∷ [])
fill-adds side n seq cell call f lens cells same len more below v at = record {
  fixed = rw (lens, same v) (map-change_at side.fixed seq f (side.items v) len ∙ sym (append-nil (map side.fixed (side.items v))));
  cells = λ k. rw (cells k, same v, append-nil) (cells_at-adds side.cells cell k seq f (side.items v) more (omega (arith, at, below)));
}

-- a call that adds an item with no cells
pub fill-pushes : {A B : Type 0} (side : Side A B) (n : ℕ) (call : Event) (x : A) → side.fixed_by call ≡ side.fixed x ∷ [] → ((k : ℕ) → side.cells_by k call ≡ []) → ((v : View) → side.items (grow call v) ≡ side.items v ++ x ∷ []) → side.cells x ≡ [] → Fill side n (call ∷ [])
fill-pushes side n call x lens cells same none v at = record {
  fixed = rw (lens, same v) (map-append side.fixed (side.items v) (x ∷ []));
  cells = λ k. rw (cells k, same v) (cells_at-push side.cells k (side.items v) x none ∙ sym (append-nil (cells_at side.cells k (side.items v))));
}
