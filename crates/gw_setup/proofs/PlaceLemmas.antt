-- Places in lists: the first that passes a test, one that does, and a list with one item more.
use Rattle.std.proofs.Common.{◌≡◌, ℕ, zero, suc, ◌+◌, ◌<◌, ◌≤◌, Bool, true, false, cond, Some, None, List, [], ◌∷◌, ◌++◌, length, get_or, inl, inr, refl, sym, ap, ◌∙◌, length-append, arith}
use Rattle.std.specs.Prelude.{◌⊎◌, slice_get, nat_lt}
use Rattle.std.specs.List.{list_all, list_any, position, position_or_len}
use Rattle.std.proofs.lemmas.Bool.{and_parts, ltb-false, or_cases, or_left, or_right, both_ways}
use Rattle.std.proofs.lemmas.List.Quantifiers.{position-Some}
use Rattle.std.proofs.lemmas.List.Sums.{fails_before_first}
use Rattle.std.proofs.lemmas.Option.{get_or_from_slice_get, same_Some, slice_get-get_or, slice_get_within}
use Rattle.gw_setup.specs.Placed.{AreAll, EachAt}

-- an item of a list that passes a test, at its place
pub record Passes {X : Type 0} (p : X → Bool) (xs : List X) (place : ℕ) : Type 0 where
  pub item : X
  pub there : slice_get xs place ≡ Some item
  pub passes : p item ≡ true

none_of_no : {A : Type 0} (b : Bool) (i : A) → cond b (Some i) None ≡ None → b ≡ false
none_of_no true i is = let clash : Some i ≡ None = is in cc
none_of_no false i is = refl

module _ {X : Type 0} (p : X → Bool) where
  pub found_at : (xs : List X) (i : ℕ) → position p xs ≡ Some i → Passes p xs i
  found_at [] i is = let clash : None ≡ Some i = is in cc
  found_at (x ∷ xs) i is =
      let h = position-Some p (x ∷ xs) i x is in
      record { item = get_or (x ∷ xs) i x; there = slice_get-get_or (x ∷ xs) i x h.0; passes = h.1 }

  pub none_at : (xs : List X) → position p xs ≡ None → (k : ℕ) (x : X) → slice_get xs k ≡ Some x → p x ≡ false
  none_at xs is k x there =
      let none : nat_lt (position_or_len p xs) (length xs) ≡ false = none_of_no _ _ is in
      let past : length xs ≤ position_or_len p xs = ltb-false _ _ none in
      let within : k < length xs = slice_get_within xs k x there in
      let fails : p (get_or xs k x) ≡ false = fails_before_first p xs k x (omega (arith, past, within)) in
      rw (← get_or_from_slice_get xs k x x there) fails

  pub any_at : (xs : List X) (k : ℕ) (x : X) → slice_get xs k ≡ Some x → p x ≡ true → list_any p xs ≡ true
  any_at [] k x there is = cc
  any_at (y ∷ ys) zero x there is = let same : y ≡ x = same_Some y x there in or_left (p y) (list_any p ys) (rw same is)
  any_at (y ∷ ys) (suc k) x there is = or_right (p y) (list_any p ys) (any_at ys k x there is)

  later : (y : X) (ys : List X) → (place : ℕ) × Passes p ys place → (place : ℕ) × Passes p (y ∷ ys) place
  later y ys (k, found) = (suc k, record { item = found.item; there = found.there; passes = found.passes })

  pub place_of_any : (xs : List X) → list_any p xs ≡ true → (place : ℕ) × Passes p xs place
  place_of_any [] is = let clash : false ≡ true = is in cc
  place_of_any (y ∷ ys) is = elim (or_cases _ _ is) [
    | inl here ↦ (0, record { item = y; there = refl; passes = here })
    | inr rest ↦ later y ys (place_of_any ys rest)
  ]

  pub some_at : (xs : List X) → list_any p xs ≡ true → position p xs ≡ None → ⊥
  some_at xs is none = let found = place_of_any xs is in both_ways (p found.1.item) (none_at xs none found.0 found.1.item found.1.there) found.1.passes

  pub all_at : (xs : List X) → list_all p xs ≡ true → (k : ℕ) (x : X) → slice_get xs k ≡ Some x → p x ≡ true
  all_at [] is k x there = cc
  all_at (y ∷ ys) is zero x there = let same : y ≡ x = same_Some y x there in rw (← same) (and_parts _ _ is).0
  all_at (y ∷ ys) is (suc k) x there = all_at ys (and_parts _ _ is).1 k x there

module _ {X : Type 0} where
  pub item_at : (xs : List X) (k : ℕ) → k < length xs → (x : X) × (slice_get xs k ≡ Some x)
  item_at [] k within = absurd (omega (arith, within))
  item_at (x ∷ xs) k within = (get_or (x ∷ xs) k x, slice_get-get_or (x ∷ xs) k x within)

  -- what is read at a place of the same list is its item there
  pub read_at : (xs ys : List X) (k : ℕ) (x : X) → ys ≡ xs → k < length xs → x ≡ get_or ys k x → slice_get xs k ≡ Some x
  read_at xs ys k x same within is = slice_get-get_or xs k x within ∙ ap Some (ap (λ l. get_or l k x) (sym same) ∙ sym is)

  -- an item of a longer list is one of the list, or the last
  pub get_pushed : (xs : List X) (last : X) (k : ℕ) (x : X) → slice_get (xs ++ last ∷ []) k ≡ Some x → (slice_get xs k ≡ Some x) ⊎ ((k ≡ length xs) × (last ≡ x))
  get_pushed [] last zero x there = inr (refl, same_Some last x there)
  get_pushed [] last (suc k) x there = cc
  get_pushed (y ∷ ys) last zero x there = inl there
  get_pushed (y ∷ ys) last (suc k) x there = elim (get_pushed ys last k x there) [ inl before ↦ inl before | inr end ↦ inr (ap suc end.0, end.1) ]

  pub get_before : (xs : List X) (last : X) (k : ℕ) (x : X) → slice_get xs k ≡ Some x → slice_get (xs ++ last ∷ []) k ≡ Some x
  get_before [] last k x there = cc
  get_before (y ∷ ys) last zero x there = there
  get_before (y ∷ ys) last (suc k) x there = get_before ys last k x there

  pub get_last : (xs : List X) (last : X) → slice_get (xs ++ last ∷ []) (length xs) ≡ Some last
  get_last [] last = refl
  get_last (y ∷ ys) last = get_last ys last

  pub each_pushed : (P : ℕ → X → Type 0) (xs : List X) (last : X) → EachAt P xs → P (length xs) last → EachAt P (xs ++ last ∷ [])
  each_pushed P xs last each is k x there = elim (get_pushed xs last k x there) [
    | inl before ↦ each k x before
    | inr end ↦ rw (end.0, ← end.1) is
  ]

-- the list has as many items, each right for its place
pub record IsFilled {X : Type 0} (IsRight : ℕ → X → Type 0) (count : ℕ) (items : List X) : Type 0 where
  pub as_many : length items ≡ count
  pub each : EachAt IsRight items

module _ {X : Type 0} (IsRight : ℕ → X → Type 0) where
  pub filled_none : (items : List X) → items ≡ [] → IsFilled IsRight 0 items
  filled_none items empty = rw empty (record { as_many = refl; each = λ k x there. cc })

  pub filled_more : (items longer : List X) (count : ℕ) (item : X) → IsFilled IsRight count items → IsRight count item → longer ≡ items ++ item ∷ [] → IsFilled IsRight (count + 1) longer
  filled_more items longer count item before is same = rw same (record {
    as_many = rw (length-append, before.as_many) refl;
    each = each_pushed IsRight items item before.each (rw before.as_many is);
  })

  pub filled_all : {E : Type 0} (entries : List E) (items : List X) (count : ℕ) → IsFilled IsRight count items → count ≡ length entries → AreAll entries IsRight items
  filled_all entries items count before all = record { as_many = before.as_many ∙ all; each = before.each }
