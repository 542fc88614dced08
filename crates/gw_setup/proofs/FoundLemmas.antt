-- What is found for the channels of a configuration one after another, in their order.
use Rattle.std.proofs.Common.{◌≡◌, ℕ, ◌+◌, ◌<◌, Option, Some, None, List, [], ◌∷◌, ◌++◌, length, get_or, inl, inr, append-nil, arith}
use Rattle.std.specs.Prelude.{slice_get, AllPairs, option_to_list}
use Rattle.std.proofs.lemmas.Bool.{cases_lt}
use Rattle.std.proofs.lemmas.List.Quantifiers.{all_pairs_push}
use Rattle.std.proofs.lemmas.Option.{slice_get-get_or}
use Rattle.gw_setup.specs.Placed.{EachAt}
use Rattle.gw_setup.proofs.PlaceLemmas.{each_pushed, get_before, get_last}

-- an item for the key is among these
pub record HasOf {X K : Type 0} (IsOf : X → K → Type 0) (items : List X) (key : K) : Type 0 where
  pub place : ℕ
  pub item : X
  pub there : slice_get items place ≡ Some item
  pub is_of : IsOf item key

-- what is found for the channel of a number: nothing where no key leads to it, or else the item of each key that does
abbrev pub FoundAt : {X K : Type 0} → (X → Type 0) → (X → ℕ) → (X → K → Type 0) → (ℕ → K → Type 0) → ℕ → Option X → Type 0
FoundAt {X} {K} IsRight chan_of IsOf Leads number None = (key : K) → Leads number key → ⊥
FoundAt {X} {K} IsRight chan_of IsOf Leads number (Some item) = IsRight item × (chan_of item ≡ number) × ((key : K) → Leads number key → IsOf item key)

-- what was found for the channels of the first numbers
pub record AreFound {X K : Type 0} (IsRight : X → Type 0) (chan_of : X → ℕ) (IsOf : X → K → Type 0) (Leads : ℕ → K → Type 0) (count : ℕ) (items : List X) : Type 0 where
  pub each : EachAt (λ place. IsRight) items
  pub below : EachAt (λ place item. chan_of item < count) items
  pub every : (number : ℕ) (key : K) → number < count → Leads number key → HasOf IsOf items key
  pub in_order : AllPairs (λ one other. chan_of one < chan_of other) items

module _ {X K : Type 0} (IsRight : X → Type 0) (chan_of : X → ℕ) (IsOf : X → K → Type 0) (Leads : ℕ → K → Type 0) where
  pub found_none : (items : List X) → items ≡ [] → AreFound IsRight chan_of IsOf Leads 0 items
  found_none items empty = rw empty (record {
    each = λ k x there. cc;
    below = λ k x there. cc;
    every = λ number key within leads. absurd (omega (arith, within));
    in_order = λ i j d before within. absurd (omega (arith, before, within));
  })

  kept : (items : List X) (last : X) (key : K) → HasOf IsOf items key → HasOf IsOf (items ++ last ∷ []) key
  kept items last key has = record { place = has.place; item = has.item; there = get_before items last has.place has.item has.there; is_of = has.is_of }

  below_next : (count : ℕ) (items : List X) → EachAt (λ place item. chan_of item < count) items → EachAt (λ place item. chan_of item < count + 1) items
  below_next count items below k x there = let less : chan_of x < count = below k x there in omega (arith, less)

  -- the number is one of the first, or the next
  next_case : (number count : ℕ) (P : Type 0) → number < count + 1 → (number < count → P) → (number ≡ count → P) → P
  next_case number count P within before here = elim (cases_lt number count) [ inl less ↦ before less | inr more ↦ here (omega (arith, within, more)) ]

  found_nothing : (items : List X) (count : ℕ) → AreFound IsRight chan_of IsOf Leads count items → ((key : K) → Leads count key → ⊥) → AreFound IsRight chan_of IsOf Leads (count + 1) items
  found_nothing items count so_far none = record {
    each = so_far.each;
    below = below_next count items so_far.below;
    every = λ number key within leads.
        next_case number count (HasOf IsOf items key) within (λ less. so_far.every number key less leads)
        (λ same. absurd (none key (rw (← same) leads)));
    in_order = so_far.in_order;
  }

  found_item : (items : List X) (count : ℕ) (item : X) → AreFound IsRight chan_of IsOf Leads count items → IsRight item → chan_of item ≡ count →
      ((key : K) → Leads count key → IsOf item key) → AreFound IsRight chan_of IsOf Leads (count + 1) (items ++ item ∷ [])
  found_item items count item so_far right number_is is_of = record {
    each = each_pushed (λ place. IsRight) items item so_far.each right;
    below = each_pushed (λ place x. chan_of x < count + 1) items item (below_next count items so_far.below) (omega (arith, number_is));
    every = λ number key within leads.
        next_case number count (HasOf IsOf (items ++ item ∷ []) key) within (λ less. kept items item key (so_far.every number key less leads))
        (λ same. record { place = length items; item = item; there = get_last items item; is_of = is_of key (rw (← same) leads) });
    in_order = all_pairs_push (λ one other. chan_of one < chan_of other) items item so_far.in_order
        (λ k d within. let less : chan_of (get_or items k d) < count = so_far.below k (get_or items k d) (slice_get-get_or items k d within) in omega (arith, less, number_is));
  }

  pub found_more : (items longer : List X) (count : ℕ) (found : Option X) → AreFound IsRight chan_of IsOf Leads count items → FoundAt IsRight chan_of IsOf Leads count found →
      longer ≡ items ++ option_to_list found → AreFound IsRight chan_of IsOf Leads (count + 1) longer
  found_more items longer count None so_far none same = rw (same, append-nil) (found_nothing items count so_far none)
  found_more items longer count (Some item) so_far is same = rw same (found_item items count item so_far is.0 is.1 is.2)
