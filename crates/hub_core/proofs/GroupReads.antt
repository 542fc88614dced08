-- What code reads of groups of buffers, whose cells lie in one list, group after group.
use Rattle.std.proofs.Common.{◌≡◌, ℕ, ◌+◌, ◌-◌, ◌<◌, ◌≤◌, List, length, take, drop, Some, All, ap, sym, ◌∙◌, arith}
use Rattle.std.specs.Prelude.{slice_get, get_or, sum}
use Rattle.std.proofs.lemmas.Option.{get_or_from_slice_get}
use Rattle.gw_base.proofs.Lists.{there-at}
use Rattle.hub_core.proofs.Cut.{all-cut, groups-cut, group-cut, count-cut, buffer-cut, few-buffers, size-in, last-within, all-there}
use Rattle.hub_core.specs.Calls.{IsBufferOf}
use Rattle.hub_core.specs.Groups.{first_of, group_of, grouped, place_of, sizes_of}

module _ (counts cells : List ℕ) (few : length counts ≤ 4) (buffers : All (λ n. (1 ≤ n) × (n ≤ 32)) counts) (all : sum counts ≡ length cells) where
  abbrev groups : List (List ℕ)
  groups = grouped counts cells

  pub few-cells : length cells ≤ 128
  few-cells = few-buffers counts cells few buffers all

  low : (group : ℕ) → group < length groups → group < length counts
  low group there = omega (arith, there, groups-cut counts cells)

  -- a group's buffers
  pub cells-of : (group : ℕ) → group < length groups → sizes_of groups group ≡ take (length (sizes_of groups group)) (drop (first_of counts group) cells)
  cells-of group there = group-cut counts cells group (low group there) ∙ ap (λ (n : ℕ). take n (drop (first_of counts group) cells)) (sym (count-cut counts cells group (low group there) all))

  pub buffer-at : (group place : ℕ) → group < length groups → place < length (sizes_of groups group) → (group_of groups (first_of counts group + place) ≡ group) × (place_of groups (first_of counts group + place) ≡ place)
  buffer-at group place there below = buffer-cut counts cells group place (omega (arith, all)) (omega (arith, below, count-cut counts cells group (low group there) all))

  pub is-buffer : (group buf size : ℕ) → group_of groups buf ≡ group → slice_get cells buf ≡ Some size → IsBufferOf groups group buf size
  is-buffer group buf size its is =
      (its, ap (λ (g : ℕ). slice_get (sizes_of groups g) (place_of groups buf)) (sym its) ∙ size-in groups buf ∙ ap (λ (l : List ℕ). slice_get l buf) (all-cut counts cells all) ∙ is)

  -- what the code reads of a group's buffers
  pub read-cells : (group first last : ℕ) (items : List ℕ) → group < length groups → first ≡ first_of counts group → last ≡ first + length (sizes_of groups group) → items ≡ cells →
      take (last - first) (drop first items) ≡ sizes_of groups group
  read-cells group first last items there begin end same =
      let long : last - first ≡ length (sizes_of groups group) = omega (arith, end) in
      (λ i. take (long i) (drop (begin i) (same i))) ∙ sym (cells-of group there)

  pub few-in : (group : ℕ) → group < length groups → length (sizes_of groups group) ≤ 32
  few-in group there =
      let item = there-at counts group (low group there) in
      omega (arith, (all-there (λ n. (1 ≤ n) × (n ≤ 32)) counts group item.0 buffers item.1).1, get_or_from_slice_get counts group item.0 0 item.1, count-cut counts cells group (low group there) all)

  pub read-count : (group i count : ℕ) → group < length groups → i ≡ group → count ≡ get_or counts i count → count ≡ length (sizes_of groups group)
  read-count group i count there same read =
      let item = there-at counts group (low group there) in
      read ∙ get_or_from_slice_get counts i item.0 count (ap (slice_get counts) same ∙ item.1) ∙ sym (get_or_from_slice_get counts group item.0 0 item.1) ∙ sym (count-cut counts cells group (low group there) all)

  pub within-cells : (group : ℕ) → group < length groups → first_of counts group + length (sizes_of groups group) ≤ length cells
  within-cells group there = omega (arith, count-cut counts cells group (low group there) all, last-within counts cells group (low group there) all)

  -- a buffer of a group, by the group's first one
  pub buffer-by : (group first place : ℕ) → group < length groups → first ≡ first_of counts group → place < length (sizes_of groups group) → (group_of groups (first + place) ≡ group) × (place_of groups (first + place) ≡ place)
  buffer-by group first place there begin below =
      let its = buffer-at group place there below in
      (ap (λ (f : ℕ). group_of groups (f + place)) begin ∙ its.0, ap (λ (f : ℕ). place_of groups (f + place)) begin ∙ its.1)
