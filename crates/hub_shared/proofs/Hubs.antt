-- What a hub keeps of its memory, named by the hub.
use Rattle.std.proofs.Common.{◌≡◌, ℕ, ◌+◌, ◌-◌, ◌<◌, ◌≤◌, List, length, take, drop, Some, subst, ap, arith, sym, ◌∙◌}
use Rattle.std.specs.Prelude.{get_or, slice_get}
use Rattle.std.specs.Vec.{vec_len}
use Rattle.hub_core.proofs.Cut.{all-cut, count-cut, groups-cut, there-cut}
use Rattle.hub_core.proofs.GroupReads.{few-cells, is-buffer, read-cells, few-in, read-count, within-cells, buffer-by}
use Rattle.hub_core.specs.Calls.{IsBufferOf}
use Rattle.hub_core.specs.Groups.{all_sizes, first_of, group_of, grouped, place_of, sizes_of}
use Rattle.hub_layout.proofs.Places.{within}
use Rattle.hub_layout.specs.Places.{IsThere, Place, place_at, words_in}
use Rattle.hub_shared.specs.Cards.{place_of_word}
use Rattle.hub_shared.specs.Seats.{groups_of}
use Rattle.hub_shared.specs.declared.hub.SharedHub.{SharedHub}

module _ (hub : SharedHub) where
  -- the groups of the rule
  abbrev pub of_rule : List (List ℕ)
  of_rule = grouped hub.table.shared.key.counts.items hub.table.shared.key.cells.items

  pub rule-groups : of_rule ≡ groups_of hub
  rule-groups = ap (λ b. grouped b.counts.items b.cells.items) hub.key

  pub groups-long : length (groups_of hub) ≡ length hub.buffers.counts.items
  groups-long = groups-cut hub.buffers.counts.items hub.buffers.cells.items

  -- there is a first word, and one for each group
  pub words-there : 0 < hub.table.shared.table_id.words
  words-there = omega (arith, hub.wide, hub.pool.some)

  pub first-there : 0 < length of_rule
  first-there = omega (arith, ap (λ (l : List (List ℕ)). length l) rule-groups, groups-long, hub.pool.some)

  pub word-there : (group i : ℕ) → group < length (groups_of hub) → i ≡ group → i < hub.table.shared.table_id.words
  word-there group i there same = omega (arith, there, same, groups-long, hub.wide)

  pub in-rule : (group i : ℕ) → group < length (groups_of hub) → i ≡ group → i < length of_rule
  in-rule group i there same = omega (arith, there, same, ap (λ (l : List (List ℕ)). length l) rule-groups)

  pub in-layout : (group : ℕ) → group < length (groups_of hub) → group < hub.layout.groups
  in-layout group there = omega (arith, there, groups-long, ap (λ (l : Rattle.hub_layout.specs.Pool.Pool). l.groups) hub.laid)

  -- what the code reads of a group's buffers
  abbrev counts : List ℕ
  counts = hub.buffers.counts.items

  abbrev cells : List ℕ
  cells = hub.buffers.cells.items

  pub cells-few : length cells ≤ 128
  cells-few = few-cells counts cells hub.pool.few hub.pool.groups_are hub.pool.all

  pub group-few : (group : ℕ) → group < length (groups_of hub) → length (sizes_of (groups_of hub) group) ≤ 32
  group-few = few-in counts cells hub.pool.few hub.pool.groups_are hub.pool.all

  pub group-within : (group : ℕ) → group < length (groups_of hub) → first_of counts group + length (sizes_of (groups_of hub) group) ≤ length cells
  group-within = within-cells counts cells hub.pool.few hub.pool.groups_are hub.pool.all

  pub count-at : (group i : ℕ) → group < length (groups_of hub) → i ≡ group → i < vec_len hub.buffers.counts
  count-at group i there same = omega (arith, there, groups-long, same, hub.buffers.counts.ok.0)

  pub count-read : (group i count : ℕ) → group < length (groups_of hub) → i ≡ group → count ≡ get_or counts i count → count ≡ length (sizes_of (groups_of hub) group)
  count-read = read-count counts cells hub.pool.few hub.pool.groups_are hub.pool.all

  pub sizes-read : (group first last : ℕ) (items : List ℕ) → group < length (groups_of hub) → first ≡ first_of counts group → last ≡ first + length (sizes_of (groups_of hub) group) → items ≡ cells →
      take (last - first) (drop first items) ≡ sizes_of (groups_of hub) group
  sizes-read = read-cells counts cells hub.pool.few hub.pool.groups_are hub.pool.all

  pub buffer-from : (group first place : ℕ) → group < length (groups_of hub) → first ≡ first_of counts group → place < length (sizes_of (groups_of hub) group) →
      (group_of (groups_of hub) (first + place) ≡ group) × (place_of (groups_of hub) (first + place) ≡ place)
  buffer-from = buffer-by counts cells hub.pool.few hub.pool.groups_are hub.pool.all

  pub buffer-of : (group buf size : ℕ) → group_of (groups_of hub) buf ≡ group → slice_get cells buf ≡ Some size → IsBufferOf (groups_of hub) group buf size
  buffer-of = is-buffer counts cells hub.pool.few hub.pool.groups_are hub.pool.all

  -- the words of a buffer
  pub place-is : (p : Place) → place_at hub.layout.groups hub.layout.cells p ≡ place_of_word of_rule p
  place-is p =
      let groups-are : hub.layout.groups ≡ length of_rule = ap (λ (l : Rattle.hub_layout.specs.Pool.Pool). l.groups) hub.laid ∙ sym groups-long ∙ ap (λ (l : List (List ℕ)). length l) (sym rule-groups) in
      let cells-are : hub.layout.cells ≡ all_sizes of_rule = ap (λ (l : Rattle.hub_layout.specs.Pool.Pool). l.cells) hub.laid ∙ sym (all-cut counts cells hub.pool.all) ∙ ap all_sizes (sym rule-groups) in
      λ i. place_at (groups-are i) (cells-are i) p

  pub in-cells : (buf : ℕ) (groups : List (List ℕ)) → groups ≡ groups_of hub → buf < length (all_sizes groups) → buf < length hub.layout.cells
  in-cells buf groups same below = omega (arith, below, ap (λ (g : List (List ℕ)). length (all_sizes g)) same, ap (λ (l : List ℕ). length l) (all-cut counts cells hub.pool.all), ap (λ (l : Rattle.hub_layout.specs.Pool.Pool). length l.cells) hub.laid)

  pub buffer-words : (p : Place) (at : ℕ) → at ≡ place_at hub.layout.groups hub.layout.cells p → IsThere hub.layout.groups hub.layout.cells p → at < hub.table.shared.table_id.words
  buffer-words p at is there =
      let low = within hub.layout.groups hub.layout.cells p there in
      let all : words_in hub.layout.groups hub.layout.cells ≡ words_in (length counts) cells = ap (λ (l : Rattle.hub_layout.specs.Pool.Pool). words_in l.groups l.cells) hub.laid in
      omega (arith, is, low, all, hub.wide)

  -- a group's buffers are those from its first on
  pub in-group : (group first last buf : ℕ) → group < length (groups_of hub) → first ≡ first_of counts group → last ≡ first + length (sizes_of (groups_of hub) group) → group_of (groups_of hub) buf ≡ group → buf < length (all_sizes (groups_of hub)) → (first ≤ buf) × (buf < last)
  in-group group first last buf there begin end its below =
      let is = there-cut counts cells buf hub.pool.all (omega (arith, below, ap (λ (l : List ℕ). length l) (all-cut counts cells hub.pool.all))) in
      let from : first_of counts group + place_of (groups_of hub) buf ≡ buf = subst (λ (g : ℕ). first_of counts g + place_of (groups_of hub) buf ≡ buf) its is.at in
      let low : place_of (groups_of hub) buf < get_or counts group 0 = subst (λ (g : ℕ). place_of (groups_of hub) buf < get_or counts g 0) its is.place in
      let many = count-cut counts cells group (omega (arith, there, groups-long)) hub.pool.all in
      (omega (arith, begin, from), omega (arith, begin, from, low, many, end))

  pub of-group : (group first last buf : ℕ) → group < length (groups_of hub) → first ≡ first_of counts group → last ≡ first + length (sizes_of (groups_of hub) group) → first ≤ buf → buf < last → (group_of (groups_of hub) buf ≡ group) × (buf < length (all_sizes (groups_of hub)))
  of-group group first last buf there begin end low high =
      let its = buffer-from group first (buf - first) there begin (omega (arith, low, high, end)) in
      let same : first + (buf - first) ≡ buf = omega (arith, low) in
      (ap (group_of (groups_of hub)) (sym same) ∙ its.0, omega (arith, high, end, begin, group-within group there, ap (λ (l : List ℕ). length l) (all-cut counts cells hub.pool.all)))
