-- What a plain hub keeps of its groups, named by the hub: where their buffers are, and their pool words.
use Rattle.std.proofs.Common.{◌≡◌, ℕ, ◌+◌, ◌-◌, ◌^◌, ◌<◌, ◌≤◌, List, length, take, drop, Some, None, ap, sym, ◌∙◌, subst, arith}
use Rattle.std.specs.Prelude.{slice_get, slice_index, get_or}
use Rattle.std.proofs.lemmas.List.{length-take}
use Rattle.std.proofs.lemmas.Option.{get_or_from_slice_get, slice_get_within}
use Rattle.std.specs.Vec.{vec_len}
use Rattle.gw_base.specs.Fit.{IsSmallest}
use Rattle.hub_core.proofs.Cut.{all-cut, groups-cut, count-cut, buffer-cut, IsThere, there-cut, few-buffers, part-get}
use Rattle.hub_core.proofs.GroupReads.{is-buffer, read-cells, few-in, read-count, within-cells, buffer-by}
use Rattle.hub_core.proofs.Freeing.{pool_freed}
use Rattle.hub_core.proofs.Ledger.{order, session-size}
use Rattle.hub_core.proofs.Pools.{fewer-changes}
use Rattle.hub_core.specs.Core.{MayTake}
use Rattle.hub_core.specs.Calls.{IsBufferOf}
use Rattle.hub_core.specs.Groups.{all_sizes, first_of, group_of, place_of, sizes_of, changes_in, free_in, IsWordOf}
use Rattle.hub_core.specs.HubPort.{groups_of}
use Rattle.hub_core.specs.Journal.{AreInOrder}
use Rattle.hub_core.specs.Past.{view_after}
use Rattle.hub_core.specs.Plain.{IsPlaceOf, pool_after, session_in}
use Rattle.hub_core.specs.View.{View, Session, session_at}
use Rattle.hub_core.specs.declared.place.Place.{Place}
use Rattle.hub_core.specs.declared.place.Place.TheVariants.{Occupied}
use Rattle.hub_core.specs.declared.place.Row.{Row}
use Rattle.hub_core.specs.declared.plain.PlainHub.{PlainHub}
use Rattle.pool_words.specs.declared.pool.Pool.{Pool}

module _ (hub : PlainHub) where
  abbrev v : View
  v = view_after hub.past.seat.me.0.deeds

  abbrev groups : List (List ℕ)
  groups = groups_of hub

  -- all buffers in one list, and in groups
  pub hub-sizes : all_sizes groups ≡ hub.sizes.items
  hub-sizes = all-cut hub.counts.items hub.sizes.items hub.laid.all

  pub hub-groups : length groups ≡ length hub.counts.items
  hub-groups = groups-cut hub.counts.items hub.sizes.items

  pub hub-few : length hub.sizes.items ≤ 128
  hub-few = few-buffers hub.counts.items hub.sizes.items hub.laid.groups.1 hub.laid.buffers hub.laid.all

  -- there is a first group
  pub first-there : 0 < length groups
  first-there = omega (arith, hub-groups, hub.laid.groups.0)

  -- a group's word
  pub pool-read : (group i : ℕ) (pool : Pool) → group < length groups → i ≡ group → pool ≡ get_or hub.pools.items i pool → pool ≡ pool_after groups group v.changes
  pool-read group i pool there same read = read ∙ get_or_from_slice_get hub.pools.items i (pool_after groups group v.changes) pool (ap (slice_get hub.pools.items) same ∙ hub.shown.counts.words group there)

  pub pool-at : (group i : ℕ) → group < length groups → i ≡ group → i < vec_len hub.pools
  pool-at group i there same = omega (arith, same, slice_get_within hub.pools.items group _ (hub.shown.counts.words group there), hub.pools.ok.0)

  pub pool-few : (group : ℕ) → (pool_after groups group v.changes).changes ≤ 2000000
  pool-few group = omega (arith, fewer-changes groups group v.changes, hub.shown.counts.moves)

  pub hub-word : (group : ℕ) (pool : Pool) → pool ≡ pool_after groups group v.changes → IsWordOf groups group v pool.changes pool.free
  hub-word group pool is = record { number_is = ap (λ (p : Pool). p.changes) is; free_is = ap (λ (p : Pool). p.free) is }

  pub hub-order : (group : ℕ) → AreInOrder (changes_in groups group v)
  hub-order = order groups v hub.shown.led

  -- a group's buffers, and what the code reads of them
  pub buffer-of : (group buf size : ℕ) → group_of groups buf ≡ group → slice_get hub.sizes.items buf ≡ Some size → IsBufferOf groups group buf size
  buffer-of = is-buffer hub.counts.items hub.sizes.items hub.laid.groups.1 hub.laid.buffers hub.laid.all

  pub sizes-read : (group first last : ℕ) (items : List ℕ) → group < length groups → first ≡ first_of hub.counts.items group → last ≡ first + length (sizes_of groups group) → items ≡ hub.sizes.items →
      take (last - first) (drop first items) ≡ sizes_of groups group
  sizes-read = read-cells hub.counts.items hub.sizes.items hub.laid.groups.1 hub.laid.buffers hub.laid.all

  pub group-few : (group : ℕ) → group < length groups → length (sizes_of groups group) ≤ 32
  group-few = few-in hub.counts.items hub.sizes.items hub.laid.groups.1 hub.laid.buffers hub.laid.all

  pub count-read : (group i count : ℕ) → group < length groups → i ≡ group → count ≡ get_or hub.counts.items i count → count ≡ length (sizes_of groups group)
  count-read = read-count hub.counts.items hub.sizes.items hub.laid.groups.1 hub.laid.buffers hub.laid.all

  pub count-at : (group i : ℕ) → group < length groups → i ≡ group → i < vec_len hub.counts
  count-at group i there same = omega (arith, there, hub-groups, same, hub.counts.ok.0)

  pub group-within : (group : ℕ) → group < length groups → first_of hub.counts.items group + length (sizes_of groups group) ≤ length hub.sizes.items
  group-within = within-cells hub.counts.items hub.sizes.items hub.laid.groups.1 hub.laid.buffers hub.laid.all

  pub buffer-from : (group first place : ℕ) → group < length groups → first ≡ first_of hub.counts.items group → place < length (sizes_of groups group) → (group_of groups (first + place) ≡ group) × (place_of groups (first + place) ≡ place)
  buffer-from = buffer-by hub.counts.items hub.sizes.items hub.laid.groups.1 hub.laid.buffers hub.laid.all

  pub take-may : (group first place number size need : ℕ) (pool : Pool) → group < length groups → first ≡ first_of hub.counts.items group → pool ≡ pool_after groups group v.changes → IsSmallest (sizes_of groups group) pool.free need place →
      slice_get hub.sizes.items (first + place) ≡ Some size → number ≡ pool.changes + 1 → MayTake groups v group number (first + place) size need
  take-may group first place number size need pool there begin is smallest has next =
      let its = buffer-from group first place there begin smallest.fits.there in
      record {
        its = its.0;
        next = omega (arith, next, ap (λ (p : Pool). p.changes) is);
        smallest = subst (λ (x : ℕ × ℕ). IsSmallest (sizes_of groups group) x.0 need x.1) (λ i. (ap (λ (p : Pool). p.free) is i, sym its.1 i)) smallest;
        size_is = (buffer-of group (first + place) size its.0 has).1;
      }

  -- the word that the code leaves
  pub pool-taken : (group first place : ℕ) (pool next : Pool) → group < length groups → first ≡ first_of hub.counts.items group → place < length (sizes_of groups group) → pool ≡ pool_after groups group v.changes → next.free ≡ pool.free - 2 ^ place →
      next ≡ record { changes = next.changes; free = free_in groups group v - 2 ^ place_of groups (first + place) }
  pool-taken group first place pool next there begin below is free =
      let its = buffer-from group first place there begin below in
      let same : next.free ≡ free_in groups group v - 2 ^ place_of groups (first + place) = free ∙ (λ i. ap (λ (p : Pool). p.free) is i - 2 ^ sym its.1 i) in
      ap (λ (f : ℕ). (let p : Pool = record { changes = next.changes; free = f } in p)) same

  pub pool-freed : (buf group place : ℕ) (pool next : Pool) → (group_of groups buf ≡ group) × (place_of groups buf ≡ place) → pool ≡ pool_after groups group v.changes → next.free ≡ pool.free + 2 ^ place → next ≡ pool_freed groups v buf next.changes
  pool-freed buf group place pool next its is free =
      let same : next.free ≡ free_in groups (group_of groups buf) v + 2 ^ place_of groups buf =
      free ∙ (λ i. ap (λ (p : Pool). p.free) is i + 2 ^ sym its.1 i) ∙ ap (λ (g : ℕ). free_in groups g v + 2 ^ place_of groups buf) (sym its.0) in
      ap (λ (f : ℕ). (let p : Pool = record { changes = next.changes; free = f } in p)) same

  -- what the code reads of a group's places
  pub place-in : (group first last k : ℕ) (places : List Place) → group < length groups → last ≡ first + length (sizes_of groups group) → places ≡ hub.places.items → k < length (sizes_of groups group) →
      slice_get (take (last - first) (drop first places)) k ≡ slice_get hub.places.items (first + k)
  place-in group first last k places there end same below = part-get places first (last - first) k (omega (arith, end, below)) ∙ ap (λ (l : List Place). slice_get l (first + k)) same

  pub record IsFoundAt (group path seq buf : ℕ) (row : Row) : Type 0 where
    pub at : slice_get hub.places.items buf ≡ Some (Occupied row)
    pub path_is : row.path ≡ path
    pub seq_is : row.seq ≡ seq
    pub few : buf < length hub.sizes.items
    pub its : group_of groups buf ≡ group

  -- the place of a session that was found among them, and none that was
  pub place-found : (group first last path seq k : ℕ) (row : Row) (places : List Place) → group < length groups → first ≡ first_of hub.counts.items group → last ≡ first + length (sizes_of groups group) → last ≤ length hub.sizes.items → places ≡ hub.places.items →
      IsPlaceOf (take (last - first) (drop first places)) path seq (Some (k, row)) → IsFoundAt group path seq (first + k) row
  place-found group first last path seq k row places there begin end few same is =
      let low : k < length (sizes_of groups group) = omega (arith, slice_get_within (take (last - first) (drop first places)) k (Occupied row) is.0, length-take (last - first) (drop first places), end) in
      record {
        at = sym (place-in group first last k places there end same low) ∙ is.0;
        path_is = is.1;
        seq_is = is.2;
        few = omega (arith, low, end, few);
        its = (buffer-from group first k there begin low).0;
      }

  pub none-found : (group first last path seq : ℕ) (places : List Place) → group < length groups → first ≡ first_of hub.counts.items group → last ≡ first + length (sizes_of groups group) → places ≡ hub.places.items →
      IsPlaceOf (take (last - first) (drop first places)) path seq None → (buf : ℕ) → group_of groups buf ≡ group → buf < length hub.places.items → session_in (slice_get hub.places.items buf) ≡ Some (path, seq) → ⊥
  none-found group first last path seq places there begin end same none buf its below found =
      let is = there-cut hub.counts.items hub.sizes.items buf hub.laid.all (omega (arith, below, hub.laid.places_are)) in
      let k : ℕ = place_of groups buf in
      let low : k < length (sizes_of groups group) = omega (arith, is.place, ap (λ (g : ℕ). get_or hub.counts.items g 0) its, count-cut hub.counts.items hub.sizes.items group (omega (arith, there, hub-groups)) hub.laid.all) in
      let at : first + k ≡ buf = omega (arith, is.at, begin, ap (first_of hub.counts.items) its) in
      none k (ap session_in (place-in group first last k places there end same low ∙ ap (slice_get hub.places.items) at) ∙ found)

  pub session-there : (path seq : ℕ) (s : Session) → session_at v path seq ≡ Some s → IsThere hub.counts.items hub.sizes.items s.buf
  session-there path seq s at =
      there-cut hub.counts.items hub.sizes.items s.buf hub.laid.all (slice_get_within hub.sizes.items s.buf s.size (ap (λ (l : List ℕ). slice_get l s.buf) (sym hub-sizes) ∙ session-size groups v hub.shown.led path seq s at))

  -- the group of a party's buffer as the code finds it
  pub record IsFound (buf group place : ℕ) : Type 0 where
    pub there : group < length groups
    pub its : (group_of groups buf ≡ group) × (place_of groups buf ≡ place)
    pub few : place < 32

  pub found-in : (counts : List ℕ) (buf i group place : ℕ) → counts ≡ hub.counts.items → i ≡ buf → group < length counts → place < slice_index counts group → first_of counts group + place ≡ i → IsFound buf group place
  found-in counts buf i group place same here there below at =
      let low : group < length hub.counts.items = omega (arith, there, ap (λ (l : List ℕ). length l) same) in
      let within : place < get_or hub.counts.items group 0 = omega (arith, below, ap (λ (l : List ℕ). get_or l group 0) same) in
      let from = ap (λ (l : List ℕ). first_of l group + place) (sym same) ∙ at ∙ here in
      let its = buffer-cut hub.counts.items hub.sizes.items group place (omega (arith, hub.laid.all)) within in
      record {
        there = omega (arith, low, hub-groups);
        its = (ap (group_of groups) (sym from) ∙ its.0, ap (place_of groups) (sym from) ∙ its.1);
        few = omega (arith, within, count-cut hub.counts.items hub.sizes.items group low hub.laid.all, group-few group (omega (arith, low, hub-groups)));
      }
