use Rattle.std.proofs.Common.{◌≡◌, ℕ, ◌+◌, ◌-◌, ◌<◌, ◌∙◌, List, Some, length, take, drop, ap, sym, subst, refl, arith}
use Rattle.std.proofs.lemmas.Option.{slice_get_read, get_or_from_slice_get}
use Rattle.std.specs.Prelude.{slice_get, slice_set}
use Rattle.gw_base.specs.Fit.{IsSmallest, NoneFits}
use Rattle.hub_core.proofs.Growing.{by-took, by-refused}
use Rattle.hub_core.proofs.HubGroups.{sizes-read, group-few, hub-few, pool-at, pool-few, pool-read, hub-word, buffer-from, buffer-of, take-may, pool-taken}
use Rattle.hub_core.proofs.Hubs.{laid-place, stays-took}
use Rattle.hub_core.proofs.Ledger.{led-refused}
use Rattle.hub_core.proofs.Shown.{after-refused}
use Rattle.hub_core.proofs.Taking.{after-took, held-took}
use Rattle.hub_core.proofs.plain.PlainHubPort.take.Goals as goal
use Rattle.hub_core.specs.Groups.{sizes_of}
use Rattle.hub_core.specs.HubPort.{groups_of, view_of}
use Rattle.hub_core.specs.Past.{view_after}
use Rattle.hub_core.specs.Plain.{IsShown}
use Rattle.hub_core.specs.View.{Took, Refused}
use Rattle.hub_core.specs.declared.place.Place.TheVariants.{Reserved}
use Rattle.hub_core.specs.declared.plain.PlainHub.{PlainHub}
use Rattle.pool_words.specs.declared.pool.Pool.{Pool}

pub smallest_fitting-requires : goal.smallest_fitting-requires
smallest_fitting-requires c =
    let hub = c.args.self.now in
    let read = sizes-read hub c.args.group.0 c.buffers_of-first.result.0 c.buffers_of-first.result.1 c.deref.result.now c.requires.group c.buffers_of-first.ensures.first c.buffers_of-first.ensures.last c.deref.ensures.value in
    omega (arith, ap (λ (l : List ℕ). length l) read, group-few hub c.args.group.0 c.requires.group)

pub invariant_of-self : goal.invariant_of-self
invariant_of-self c =
    let hub = c.args.self.now in
    let v = view_of hub in
    let pool = c.index-pool.result.now in
    let read = sizes-read hub c.args.group.0 c.buffers_of-first.result.0 c.buffers_of-first.result.1 c.deref.result.now c.requires.group c.buffers_of-first.ensures.first c.buffers_of-first.ensures.last c.deref.ensures.value in
    let is = pool-read hub c.args.group.0 c.from-at.result pool c.requires.group c.from-at.ensures c.index-pool.ensures in
    let word = hub-word hub c.args.group.0 pool is in
    let none : NoneFits (sizes_of (groups_of hub) c.args.group.0) pool.free c.args.need = subst (λ (s : List ℕ). NoneFits s pool.free c.args.need) read c.in_default.ensures in
    let after = after-refused (groups_of hub) hub.places.items hub.words.items hub.pools.items hub.takes v hub.shown c.args.group.0 pool.changes pool.free c.args.need (hub.takes - 1) (omega (arith, c.requires.takes))
    (led-refused (groups_of hub) v hub.shown.led c.args.group.0 pool.changes pool.free c.args.need (record { there = c.requires.group; now = word.number_is; set = word.free_is; none_fits = none })) in
    let all = subst (IsShown (groups_of hub) hub.places.items hub.words.items hub.pools.items (hub.takes - 1)) (sym (ap view_after c.note.ensures)) after in
    record { laid = hub.laid; shown = all }

pub returns-in_default-clause-answers : goal.returns-in_default-clause-answers
returns-in_default-clause-answers c =
    let hub = c.args.self.now in
    let read = sizes-read hub c.args.group.0 c.buffers_of-first.result.0 c.buffers_of-first.result.1 c.deref.result.now c.requires.group c.buffers_of-first.ensures.first c.buffers_of-first.ensures.last c.deref.ensures.value in
    let none : NoneFits (sizes_of (groups_of hub) c.args.group.0) c.index-pool.result.now.free c.args.need = subst (λ (s : List ℕ). NoneFits s c.index-pool.result.now.free c.args.need) read c.in_default.ensures in
    none

pub returns-in_default-clause-fresh : goal.returns-in_default-clause-fresh
returns-in_default-clause-fresh c =
    let is = pool-read c.args.self.now c.args.group.0 c.from-at.result c.index-pool.result.now c.requires.group c.from-at.ensures c.index-pool.ensures in
    omega (arith, ap (λ (p : Pool). p.changes) is)

pub returns-in_default-clause-stays : goal.returns-in_default-clause-stays
returns-in_default-clause-stays c = stays-took c.args.self.now (Refused c.args.group.0 c.index-pool.result.now.changes c.index-pool.result.now.free c.args.need) _ (ap view_after c.note.ensures) (by-refused _ _ _ _ _ _ (ap view_after c.note.ensures))

pub returns-in_default-clause-exact : goal.returns-in_default-clause-exact
returns-in_default-clause-exact c =
    hub-word c.args.self.now c.args.group.0 c.index-pool.result.now (pool-read c.args.self.now c.args.group.0 c.from-at.result c.index-pool.result.now c.requires.group c.from-at.ensures c.index-pool.ensures)

pub after_take-pool-requires-clause-changes : goal.after_take-pool-requires-clause-changes
after_take-pool-requires-clause-changes c =
    let is = pool-read c.args.self.now c.args.group.0 c.from-at.result c.index-pool.result.now c.requires.group c.from-at.ensures c.index-pool.ensures in
    omega (arith, ap (λ (p : Pool). p.changes) is, pool-few c.args.self.now c.args.group.0)

-- the buffer that was found is the smallest of its group that fits
smallest-of : (hub : PlainHub) (group first last need place : ℕ) (items : List ℕ) (pool : Pool) → take (last - first) (drop first items) ≡ sizes_of (groups_of hub) group → IsSmallest (take (last - first) (drop first items)) pool.free need place →
    IsSmallest (sizes_of (groups_of hub) group) pool.free need place
smallest-of hub group first last need place items pool read smallest = subst (λ (s : List ℕ). IsSmallest s pool.free need place) read smallest

pub after_take-pool-requires-clause-place : goal.after_take-pool-requires-clause-place
after_take-pool-requires-clause-place c =
    let hub = c.args.self.now in
    let read = sizes-read hub c.args.group.0 c.buffers_of-first.result.0 c.buffers_of-first.result.1 c.deref.result.now c.requires.group c.buffers_of-first.ensures.first c.buffers_of-first.ensures.last c.deref.ensures.value in
    omega (arith, (c.in-Some.ensures).fits.there, ap (λ (l : List ℕ). length l) read, group-few hub c.args.group.0 c.requires.group)

pub overflow_cast-held : goal.overflow_cast-held
overflow_cast-held c =
    let hub = c.args.self.now in
    let read = sizes-read hub c.args.group.0 c.buffers_of-first.result.0 c.buffers_of-first.result.1 c.deref.result.now c.requires.group c.buffers_of-first.ensures.first c.buffers_of-first.ensures.last c.deref.ensures.value in
    omega (arith, (c.in-Some.ensures).fits.there, ap (λ (l : List ℕ). length l) read, c.buffers_of-first.ensures.last, c.buffers_of-first.ensures.few, hub-few hub)

pub index_mut-requires : goal.index_mut-requires
index_mut-requires c = pool-at c.args.self.now c.args.group.0 c.from-at.result c.requires.group c.from-at.ensures

pub invariant_of-self-2 : goal.invariant_of-self-2
invariant_of-self-2 c =
    let hub = c.args.self.now in
    let v = view_of hub in
    let group = c.args.group.0 in
    let first = c.buffers_of-first.result.0 in
    let place = c.in-Some.place in
    let pool = c.index-pool.result.now in
    let next = c.after_take-pool.result in
    let read = sizes-read hub group first c.buffers_of-first.result.1 c.deref.result.now c.requires.group c.buffers_of-first.ensures.first c.buffers_of-first.ensures.last c.deref.ensures.value in
    let smallest = smallest-of hub group first c.buffers_of-first.result.1 c.args.need place c.deref.result.now pool read c.in-Some.ensures in
    let is = pool-read hub group c.from-at.result pool c.requires.group c.from-at.ensures c.index-pool.ensures in
    let low : first + place < length hub.sizes.items = omega (arith, smallest.fits.there, c.buffers_of-first.ensures.last, c.buffers_of-first.ensures.few) in
    let size-is = slice_get_read hub.sizes.items (length hub.sizes.items) (first + place) c.index.result.now refl low c.index.ensures in
    let may = take-may hub group first place next.changes c.index.result.now c.args.need pool c.requires.group c.buffers_of-first.ensures.first is smallest size-is c.after_take-pool.ensures.changes in
    let left = pool-taken hub group first place pool next c.requires.group c.buffers_of-first.ensures.first smallest.fits.there is c.after_take-pool.ensures.free in
    let new = slice_set hub.places.items (first + place) Reserved in
    let more = slice_set hub.pools.items c.from-at.result next in
    let after = after-took (groups_of hub) hub.places.items hub.words.items hub.pools.items hub.takes v hub.shown group next.changes (first + place) c.index.result.now c.args.need (hub.takes - 1) new more (omega (arith, c.requires.takes)) may
    (omega (arith, low, hub.laid.places_are)) refl (λ i. slice_set hub.pools.items (c.from-at.ensures i) (left i)) in
    let all = subst (IsShown (groups_of hub) new hub.words.items more (hub.takes - 1)) (sym (ap view_after c.note-2.ensures)) after in
    record { laid = laid-place _ _ _ _ _ _ _ hub.laid; shown = all }

pub returns-clause-answers : goal.returns-clause-answers
returns-clause-answers c =
    let hub = c.args.self.now in
    let group = c.args.group.0 in
    let first = c.buffers_of-first.result.0 in
    let place = c.in-Some.place in
    let read = sizes-read hub group first c.buffers_of-first.result.1 c.deref.result.now c.requires.group c.buffers_of-first.ensures.first c.buffers_of-first.ensures.last c.deref.ensures.value in
    let smallest = smallest-of hub group first c.buffers_of-first.result.1 c.args.need place c.deref.result.now c.index-pool.result.now read c.in-Some.ensures in
    let low : first + place < length hub.sizes.items = omega (arith, smallest.fits.there, c.buffers_of-first.ensures.last, c.buffers_of-first.ensures.few) in
    let size-is = slice_get_read hub.sizes.items (length hub.sizes.items) (first + place) c.index.result.now refl low c.index.ensures in
    let its = buffer-from hub group first place c.requires.group c.buffers_of-first.ensures.first smallest.fits.there in
    let has = buffer-of hub group (first + place) c.index.result.now its.0 size-is in
    let size : slice_get (sizes_of (groups_of hub) group) place ≡ Some c.index.result.now = ap (slice_get (sizes_of (groups_of hub) group)) (sym its.1) ∙ has.1 in (
      refl,
      omega (arith, c.after_take-pool.ensures.changes),
      omega (arith, smallest.fits.enough, get_or_from_slice_get (sizes_of (groups_of hub) group) place c.index.result.now 0 size),
      has,
      held-took group c.after_take-pool.result.changes (first + place) c.index.result.now c.args.need _ _ (ap view_after c.note-2.ensures),
    )

pub returns-clause-fresh : goal.returns-clause-fresh
returns-clause-fresh c =
    let is = pool-read c.args.self.now c.args.group.0 c.from-at.result c.index-pool.result.now c.requires.group c.from-at.ensures c.index-pool.ensures in
    omega (arith, ap (λ (p : Pool). p.changes) is, c.after_take-pool.ensures.changes)

pub returns-clause-stays : goal.returns-clause-stays
returns-clause-stays c = stays-took c.args.self.now (Took c.args.group.0 c.after_take-pool.result.changes (c.buffers_of-first.result.0 + c.in-Some.place) c.index.result.now c.args.need) _ (ap view_after c.note-2.ensures) (by-took _ _ _ _ _ _ _ (ap view_after c.note-2.ensures))

pub returns-clause-exact : goal.returns-clause-exact
returns-clause-exact c =
    let hub = c.args.self.now in
    let group = c.args.group.0 in
    let first = c.buffers_of-first.result.0 in
    let place = c.in-Some.place in
    let pool = c.index-pool.result.now in
    let read = sizes-read hub group first c.buffers_of-first.result.1 c.deref.result.now c.requires.group c.buffers_of-first.ensures.first c.buffers_of-first.ensures.last c.deref.ensures.value in
    let smallest = smallest-of hub group first c.buffers_of-first.result.1 c.args.need place c.deref.result.now pool read c.in-Some.ensures in
    let low : first + place < length hub.sizes.items = omega (arith, smallest.fits.there, c.buffers_of-first.ensures.last, c.buffers_of-first.ensures.few) in
    let size-is = slice_get_read hub.sizes.items (length hub.sizes.items) (first + place) c.index.result.now refl low c.index.ensures in
    let is = pool-read hub group c.from-at.result pool c.requires.group c.from-at.ensures c.index-pool.ensures in
    let may = take-may hub group first place c.after_take-pool.result.changes c.index.result.now c.args.need pool c.requires.group c.buffers_of-first.ensures.first is smallest size-is c.after_take-pool.ensures.changes in
    (may.next, may.its, may.smallest)
