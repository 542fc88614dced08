use Rattle.std.proofs.Common.{ℕ, ◌+◌, List, length, ap, sym, subst, refl, arith, ◌∙◌}
use Rattle.std.specs.Prelude.{slice_set, sum, IsBitSet}
use Rattle.hub_core.proofs.Growing.{by-left}
use Rattle.hub_core.proofs.HubGroups.{found-in, pool-at, pool-few, pool-read, pool-freed}
use Rattle.hub_core.proofs.Hubs.{laid-place, stays-same, party-at, party-there, party-row, party-below as below-all, party-clear}
use Rattle.hub_core.proofs.Leaving.{party-below, after-left, after-left-last, left-over, left-others}
use Rattle.hub_core.proofs.plain.PlainHubPort.leave.Goals as goal
use Rattle.hub_core.specs.Alone.{IsLeavingOf}
use Rattle.hub_core.specs.Calls.{left_of, buf_of}
use Rattle.hub_core.specs.Groups.{changes_in, free_in}
use Rattle.hub_core.specs.HubPort.{groups_of}
use Rattle.hub_core.specs.Past.{view_after}
use Rattle.hub_core.specs.Plain.{IsShown}
use Rattle.hub_core.specs.View.{View, Event, grow}
use Rattle.hub_core.specs.declared.place.Place.TheVariants.{Free, Occupied}
use Rattle.pool_words.specs.declared.pool.Pool.{Pool}
use Rattle.hub_core.specs.declared.port.Left.TheVariants.{Others, Last}

pub index-requires : goal.index-requires
index-requires c = party-at c.args.self.now c.args.end c.from-at.result c.requires (c.from-at.ensures ∙ c.session_buf-buf.ensures)

pub unreachable-requires : goal.unreachable-requires
unreachable-requires c = party-there c.args.self.now c.args.end c.from-at.result c.index.result.now c.requires (c.from-at.ensures ∙ c.session_buf-buf.ensures) c.index.ensures c.in_default.not-Occupied

pub without-row-requires : goal.without-row-requires
without-row-requires c =
    let hub = c.args.self.now in
    party-below (groups_of hub) hub.places.items hub.words.items hub.pools.items hub.takes (view_after hub.past.seat.me.0.deeds) hub.shown c.args.end c.requires

pub index_mut-requires : goal.index_mut-requires
index_mut-requires c = party-at c.args.self.now c.args.end c.from-at.result c.requires (c.from-at.ensures ∙ c.session_buf-buf.ensures)

pub invariant_of-self : goal.invariant_of-self
invariant_of-self c =
    let hub = c.args.self.now in
    let v = view_after hub.past.seat.me.0.deeds in
    let here = c.from-at.ensures ∙ c.session_buf-buf.ensures in
    let place = party-row hub c.args.end c.from-at.result c.index.result.now c.in-Occupied.row c.requires here c.index.ensures c.in-Occupied.is in
    let new = slice_set hub.places.items c.from-at.result (Occupied c.without-row.result) in
    let after = after-left (groups_of hub) hub.places.items hub.words.items hub.pools.items hub.takes v hub.shown c.args.end c.in-Occupied.row c.without-row.result new c.requires place.0 place.1 place.2 c.without-row.ensures
    (ap (λ (i : ℕ). slice_set hub.places.items i (Occupied c.without-row.result)) here) (sym c.has_party.ensures ∙ c.if-has_party.true) in
    let grown = ap view_after c.note.ensures ∙ ap (λ (e : Event). grow e v) c.leaving.ensures in
    let all = subst (IsShown (groups_of hub) new hub.words.items hub.pools.items hub.takes) (sym grown) after in
    record { laid = laid-place _ _ _ _ _ _ _ hub.laid; shown = all }

pub returns-then-has_party-clause-stays : goal.returns-then-has_party-clause-stays
returns-then-has_party-clause-stays c = stays-same c.args.self.now (left_of c.args.end Others) _ (ap view_after c.note.ensures ∙ ap (λ (e : Event). grow e (view_after c.args.self.now.past.seat.me.0.deeds)) c.leaving.ensures) (by-left c.args.end Others _ _ (ap view_after c.note.ensures ∙ ap (λ (e : Event). grow e (view_after c.args.self.now.past.seat.me.0.deeds)) c.leaving.ensures))

pub returns-then-has_party-clause-exact : goal.returns-then-has_party-clause-exact
returns-then-has_party-clause-exact c =
    let hub = c.args.self.now in
    let v = view_after hub.past.seat.me.0.deeds in
    let here = c.from-at.ensures ∙ c.session_buf-buf.ensures in
    let place = party-row hub c.args.end c.from-at.result c.index.result.now c.in-Occupied.row c.requires here c.index.ensures c.in-Occupied.is in
    let grown = ap view_after c.note.ensures ∙ ap (λ (e : Event). grow e v) c.leaving.ensures in
    subst (λ (x : View). IsLeavingOf x c.args.end Others) (sym grown)
    (left-others (groups_of hub) hub.places.items hub.words.items hub.pools.items hub.takes v hub.shown c.args.end c.in-Occupied.row c.without-row.result hub.places.items c.requires place.0 place.1 place.2 c.without-row.ensures (sym c.has_party.ensures ∙ c.if-has_party.true))

pub find_group-group-requires : goal.find_group-group-requires
find_group-group-requires c =
    let here = c.from-at.ensures ∙ c.session_buf-buf.ensures in
    omega (arith, below-all c.args.self.now c.args.end c.from-at.result c.requires here, ap (λ (l : List ℕ). sum l) c.deref.ensures.value)

pub index-requires-2 : goal.index-requires-2
index-requires-2 c =
    let hub = c.args.self.now in
    let here = c.from-at.ensures ∙ c.session_buf-buf.ensures in
    let g = c.find_group-group.result.0 in
    let found = found-in hub c.deref.result.now (buf_of c.args.end) c.from-at.result g c.find_group-group.result.1 c.deref.ensures.value here c.find_group-group.ensures.there c.find_group-group.ensures.its c.find_group-group.ensures.at in
    pool-at hub g g found.there refl

pub after_free-pool-requires-clause-changes : goal.after_free-pool-requires-clause-changes
after_free-pool-requires-clause-changes c =
    let hub = c.args.self.now in
    let here = c.from-at.ensures ∙ c.session_buf-buf.ensures in
    let g = c.find_group-group.result.0 in
    let found = found-in hub c.deref.result.now (buf_of c.args.end) c.from-at.result g c.find_group-group.result.1 c.deref.ensures.value here c.find_group-group.ensures.there c.find_group-group.ensures.its c.find_group-group.ensures.at in
    omega (arith, ap (λ (p : Pool). p.changes) (pool-read hub g g c.index-2.result.now found.there refl c.index-2.ensures), pool-few hub g)

pub after_free-pool-requires-clause-place : goal.after_free-pool-requires-clause-place
after_free-pool-requires-clause-place c =
    let hub = c.args.self.now in
    let here = c.from-at.ensures ∙ c.session_buf-buf.ensures in
    let g = c.find_group-group.result.0 in
    let found = found-in hub c.deref.result.now (buf_of c.args.end) c.from-at.result g c.find_group-group.result.1 c.deref.ensures.value here c.find_group-group.ensures.there c.find_group-group.ensures.its c.find_group-group.ensures.at in
    found.few

pub after_free-pool-requires-clause-taken : goal.after_free-pool-requires-clause-taken
after_free-pool-requires-clause-taken c = λ set.
    let hub = c.args.self.now in
    let here = c.from-at.ensures ∙ c.session_buf-buf.ensures in
    let g = c.find_group-group.result.0 in
    let found = found-in hub c.deref.result.now (buf_of c.args.end) c.from-at.result g c.find_group-group.result.1 c.deref.ensures.value here c.find_group-group.ensures.there c.find_group-group.ensures.its c.find_group-group.ensures.at in
    let free = ap (λ (p : Pool). p.free) (pool-read hub g g c.index-2.result.now found.there refl c.index-2.ensures) ∙ ap (λ (x : ℕ). free_in (groups_of hub) x (view_after hub.past.seat.me.0.deeds)) (sym found.its.0) in
    party-clear hub c.args.end c.requires (subst (λ (x : ℕ × ℕ). IsBitSet x.0 x.1) (λ i. (free i, sym found.its.1 i)) set)

pub index_mut-requires-2 : goal.index_mut-requires-2
index_mut-requires-2 c =
    let hub = c.args.self.now in
    let here = c.from-at.ensures ∙ c.session_buf-buf.ensures in
    let g = c.find_group-group.result.0 in
    let found = found-in hub c.deref.result.now (buf_of c.args.end) c.from-at.result g c.find_group-group.result.1 c.deref.ensures.value here c.find_group-group.ensures.there c.find_group-group.ensures.its c.find_group-group.ensures.at in
    pool-at hub g g found.there refl

pub index_mut-requires-3 : goal.index_mut-requires-3
index_mut-requires-3 c = party-at c.args.self.now c.args.end c.from-at.result c.requires (c.from-at.ensures ∙ c.session_buf-buf.ensures)

pub invariant_of-self-2 : goal.invariant_of-self-2
invariant_of-self-2 c =
    let hub = c.args.self.now in
    let v = view_after hub.past.seat.me.0.deeds in
    let here = c.from-at.ensures ∙ c.session_buf-buf.ensures in
    let g = c.find_group-group.result.0 in
    let found = found-in hub c.deref.result.now (buf_of c.args.end) c.from-at.result g c.find_group-group.result.1 c.deref.ensures.value here c.find_group-group.ensures.there c.find_group-group.ensures.its c.find_group-group.ensures.at in
    let place = party-row hub c.args.end c.from-at.result c.index.result.now c.in-Occupied.row c.requires here c.index.ensures c.in-Occupied.is in
    let is = pool-read hub g g c.index-2.result.now found.there refl c.index-2.ensures in
    let next = c.after_free-pool.result in
    let left = pool-freed hub (buf_of c.args.end) g c.find_group-group.result.1 c.index-2.result.now next found.its is c.after_free-pool.ensures.free in
    let number = c.after_free-pool.ensures.changes ∙ ap (λ (p : Pool). p.changes + 1) is ∙ ap (λ (x : ℕ). length (changes_in (groups_of hub) x v) + 1) (sym found.its.0) in
    let new = slice_set hub.places.items c.from-at.result Free in
    let more = slice_set hub.pools.items g next in
    let after = after-left-last (groups_of hub) hub.places.items hub.words.items hub.pools.items hub.takes v hub.shown c.args.end c.in-Occupied.row c.without-row.result new c.requires place.0 place.1 place.2 c.without-row.ensures
    next.changes c.session_buf-buf.result more c.session_buf-buf.ensures (ap (λ (i : ℕ). slice_set hub.places.items i Free) here) (λ i. slice_set hub.pools.items (sym found.its.0 i) (left i)) (sym c.has_party.ensures ∙ c.if-has_party.false) number in
    let grown = ap view_after c.note-2.ensures ∙ ap (λ (e : Event). grow e v) c.leaving-2.ensures in
    let all = subst (IsShown (groups_of hub) new hub.words.items more hub.takes) (sym grown) after in
    record { laid = laid-place _ _ _ _ _ _ _ hub.laid; shown = all }

pub returns-clause-stays : goal.returns-clause-stays
returns-clause-stays c = stays-same c.args.self.now (left_of c.args.end (Last c.after_free-pool.result.changes c.session_buf-buf.result)) _ (ap view_after c.note-2.ensures ∙ ap (λ (e : Event). grow e (view_after c.args.self.now.past.seat.me.0.deeds)) c.leaving-2.ensures) (by-left c.args.end _ _ _ (ap view_after c.note-2.ensures ∙ ap (λ (e : Event). grow e (view_after c.args.self.now.past.seat.me.0.deeds)) c.leaving-2.ensures))

pub returns-clause-exact : goal.returns-clause-exact
returns-clause-exact c =
    let hub = c.args.self.now in
    let v = view_after hub.past.seat.me.0.deeds in
    let here = c.from-at.ensures ∙ c.session_buf-buf.ensures in
    let last = Last c.after_free-pool.result.changes c.session_buf-buf.result in
    let place = party-row hub c.args.end c.from-at.result c.index.result.now c.in-Occupied.row c.requires here c.index.ensures c.in-Occupied.is in
    let grown = ap view_after c.note-2.ensures ∙ ap (λ (e : Event). grow e v) c.leaving-2.ensures in
    subst (λ (x : View). IsLeavingOf x c.args.end last) (sym grown)
    (left-over (groups_of hub) hub.places.items hub.words.items hub.pools.items hub.takes v hub.shown c.args.end c.in-Occupied.row c.without-row.result hub.places.items c.requires place.0 place.1 place.2 c.without-row.ensures last (sym c.has_party.ensures ∙ c.if-has_party.false))
