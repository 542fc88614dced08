use Rattle.std.proofs.Common.{◌≡◌, ℕ, ◌+◌, ◌<◌, Some, None, ap, sym, subst, refl, arith, ◌∙◌}
use Rattle.std.proofs.lemmas.Bool.{ltb-true, and_parts}
use Rattle.std.proofs.lemmas.Option.{get_or_from_slice_get, slice_get_within}
use Rattle.std.specs.Prelude.{nat_lt, slice_get}
use Rattle.hub_core.proofs.Fresh.{missed-fresh}
use Rattle.hub_core.proofs.Growing.{by-joining, reads-joining}
use Rattle.hub_core.proofs.HubGroups.{hub-few, place-found, none-found}
use Rattle.hub_core.proofs.Hubs.{stays-missed, stays-same}
use Rattle.hub_core.proofs.Ledger.{streams}
use Rattle.hub_core.proofs.Looks.{next-none, found, next-apart, next-for}
use Rattle.hub_core.proofs.Scans.{position-read}
use Rattle.hub_core.proofs.Shown.{after-joining}
use Rattle.hub_core.proofs.plain.PlainHubPort.next.Goals as goal
use Rattle.hub_core.specs.Alone.{IsNextOf}
use Rattle.hub_core.specs.Calls.{SameMeans, ByReader, joins, next_of}
use Rattle.hub_core.specs.Floors.{IsFresh, floors_of}
use Rattle.hub_core.specs.Groups.{group_of}
use Rattle.hub_core.specs.HubPort.{groups_of}
use Rattle.hub_core.specs.Past.{view_after}
use Rattle.hub_core.specs.Stays.{Stays}
use Rattle.hub_core.specs.Plain.{IsShown, port_of}
use Rattle.hub_core.specs.View.{grow, Joining}

pub returns-in_err-place-clause-view : goal.returns-in_err-place-clause-view
unfolding grow
returns-in_err-place-clause-view c = ap (λ r. grow (next_of c.args.group.0 c.args.path.0 c.args.dest.0 c.args.seq r) (view_after c.args.self.now.past.seat.me.0.deeds)) (sym c.from_residual.ensures)

pub returns-in_err-place-clause-exact : goal.returns-in_err-place-clause-exact
returns-in_err-place-clause-exact c =
    let hub = c.args.self.now in
    let v = view_after hub.past.seat.me.0.deeds in
    subst (IsNextOf v (groups_of hub) c.args.group.0 c.args.path.0 c.args.dest.0 c.args.seq) (sym c.from_residual.ensures)
    (next-none (groups_of hub) hub.places.items hub.words.items hub.pools.items hub.takes v hub.shown c.args.group.0 c.args.path.0 c.args.dest.0 c.args.seq c.requires.seq
    (none-found hub c.args.group.0 c.buffers_of-first.result.0 c.buffers_of-first.result.1 c.args.path.0 c.args.seq c.deref.result.now c.requires.group c.buffers_of-first.ensures.first c.buffers_of-first.ensures.last c.deref.ensures.value c.in_err-place.ensures))

pub returns-in_err-place-clause-fresh : goal.returns-in_err-place-clause-fresh
returns-in_err-place-clause-fresh c =
    let hub = c.args.self.now in
    let v = view_after hub.past.seat.me.0.deeds in
    subst (λ r. IsFresh v (floors_of (groups_of hub) v) (next_of c.args.group.0 c.args.path.0 c.args.dest.0 c.args.seq r)) (sym c.from_residual.ensures)
    (missed-fresh (groups_of hub) v c.args.group.0 c.args.path.0 c.args.dest.0 c.args.seq (subst (IsNextOf v (groups_of hub) c.args.group.0 c.args.path.0 c.args.dest.0 c.args.seq) c.from_residual.ensures (returns-in_err-place-clause-exact c)))

pub returns-in_err-place-clause-stays : goal.returns-in_err-place-clause-stays
returns-in_err-place-clause-stays c =
    let hub = c.args.self.now in
    let v = view_after hub.past.seat.me.0.deeds in
    subst (λ r. Stays (ByReader c.args.path.0 c.args.dest.0 (joins r)) SameMeans (port_of (groups_of hub) hub.takes v) (port_of (groups_of hub) hub.takes v)) (sym c.from_residual.ensures)
    (stays-missed hub c.args.group.0 c.args.path.0 c.args.dest.0 c.args.seq)

pub returns-in_err-row-clause-view : goal.returns-in_err-row-clause-view
unfolding grow
returns-in_err-row-clause-view c = ap (λ r. grow (next_of c.args.group.0 c.args.path.0 c.args.dest.0 c.args.seq r) (view_after c.args.self.now.past.seat.me.0.deeds)) (sym c.from_residual-in_err-row.ensures)

pub returns-in_err-row-clause-exact : goal.returns-in_err-row-clause-exact
returns-in_err-row-clause-exact c =
    let hub = c.args.self.now in
    let v = view_after hub.past.seat.me.0.deeds in
    let few : c.args.dest.0 < 8 = ltb-true c.args.dest.0 8 (and_parts (nat_lt c.args.path.0 64) (nat_lt c.args.dest.0 8) c.requires.acts).1 in
    let buf = c.buffers_of-first.result.0 + c.in_ok-place.place in
    let row = c.in_ok-place.row in
    let place = place-found hub c.args.group.0 c.buffers_of-first.result.0 c.buffers_of-first.result.1 c.args.path.0 c.args.seq c.in_ok-place.place c.in_ok-place.row c.deref.result.now c.requires.group c.buffers_of-first.ensures.first c.buffers_of-first.ensures.last c.buffers_of-first.ensures.few c.deref.ensures.value c.in_ok-place.ensures in
    subst (IsNextOf v (groups_of hub) c.args.group.0 c.args.path.0 c.args.dest.0 c.args.seq) (sym c.from_residual-in_err-row.ensures)
    (next-apart (groups_of hub) hub.places.items hub.words.items hub.pools.items hub.takes v hub.shown c.args.path.0 c.args.dest.0 c.args.seq buf row c.requires.seq few place.at place.path_is place.seq_is c.args.group.0
    (λ some. let both : Some 0 ≡ None = sym (get_or_from_slice_get row.positions c.from.result (Some 0) None (ap (λ (i : ℕ). slice_get row.positions i) c.from.ensures ∙ some)) ∙ c.in_err-row.was in absurd cc))

pub returns-in_err-row-clause-fresh : goal.returns-in_err-row-clause-fresh
returns-in_err-row-clause-fresh c =
    let hub = c.args.self.now in
    let v = view_after hub.past.seat.me.0.deeds in
    subst (λ r. IsFresh v (floors_of (groups_of hub) v) (next_of c.args.group.0 c.args.path.0 c.args.dest.0 c.args.seq r)) (sym c.from_residual-in_err-row.ensures)
    (missed-fresh (groups_of hub) v c.args.group.0 c.args.path.0 c.args.dest.0 c.args.seq (subst (IsNextOf v (groups_of hub) c.args.group.0 c.args.path.0 c.args.dest.0 c.args.seq) c.from_residual-in_err-row.ensures (returns-in_err-row-clause-exact c)))

pub returns-in_err-row-clause-stays : goal.returns-in_err-row-clause-stays
returns-in_err-row-clause-stays c =
    let hub = c.args.self.now in
    let v = view_after hub.past.seat.me.0.deeds in
    subst (λ r. Stays (ByReader c.args.path.0 c.args.dest.0 (joins r)) SameMeans (port_of (groups_of hub) hub.takes v) (port_of (groups_of hub) hub.takes v)) (sym c.from_residual-in_err-row.ensures)
    (stays-missed hub c.args.group.0 c.args.path.0 c.args.dest.0 c.args.seq)

pub overflow_add-buf : goal.overflow_add-buf
overflow_add-buf c =
    let hub = c.args.self.now in
    let place = place-found hub c.args.group.0 c.buffers_of-first.result.0 c.buffers_of-first.result.1 c.args.path.0 c.args.seq c.in_ok-place.place c.in_ok-place.row c.deref.result.now c.requires.group c.buffers_of-first.ensures.first c.buffers_of-first.ensures.last c.buffers_of-first.ensures.few c.deref.ensures.value c.in_ok-place.ensures in
    omega (arith, place.few, hub-few hub)

pub overflow_cast-buf : goal.overflow_cast-buf
overflow_cast-buf c =
    let hub = c.args.self.now in
    let place = place-found hub c.args.group.0 c.buffers_of-first.result.0 c.buffers_of-first.result.1 c.args.path.0 c.args.seq c.in_ok-place.place c.in_ok-place.row c.deref.result.now c.requires.group c.buffers_of-first.ensures.first c.buffers_of-first.ensures.last c.buffers_of-first.ensures.few c.deref.ensures.value c.in_ok-place.ensures in
    omega (arith, place.few, hub-few hub)

pub invariant_of-self : goal.invariant_of-self
invariant_of-self c =
    let hub = c.args.self.now in
    let v = view_after hub.past.seat.me.0.deeds in
    let few : c.args.dest.0 < 8 = ltb-true c.args.dest.0 8 (and_parts (nat_lt c.args.path.0 64) (nat_lt c.args.dest.0 8) c.requires.acts).1 in
    let buf = c.buffers_of-first.result.0 + c.in_ok-place.place in
    let row = c.in_ok-place.row in
    let place = place-found hub c.args.group.0 c.buffers_of-first.result.0 c.buffers_of-first.result.1 c.args.path.0 c.args.seq c.in_ok-place.place c.in_ok-place.row c.deref.result.now c.requires.group c.buffers_of-first.ensures.first c.buffers_of-first.ensures.last c.buffers_of-first.ensures.few c.deref.ensures.value c.in_ok-place.ensures in
    let its = found (groups_of hub) hub.places.items hub.words.items hub.pools.items hub.takes v hub.shown c.args.path.0 c.args.dest.0 c.args.seq buf row c.requires.seq few place.at place.path_is place.seq_is in
    let below = next-for (groups_of hub) hub.places.items hub.words.items hub.pools.items hub.takes v hub.shown c.args.path.0 c.args.dest.0 c.args.seq buf row c.requires.seq few place.at place.path_is place.seq_is c.in_ok-row.field-0
    (ap (λ (i : ℕ). slice_get row.positions i) (sym c.from.ensures) ∙ position-read row.positions c.from.result c.in_ok-row.field-0 c.in_ok-row.was) in
    let after = after-joining (groups_of hub) hub.places.items hub.words.items hub.pools.items hub.takes v hub.shown c.args.path.0 c.args.dest.0 c.args.seq buf row.len row its.0 place.at place.path_is place.seq_is its.1 below (sym c.requires.seq)
    (record { session = its.0; next = sym c.requires.seq; known = its.1; for = below; buf_is = sym (ap (λ x. x.0) its.2); len_is = sym (ap (λ x. x.1) its.2) }) in
    let all = subst (IsShown (groups_of hub) hub.places.items hub.words.items hub.pools.items hub.takes) (sym (ap view_after c.note.ensures)) after in
    record { laid = hub.laid; shown = all }

pub returns-clause-joins : goal.returns-clause-joins
returns-clause-joins c =
    let hub = c.args.self.now in
    let v = view_after hub.past.seat.me.0.deeds in
    let few : c.args.dest.0 < 8 = ltb-true c.args.dest.0 8 (and_parts (nat_lt c.args.path.0 64) (nat_lt c.args.dest.0 8) c.requires.acts).1 in
    let buf = c.buffers_of-first.result.0 + c.in_ok-place.place in
    let row = c.in_ok-place.row in
    let place = place-found hub c.args.group.0 c.buffers_of-first.result.0 c.buffers_of-first.result.1 c.args.path.0 c.args.seq c.in_ok-place.place c.in_ok-place.row c.deref.result.now c.requires.group c.buffers_of-first.ensures.first c.buffers_of-first.ensures.last c.buffers_of-first.ensures.few c.deref.ensures.value c.in_ok-place.ensures in
    let its = found (groups_of hub) hub.places.items hub.words.items hub.pools.items hub.takes v hub.shown c.args.path.0 c.args.dest.0 c.args.seq buf row c.requires.seq few place.at place.path_is place.seq_is in (
      refl,
      omega (arith, ((streams (groups_of hub) v hub.shown.led).written c.args.path.0 c.args.seq its.0 its.1).some, ap (λ x. x.1) its.2),
      omega (arith, slice_get_within (v.sessions c.args.path.0) c.args.seq its.0 its.1, hub.shown.counts.sessions c.args.path.0),
      reads-joining c.args.path c.args.dest _ _ _ _ _ _ c.requires.seq (ap view_after c.note.ensures) refl,
    )

pub returns-clause-stays : goal.returns-clause-stays
returns-clause-stays c =
    stays-same c.args.self.now (Joining c.args.path.0 c.args.dest.0 c.args.seq (c.buffers_of-first.result.0 + c.in_ok-place.place) c.in_ok-place.row.len) _ (ap view_after c.note.ensures) (by-joining _ _ _ _ _ _ _ (ap view_after c.note.ensures))

pub returns-clause-exact : goal.returns-clause-exact
returns-clause-exact c =
    let hub = c.args.self.now in
    let v = view_after hub.past.seat.me.0.deeds in
    let few : c.args.dest.0 < 8 = ltb-true c.args.dest.0 8 (and_parts (nat_lt c.args.path.0 64) (nat_lt c.args.dest.0 8) c.requires.acts).1 in
    let buf = c.buffers_of-first.result.0 + c.in_ok-place.place in
    let row = c.in_ok-place.row in
    let place = place-found hub c.args.group.0 c.buffers_of-first.result.0 c.buffers_of-first.result.1 c.args.path.0 c.args.seq c.in_ok-place.place c.in_ok-place.row c.deref.result.now c.requires.group c.buffers_of-first.ensures.first c.buffers_of-first.ensures.last c.buffers_of-first.ensures.few c.deref.ensures.value c.in_ok-place.ensures in
    let its = found (groups_of hub) hub.places.items hub.words.items hub.pools.items hub.takes v hub.shown c.args.path.0 c.args.dest.0 c.args.seq buf row c.requires.seq few place.at place.path_is place.seq_is in
    let below = next-for (groups_of hub) hub.places.items hub.words.items hub.pools.items hub.takes v hub.shown c.args.path.0 c.args.dest.0 c.args.seq buf row c.requires.seq few place.at place.path_is place.seq_is c.in_ok-row.field-0
    (ap (λ (i : ℕ). slice_get row.positions i) (sym c.from.ensures) ∙ position-read row.positions c.from.result c.in_ok-row.field-0 c.in_ok-row.was) in
    (its.0, its.1, ap (group_of (groups_of hub)) (ap (λ x. x.0) its.2) ∙ place.its, below, sym (ap (λ x. x.0) its.2), sym (ap (λ x. x.1) its.2))
