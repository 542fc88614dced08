use Rattle.std.proofs.Common.{ℕ, ap, sym, subst, refl, true}
use Rattle.std.specs.Prelude.{slice_set}
use Rattle.hub_core.proofs.Growing.{writes-entered, by-entered}
use Rattle.hub_core.proofs.Hubs.{laid-place, stays-same}
use Rattle.hub_core.proofs.Led.{entered-may}
use Rattle.hub_core.proofs.Taking.{after-entered}
use Rattle.hub_core.proofs.plain.PlainHubPort.enter.Goals as goal
use Rattle.hub_core.specs.HubPort.{groups_of}
use Rattle.hub_core.specs.Past.{view_after}
use Rattle.hub_core.specs.Plain.{IsShown}
use Rattle.hub_core.specs.View.{Entered}
use Rattle.hub_core.specs.declared.place.Place.TheVariants.{Occupied}

pub invariant_of-self : goal.invariant_of-self
invariant_of-self c =
    let hub = c.args.self.now in
    let v = view_after hub.past.seat.me.0.deeds in
    let held = c.args.held in
    let place = Occupied (record { path = c.args.path.0; seq = c.args.seq; len = c.args.len; shown = 0; told = 0; writes = true; positions = c.first_positions.result }) in
    let new = slice_set hub.places.items c.from.result place in
    let after = after-entered (groups_of hub) hub.places.items hub.words.items hub.pools.items hub.takes v hub.shown c.args.path.0 c.args.seq held.buf.0 held.change held.cells c.args.len c.args.readers new c.first_positions.result
    (entered-may v held c.args.path.0 c.args.seq c.args.len c.args.readers c.requires.held c.requires.seq c.requires.len c.requires.readers.0) c.requires.readers.1 c.first_positions.ensures
    (ap (λ (i : ℕ). slice_set hub.places.items i place) c.from.ensures) in
    let all = subst (IsShown (groups_of hub) new hub.words.items hub.pools.items hub.takes) (sym (ap view_after c.note.ensures)) after in
    record { laid = laid-place _ _ _ _ _ _ _ hub.laid; shown = all }

pub returns-clause-writes : goal.returns-clause-writes
returns-clause-writes c = writes-entered c.args.held c.args.path _ _ _ _ _ _ c.requires.seq (ap view_after c.note.ensures) refl

pub returns-clause-stays : goal.returns-clause-stays
returns-clause-stays c = stays-same c.args.self.now (Entered c.args.path.0 c.args.seq c.args.held.buf.0 c.args.held.change c.args.held.cells c.args.len c.args.readers) _ (ap view_after c.note.ensures) (by-entered _ _ _ _ _ _ _ _ _ (ap view_after c.note.ensures))
