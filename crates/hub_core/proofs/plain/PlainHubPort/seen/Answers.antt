use Rattle.std.proofs.Common.{ap, sym, subst, refl}
use Rattle.hub_core.proofs.Growing.{same-joined, reads-saw, by-saw}
use Rattle.hub_core.proofs.Hubs.{stays-same, party-at, party-there, party-row}
use Rattle.hub_core.proofs.Led.{saw-may}
use Rattle.hub_core.proofs.Ledger.{streams}
use Rattle.hub_core.proofs.Looks.{seen-exact, seen-rises, seen-fresh}
use Rattle.hub_core.proofs.Shown.{after-saw}
use Rattle.hub_core.proofs.plain.PlainHubPort.seen.Goals as goal
use Rattle.hub_core.specs.HubPort.{groups_of}
use Rattle.hub_core.specs.Past.{view_after}
use Rattle.hub_core.specs.Plain.{IsShown}
use Rattle.hub_core.specs.View.{Saw}
use Rattle.hub_core.specs.declared.port.Seen.{Seen}
use Rattle.hub_core.specs.declared.token.End.TheVariants.{Read}

pub index-requires : goal.index-requires
index-requires c = party-at c.args.self.now (Read c.args.at.now) c.from.result c.requires c.from.ensures

pub unreachable-requires : goal.unreachable-requires
unreachable-requires c = party-there c.args.self.now (Read c.args.at.now) c.from.result c.index.result.now c.requires c.from.ensures c.index.ensures c.in_default.not-Occupied

pub returns-clause-exact : goal.returns-clause-exact
returns-clause-exact c =
    let hub = c.args.self.now in
    let found = party-row hub (Read c.args.at.now) c.from.result c.index.result.now c.in-Occupied.row c.requires c.from.ensures c.index.ensures c.in-Occupied.is in
    seen-exact (groups_of hub) hub.places.items hub.words.items hub.pools.items hub.takes (view_after hub.past.seat.me.0.deeds) hub.shown c.args.at.now c.in-Occupied.row c.requires found.0 found.1 found.2

pub returns-clause-cells : goal.returns-clause-cells
returns-clause-cells c =
    let hub = c.args.self.now in
    let found = party-row hub (Read c.args.at.now) c.from.result c.index.result.now c.in-Occupied.row c.requires c.from.ensures c.index.ensures c.in-Occupied.is in
    seen-rises (groups_of hub) hub.places.items hub.words.items hub.pools.items hub.takes (view_after hub.past.seat.me.0.deeds) hub.shown c.args.at.now c.in-Occupied.row c.requires found.0 found.1 found.2

pub invariant_of-self : goal.invariant_of-self
invariant_of-self c =
    let hub = c.args.self.now in
    let v = view_after hub.past.seat.me.0.deeds in
    let found = party-row hub (Read c.args.at.now) c.from.result c.index.result.now c.in-Occupied.row c.requires c.from.ensures c.index.ensures c.in-Occupied.is in
    let row = c.in-Occupied.row in
    let seen : Seen = record { cells = row.shown; bytes = row.told; writer = row.writes } in
    let exact = seen-exact (groups_of hub) hub.places.items hub.words.items hub.pools.items hub.takes v hub.shown c.args.at.now row c.requires found.0 found.1 found.2 in
    let rises = seen-rises (groups_of hub) hub.places.items hub.words.items hub.pools.items hub.takes v hub.shown c.args.at.now row c.requires found.0 found.1 found.2 in
    let after = after-saw (groups_of hub) hub.places.items hub.words.items hub.pools.items hub.takes v hub.shown c.args.at.now row seen c.requires found.0 found.1 found.2
    (saw-may v c.args.at.now seen (streams (groups_of hub) v hub.shown.led) c.requires rises exact) in
    let all = subst (IsShown (groups_of hub) hub.places.items hub.words.items hub.pools.items hub.takes) (sym (ap view_after c.note.ensures)) after in
    record { laid = hub.laid; shown = all }

pub returns-clause-reads : goal.returns-clause-reads
returns-clause-reads c = reads-saw _ _ _ _ _ c.requires (returns-clause-cells c) (ap view_after c.note.ensures) (same-joined _ _ refl)

pub returns-clause-fresh : goal.returns-clause-fresh
returns-clause-fresh c =
    let hub = c.args.self.now in
    let found = party-row hub (Read c.args.at.now) c.from.result c.index.result.now c.in-Occupied.row c.requires c.from.ensures c.index.ensures c.in-Occupied.is in
    seen-fresh (groups_of hub) hub.places.items hub.words.items hub.pools.items hub.takes (view_after hub.past.seat.me.0.deeds) hub.shown c.args.at.now c.in-Occupied.row c.requires found.0 found.1 found.2

pub returns-clause-stays : goal.returns-clause-stays
returns-clause-stays c = stays-same c.args.self.now (Saw c.args.at.now.path.0 c.args.at.now.dest.0 c.args.at.now.seq c.in-Occupied.row.shown c.in-Occupied.row.told c.in-Occupied.row.writes) _ (ap view_after c.note.ensures) (by-saw _ _ _ _ _ _ _ _ (ap view_after c.note.ensures))
