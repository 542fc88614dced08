use Rattle.std.proofs.Common.{ap, sym, subst, refl}
use Rattle.hub_core.proofs.Fresh.{room-fresh}
use Rattle.hub_core.proofs.Growing.{same-opened, writes-asked, by-asked}
use Rattle.hub_core.proofs.Hubs.{stays-same, party-at, party-there, party-row}
use Rattle.hub_core.proofs.Led.{asked-may}
use Rattle.hub_core.proofs.Looks.{positions-within, room-exact, room-bounds}
use Rattle.hub_core.proofs.Shown.{after-asked}
use Rattle.hub_core.proofs.plain.PlainHubPort.room.Goals as goal
use Rattle.hub_core.specs.HubPort.{groups_of}
use Rattle.hub_core.specs.Past.{view_after}
use Rattle.hub_core.specs.Plain.{IsShown}
use Rattle.hub_core.specs.View.{Asked}
use Rattle.hub_core.specs.declared.token.End.TheVariants.{Write}

pub index-requires : goal.index-requires
index-requires c = party-at c.args.self.now (Write c.args.at.now) c.from.result c.requires c.from.ensures

pub unreachable-requires : goal.unreachable-requires
unreachable-requires c = party-there c.args.self.now (Write c.args.at.now) c.from.result c.index.result.now c.requires c.from.ensures c.index.ensures c.in_default.not-Occupied

pub room_left-room-requires : goal.room_left-room-requires
room_left-room-requires c =
    let hub = c.args.self.now in
    let found = party-row hub (Write c.args.at.now) c.from.result c.index.result.now c.in-Occupied.row c.requires c.from.ensures c.index.ensures c.in-Occupied.is in
    positions-within (groups_of hub) hub.places.items hub.words.items hub.pools.items hub.takes (view_after hub.past.seat.me.0.deeds) hub.shown c.args.at.now c.in-Occupied.row c.requires found.0 found.1 found.2

pub returns-clause-exact : goal.returns-clause-exact
returns-clause-exact c =
    let hub = c.args.self.now in
    let found = party-row hub (Write c.args.at.now) c.from.result c.index.result.now c.in-Occupied.row c.requires c.from.ensures c.index.ensures c.in-Occupied.is in
    room-exact (groups_of hub) hub.places.items hub.words.items hub.pools.items hub.takes (view_after hub.past.seat.me.0.deeds) hub.shown c.args.at.now c.in-Occupied.row c.requires found.0 found.1 found.2 c.room_left-room.result c.room_left-room.ensures

pub returns-clause-cells : goal.returns-clause-cells
returns-clause-cells c =
    let hub = c.args.self.now in
    let found = party-row hub (Write c.args.at.now) c.from.result c.index.result.now c.in-Occupied.row c.requires c.from.ensures c.index.ensures c.in-Occupied.is in
    room-bounds (groups_of hub) hub.places.items hub.words.items hub.pools.items hub.takes (view_after hub.past.seat.me.0.deeds) hub.shown c.args.at.now c.in-Occupied.row c.requires found.0 found.1 found.2 c.room_left-room.result c.room_left-room.ensures

pub invariant_of-self : goal.invariant_of-self
invariant_of-self c =
    let hub = c.args.self.now in
    let v = view_after hub.past.seat.me.0.deeds in
    let found = party-row hub (Write c.args.at.now) c.from.result c.index.result.now c.in-Occupied.row c.requires c.from.ensures c.index.ensures c.in-Occupied.is in
    let room = c.room_left-room.result in
    let bounds = room-bounds (groups_of hub) hub.places.items hub.words.items hub.pools.items hub.takes v hub.shown c.args.at.now c.in-Occupied.row c.requires found.0 found.1 found.2 room c.room_left-room.ensures in
    let exact = room-exact (groups_of hub) hub.places.items hub.words.items hub.pools.items hub.takes v hub.shown c.args.at.now c.in-Occupied.row c.requires found.0 found.1 found.2 room c.room_left-room.ensures in
    let after = after-asked (groups_of hub) hub.places.items hub.words.items hub.pools.items hub.takes v hub.shown c.args.at.now c.in-Occupied.row room c.requires found.0 found.1 found.2
    (asked-may v c.args.at.now room c.requires exact bounds.1) in
    let all = subst (IsShown (groups_of hub) hub.places.items hub.words.items hub.pools.items hub.takes) (sym (ap view_after c.note.ensures)) after in
    record { laid = hub.laid; shown = all }

pub returns-clause-writes : goal.returns-clause-writes
returns-clause-writes c =
    let bounds = returns-clause-cells c in
    writes-asked _ _ _ _ c.room_left-room.result c.requires bounds.0 bounds.1 (ap view_after c.note.ensures) (same-opened _ _ refl)

pub returns-clause-fresh : goal.returns-clause-fresh
returns-clause-fresh c = room-fresh (groups_of c.args.self.now) (view_after c.args.self.now.past.seat.me.0.deeds) c.args.at.now c.room_left-room.result c.requires (returns-clause-exact c) (returns-clause-cells c)

pub returns-clause-stays : goal.returns-clause-stays
returns-clause-stays c = stays-same c.args.self.now (Asked c.args.at.now.path.0 c.args.at.now.seq c.room_left-room.result.cells c.room_left-room.result.readers) _ (ap view_after c.note.ensures) (by-asked _ _ _ _ _ _ (ap view_after c.note.ensures))
