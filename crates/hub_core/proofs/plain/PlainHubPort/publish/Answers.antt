use Rattle.std.proofs.Common.{ap, sym, subst, refl}
use Rattle.std.specs.Prelude.{slice_set}
use Rattle.hub_core.proofs.Growing.{same-opened, writes-published, by-published}
use Rattle.hub_core.proofs.Hubs.{laid-place, stays-same, party-at, party-there, party-row}
use Rattle.hub_core.proofs.Led.{published-may}
use Rattle.hub_core.proofs.Shown.{after-published}
use Rattle.hub_core.proofs.plain.PlainHubPort.publish.Goals as goal
use Rattle.hub_core.specs.HubPort.{groups_of}
use Rattle.hub_core.specs.Past.{view_after}
use Rattle.hub_core.specs.Plain.{IsShown}
use Rattle.hub_core.specs.View.{Published}
use Rattle.hub_core.specs.declared.place.Place.TheVariants.{Occupied}
use Rattle.hub_core.specs.declared.token.End.TheVariants.{Write}

pub index-requires : goal.index-requires
index-requires c = party-at c.args.self.now (Write c.args.at.now) c.from-buf.result c.requires.writes c.from-buf.ensures

pub unreachable-requires : goal.unreachable-requires
unreachable-requires c = party-there c.args.self.now (Write c.args.at.now) c.from-buf.result c.index.result.now c.requires.writes c.from-buf.ensures c.index.ensures c.in_default.not-Occupied

pub index_mut-requires : goal.index_mut-requires
index_mut-requires c = party-at c.args.self.now (Write c.args.at.now) c.from-buf.result c.requires.writes c.from-buf.ensures

pub invariant_of-self : goal.invariant_of-self
invariant_of-self c =
    let hub = c.args.self.now in
    let v = view_after hub.past.seat.me.0.deeds in
    let t = c.args.at.now in
    let row = c.in-Occupied.row in
    let found = party-row hub (Write t) c.from-buf.result c.index.result.now row c.requires.writes c.from-buf.ensures c.index.ensures c.in-Occupied.is in
    let next = Occupied (record row { shown = t.put; told = t.given }) in
    let new = slice_set hub.places.items c.from-buf.result next in
    let after = after-published (groups_of hub) hub.places.items hub.words.items hub.pools.items hub.takes v hub.shown t row new c.args.bytes c.requires.writes found.0 found.1 found.2 c.requires.bytes
    (ap (λ i. slice_set hub.places.items i next) c.from-buf.ensures) (published-may v t c.args.bytes c.requires.writes c.requires.bytes) in
    let all = subst (IsShown (groups_of hub) new hub.words.items hub.pools.items hub.takes) (sym (ap view_after c.note.ensures)) after in
    record { laid = laid-place _ _ _ _ _ _ _ hub.laid; shown = all }

pub returns-clause-writes : goal.returns-clause-writes
returns-clause-writes c = writes-published _ _ _ _ c.args.bytes c.requires.writes c.requires.bytes (ap view_after c.note.ensures) (same-opened _ _ refl)

pub returns-clause-stays : goal.returns-clause-stays
returns-clause-stays c = stays-same c.args.self.now (Published c.args.at.now.path.0 c.args.at.now.seq c.args.bytes) _ (ap view_after c.note.ensures) (by-published _ _ _ _ _ (ap view_after c.note.ensures))
