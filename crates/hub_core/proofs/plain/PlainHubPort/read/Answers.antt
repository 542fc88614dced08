use Rattle.std.proofs.Common.{ℕ, ◌%◌, ap, sym, subst, arith, rules}
use Rattle.std.specs.Prelude.{slice_set}
use Rattle.hub_core.proofs.Growing.{reads-read, by-read}
use Rattle.hub_core.proofs.Hubs.{laid-place, stays-same, party-at, party-there, party-row, start-at, start-read, size-at, size-read, size-above, word-at, word-read, joined-size}
use Rattle.hub_core.proofs.Led.{read-may}
use Rattle.hub_core.proofs.Ledger.{streams}
use Rattle.hub_core.proofs.Looks.{read-next, read-cell, read-within}
use Rattle.hub_core.proofs.Shown.{reader-session, after-read}
use Rattle.hub_core.proofs.plain.PlainHubPort.read.Goals as goal
use Rattle.hub_core.specs.HubPort.{groups_of}
use Rattle.hub_core.specs.Past.{view_after}
use Rattle.hub_core.specs.Plain.{IsShown}
use Rattle.hub_core.specs.View.{Read as ReadEvent}
use Rattle.hub_core.specs.declared.place.Place.TheVariants.{Occupied}
use Rattle.hub_core.specs.declared.token.End.TheVariants.{Read}

pub index-requires : goal.index-requires
index-requires c = party-at c.args.self.now (Read c.args.at.now) c.from-buf.result c.requires.reads c.from-buf.ensures

pub unreachable-requires : goal.unreachable-requires
unreachable-requires c = party-there c.args.self.now (Read c.args.at.now) c.from-buf.result c.index.result.now c.requires.reads c.from-buf.ensures c.index.ensures c.in_default.not-Occupied

pub index-requires-2 : goal.index-requires-2
index-requires-2 c =
    let hub = c.args.self.now in
    let its = joined-size hub c.args.at.now c.requires.reads c.requires.more in
    start-at hub c.args.at.now.buf.0 its.0 c.from-buf.result its.1 c.from-buf.ensures

pub index-requires-3 : goal.index-requires-3
index-requires-3 c =
    let hub = c.args.self.now in
    let its = joined-size hub c.args.at.now c.requires.reads c.requires.more in
    size-at hub c.args.at.now.buf.0 its.0 c.from-buf.result its.1 c.from-buf.ensures

pub nonzero_rem-at : goal.nonzero_rem-at
nonzero_rem-at c =
    let hub = c.args.self.now in
    let its = joined-size hub c.args.at.now c.requires.reads c.requires.more in
    omega (arith, size-above hub c.args.at.now.buf.0 its.0 its.1, size-read hub c.args.at.now.buf.0 its.0 c.from-buf.result c.index-3.result.now its.1 c.from-buf.ensures c.index-3.ensures)

pub overflow_add-index : goal.overflow_add-index
overflow_add-index c =
    let hub = c.args.self.now in
    let t = c.args.at.now in
    let its = joined-size hub t c.requires.reads c.requires.more in
    let size-is = size-read hub t.buf.0 its.0 c.from-buf.result c.index-3.result.now its.1 c.from-buf.ensures c.index-3.ensures in
    let low = (word-at hub t.buf.0 its.0 t.at c.index-2.result.now its.1 (start-read hub t.buf.0 its.0 c.from-buf.result c.index-2.result.now its.1 c.from-buf.ensures c.index-2.ensures)).1 in
    omega (arith, low, ap (λ (n : ℕ). t.at % n) size-is)

pub index-cell-requires : goal.index-cell-requires
index-cell-requires c =
    let hub = c.args.self.now in
    let t = c.args.at.now in
    let its = joined-size hub t c.requires.reads c.requires.more in
    let size-is = size-read hub t.buf.0 its.0 c.from-buf.result c.index-3.result.now its.1 c.from-buf.ensures c.index-3.ensures in
    let low = (word-at hub t.buf.0 its.0 t.at c.index-2.result.now its.1 (start-read hub t.buf.0 its.0 c.from-buf.result c.index-2.result.now its.1 c.from-buf.ensures c.index-2.ensures)).0 in
    omega (arith, low, ap (λ (n : ℕ). t.at % n) size-is)

pub advanced-requires : goal.advanced-requires
advanced-requires c =
    let hub = c.args.self.now in
    let t = c.args.at.now in
    let its = reader-session (groups_of hub) hub.places.items hub.words.items hub.pools.items hub.takes (view_after hub.past.seat.me.0.deeds) hub.shown t c.requires.reads in
    omega (arith, its.3, hub.shown.counts.dests t.path.0 t.seq its.0 its.1)

pub index_mut-requires : goal.index_mut-requires
index_mut-requires c = party-at c.args.self.now (Read c.args.at.now) c.from-buf.result c.requires.reads c.from-buf.ensures

pub invariant_of-self : goal.invariant_of-self
invariant_of-self c =
    let hub = c.args.self.now in
    let v = view_after hub.past.seat.me.0.deeds in
    let t = c.args.at.now in
    let row = c.in-Occupied.row in
    let known = c.requires.reads in
    let cell = c.index-cell.result.now in
    let found = party-row hub (Read t) c.from-buf.result c.index.result.now row known c.from-buf.ensures c.index.ensures c.in-Occupied.is in
    let word = word-read hub t c.from-buf.result c.index-2.result.now c.index-3.result.now cell known c.requires.more c.from-buf.ensures c.index-2.ensures c.index-3.ensures c.index-cell.ensures in
    let new = slice_set hub.places.items c.from-buf.result (Occupied c.advanced.result) in
    let after = after-read (groups_of hub) hub.places.items hub.words.items hub.pools.items hub.takes v hub.shown t row new cell known found.0 found.1 found.2
    ((λ i. slice_set hub.places.items (c.from-buf.ensures i) (Occupied (c.advanced.ensures i))))
    (read-may v t cell (streams (groups_of hub) v hub.shown.led) known c.requires.more (read-next (groups_of hub) hub.places.items hub.words.items hub.pools.items hub.takes v hub.shown t known c.requires.more cell word)) in
    let all = subst (IsShown (groups_of hub) new hub.words.items hub.pools.items hub.takes) (sym (ap view_after c.note.ensures)) after in
    record { laid = laid-place _ _ _ _ _ _ _ hub.laid; shown = all }

pub returns-clause-cell : goal.returns-clause-cell
returns-clause-cell c =
    let hub = c.args.self.now in
    let word = word-read hub c.args.at.now c.from-buf.result c.index-2.result.now c.index-3.result.now c.index-cell.result.now c.requires.reads c.requires.more c.from-buf.ensures c.index-2.ensures c.index-3.ensures c.index-cell.ensures in
    read-cell (groups_of hub) hub.places.items hub.words.items hub.pools.items hub.takes (view_after hub.past.seat.me.0.deeds) hub.shown c.args.at.now c.requires.reads c.requires.more c.index-cell.result.now word

pub returns-clause-len : goal.returns-clause-len
returns-clause-len c =
    let hub = c.args.self.now in
    let word = word-read hub c.args.at.now c.from-buf.result c.index-2.result.now c.index-3.result.now c.index-cell.result.now c.requires.reads c.requires.more c.from-buf.ensures c.index-2.ensures c.index-3.ensures c.index-cell.ensures in
    read-within (groups_of hub) hub.places.items hub.words.items hub.pools.items hub.takes (view_after hub.past.seat.me.0.deeds) hub.shown c.args.at.now c.requires.reads c.requires.more c.index-cell.result.now word

pub overflow_add-at-3 : goal.overflow_add-at-3
overflow_add-at-3 c =
    let hub = c.args.self.now in
    let word = word-read hub c.args.at.now c.from-buf.result c.index-2.result.now c.index-3.result.now c.index-cell.result.now c.requires.reads c.requires.more c.from-buf.ensures c.index-2.ensures c.index-3.ensures c.index-cell.ensures in
    let fits = read-within (groups_of hub) hub.places.items hub.words.items hub.pools.items hub.takes (view_after hub.past.seat.me.0.deeds) hub.shown c.args.at.now c.requires.reads c.requires.more c.index-cell.result.now word in
    omega (arith, fits, c.requires.reads.says.len, c.bytes_counted.ensures)

pub returns-clause-reads : goal.returns-clause-reads
returns-clause-reads c = reads-read _ _ _ _ _ c.requires.reads c.requires.more (returns-clause-len c) (ap view_after c.note.ensures) (search rules)

pub returns-clause-stays : goal.returns-clause-stays
returns-clause-stays c = stays-same c.args.self.now (ReadEvent c.args.at.now.path.0 c.args.at.now.dest.0 c.args.at.now.seq c.index-cell.result.now) _ (ap view_after c.note.ensures) (by-read _ _ _ _ _ _ (ap view_after c.note.ensures))
