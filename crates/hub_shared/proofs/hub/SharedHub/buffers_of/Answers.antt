use Rattle.std.proofs.Common.{◌≡◌, arith}
use Rattle.hub_core.specs.Groups.{first_of}
use Rattle.hub_shared.proofs.Hubs.{groups-long, count-at, count-read, group-within}
use Rattle.hub_shared.proofs.hub.SharedHub.buffers_of.Goals as goal

pub first_buffer-first-requires-clause-there : goal.first_buffer-first-requires-clause-there
first_buffer-first-requires-clause-there c = omega (arith, c.from-group.ensures, c.requires, groups-long c.args.self.now, c.deref.ensures.len, c.args.self.now.buffers.counts.ok.0)

pub index-requires : goal.index-requires
index-requires c = count-at c.args.self.now c.args.group.0 c.from-group.result c.requires c.from-group.ensures

pub returns-clause-last : goal.returns-clause-last
returns-clause-last c = omega (arith, c.from.ensures, count-read c.args.self.now c.args.group.0 c.from-group.result c.index.result.now c.requires c.from-group.ensures c.index.ensures)

pub returns-clause-few : goal.returns-clause-few
returns-clause-few c =
    let same : first_of c.deref.result.now c.from-group.result ≡ first_of c.args.self.now.buffers.counts.items c.args.group.0 = (λ i. first_of (c.deref.ensures.value i) (c.from-group.ensures i)) in
    omega (arith, c.from.ensures, c.first_buffer-first.ensures, same, count-read c.args.self.now c.args.group.0 c.from-group.result c.index.result.now c.requires c.from-group.ensures c.index.ensures, group-within c.args.self.now c.args.group.0 c.requires)
