use Rattle.hub_shared.proofs.Hubs.{in-layout, in-rule, word-there}
use Rattle.hub_shared.proofs.Learns.{learns}
use Rattle.hub_shared.proofs.hub.SharedHub.pool.Goals as goal

pub pool-at-requires : goal.pool-at-requires
pool-at-requires c = in-layout c.args.self.now c.args.group.0 c.requires.group

pub load-requires : goal.load-requires
load-requires c = (
  c.requires.seat.of,
  word-there c.args.self.now c.args.group.0 c.pool-at.result c.requires.group c.pool-at.ensures,
  learns _ _ _ _ _ c.args.seat.now.live (in-rule c.args.self.now c.args.group.0 c.pool-at.result c.requires.group c.pool-at.ensures),
)
