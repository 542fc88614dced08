use Rattle.std.proofs.Common.{arith}
use Rattle.hub_layout.proofs.Firsts.{few-buffers}
use Rattle.hub_layout.proofs.layout.Layout.of.Goals as goal

pub unreachable-requires : goal.unreachable-requires
unreachable-requires c = let few = few-buffers c.args.cells.now c.args.sizes.now c.requires in absurd (omega (arith, few, c.in_default.ensures))
