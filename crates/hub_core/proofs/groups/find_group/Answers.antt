use Rattle.std.proofs.Common.{ap, arith}
use Rattle.std.proofs.lemmas.List.{take_all}
use Rattle.std.specs.Prelude.{sum}
use Rattle.hub_core.proofs.Beginnings.{start-next}
use Rattle.hub_core.proofs.groups.find_group.Goals as goal

pub loop-group-preserved : goal.loop-group-preserved
loop-group-preserved c = omega (arith, start-next c.args.counts.now c.loop-group.group c.loop-group-test.true, c.loop-group.invariant, c.from-buffers.ensures, c.if-place-buffers.false)

pub unreachable-requires : goal.unreachable-requires
unreachable-requires c = omega (arith, c.loop-group.invariant, c.requires, c.loop-group-test.false, ap sum (take_all c.loop-group.group c.args.counts.now (omega (arith, c.loop-group-test.false))))
