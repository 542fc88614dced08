use Rattle.std.proofs.Common.{◌+◌, ◌<◌, length, arith}
use Rattle.hub_core.proofs.Beginnings.{start-next}
use Rattle.hub_core.proofs.Cut.{first-few}
use Rattle.hub_core.proofs.groups.first_buffer.Goals as goal

pub overflow_add-first : goal.overflow_add-first
overflow_add-first c =
    let low : c.loop-before.before < length c.args.counts.now = omega (arith, c.loop-before-test.true, c.requires.there) in
    let next = start-next c.args.counts.now c.loop-before.before low in
    omega (arith, next, c.loop-before.invariant, c.from-first.ensures, first-few c.args.counts.now (c.loop-before.before + 1) c.requires.groups c.requires.buffers)

pub loop-before-preserved : goal.loop-before-preserved
loop-before-preserved c =
    let low : c.loop-before.before < length c.args.counts.now = omega (arith, c.loop-before-test.true, c.requires.there) in
    omega (arith, start-next c.args.counts.now c.loop-before.before low, c.loop-before.invariant, c.from-first.ensures)
