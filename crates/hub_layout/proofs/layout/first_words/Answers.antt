use Rattle.std.proofs.Common.{◌<◌, ◌+◌, ap, arith, length}
use Rattle.hub_layout.proofs.Firsts.{long, most, next}
use Rattle.hub_layout.proofs.layout.first_words.Goals as goal

pub push-requires : goal.push-requires
push-requires c = (
  omega arith,
  (let so = long c.args.groups c.args.cells.now c.loop-buf.buf in let few : length c.loop-buf.firsts.items < 128 = omega (arith, ap length c.loop-buf.invariant.0, so, c.loop-buf-test.true, c.requires.few) in few),
)

pub overflow_add-next-in-loop-buf : goal.overflow_add-next-in-loop-buf
overflow_add-next-in-loop-buf c =
    let on = next c.args.groups c.args.cells.now c.loop-buf.buf c.loop-buf-test.true in
    let few = most c.args.groups c.args.cells.now (c.loop-buf.buf + 1) c.requires.groups c.requires.few (omega (arith, c.loop-buf-test.true)) c.requires.cells in
    omega (arith, on, few, c.loop-buf.invariant.1)
