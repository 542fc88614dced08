use Rattle.std.proofs.Common.{arith}
use Rattle.if_core.proofs.Keeping.{queued-few}
use Rattle.if_core.proofs.queue.PlainQueue.offer.Goals as goal

pub append-requires-clause-few : goal.append-requires-clause-few
append-requires-clause-few c = let h = queued-few c.args.self.now.past.seat.me.0.offers in omega (arith, h, c.requires.room, c.args.self.now.counted)

pub flush-requires-clause-few : goal.flush-requires-clause-few
flush-requires-clause-few c = let h = queued-few c.args.self.now.past.seat.me.0.offers in omega (arith, h, c.requires.room, c.args.self.now.counted)
