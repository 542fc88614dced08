use Rattle.std.proofs.Common.{arith}
use Rattle.std.proofs.lemmas.Nat.{one_shl}
use Rattle.pool_words.proofs.Bits.{free-fits}
use Rattle.pool_words.proofs.pool.after_free.Goals as goal

pub overflow_add-result-2 : goal.overflow_add-result-2
overflow_add-result-2 c = omega (arith, one_shl c.args.place 32 c.requires.place, free-fits c.args.pool.free 32 c.args.place (omega (arith, c.ranges)) c.requires.place c.requires.taken)
