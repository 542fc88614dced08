use Rattle.std.proofs.Common.{arith}
use Rattle.std.proofs.lemmas.Nat.{one_shl}
use Rattle.pool_words.proofs.Bits.{set-digit, digit-there}
use Rattle.pool_words.proofs.pool.after_take.Goals as goal

pub overflow_sub-result : goal.overflow_sub-result
overflow_sub-result c = omega (arith, one_shl c.args.place 32 c.requires.place, digit-there c.args.pool.free c.args.place (set-digit c.args.pool.free c.args.place c.requires.free))
