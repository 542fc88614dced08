use Rattle.pool_words.proofs.Fits.{IsFitTo}
use Rattle.pool_words.proofs.fit.smallest_fitting.Given as goal

abbrev pub invariant-loop-buf : goal.invariant-loop-buf
invariant-loop-buf l = IsFitTo l.sizes l.free l.need l.buf l.best
