use Rattle.std.proofs.Common.{arith}
use Rattle.std.proofs.lemmas.Bool.{leb-true, le-leb, eqb-true}
use Rattle.pool_words.proofs.Fits.{fits-from, fits-set}
use Rattle.pool_words.proofs.fit.fits.Goals as goal

pub returns-then-free-buf-eq1 : goal.returns-then-free-buf-eq1
returns-then-free-buf-eq1 c = (
  λ enough. fits-from c.args.sizes.now c.args.free c.args.need c.args.buf c.requires.there c.if-free-buf-eq1.true (omega (arith, leb-true c.args.need c.from.result enough, c.from.ensures)),
  λ fits. le-leb c.args.need c.from.result (omega (arith, fits.enough, c.from.ensures)),
)

pub returns-else-free-buf-eq1 : goal.returns-else-free-buf-eq1
returns-else-free-buf-eq1 c = (
  λ set. absurd (c.if-free-buf-eq1.false (eqb-true _ _ set)),
  λ fits. absurd (c.if-free-buf-eq1.false (fits-set c.args.sizes.now c.args.free c.args.need c.args.buf fits)),
)
