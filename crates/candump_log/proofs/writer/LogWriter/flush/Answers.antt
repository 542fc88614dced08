-- Each call appends the next bytes of what is held.
use Rattle.std.proofs.Common.{◌∙◌, refl, sym, arith}
use Rattle.candump_log.proofs.Texts.{kept_more, still_there}
use Rattle.candump_log.proofs.writer.LogWriter.flush.Goals as goal

pub loop-piece-preserved : goal.loop-piece-preserved
loop-piece-preserved g c =
    let inv = c.loop-piece.invariant in (
      record { file = inv.0.file; interface = inv.0.interface },
      c.in_ok-count.ensures.told ∙ inv.1,
      λ is. kept_more _ _ _ c.args.self.now c.loop-piece.self _ _ (inv.2 is) inv.0.file refl c.pass.ensures (rw c.bytes-piece.ensures.bytes at (c.in_ok-count.ensures.appended (inv.1 ∙ is))),
      λ is.
          let told = sym c.in_ok-count.ensures.told ∙ is in
          still_there _ _ _ _ _ (c.in_ok-count.ensures.appended told) (inv.3 told),
      record { later = omega (arith, inv.4.later, c.append.ensures.cause.later); left = c.in_ok-count.ensures.cause.left ∙ inv.4.left },
    )
