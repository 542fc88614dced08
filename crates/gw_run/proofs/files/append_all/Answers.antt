-- Each call appends the next bytes of the text.
use Rattle.std.proofs.Common.{◌∙◌, sym, arith}
use Rattle.std.proofs.lemmas.List.{take_rest}
use Rattle.gw_run.proofs.Pieces.{appended_more}
use Rattle.gw_run.proofs.files.append_all.Goals as goal

pub append-requires-clause-there : goal.append-requires-clause-there
append-requires-clause-there g c is = c.loop-done.invariant.1.there (sym c.loop-done.invariant.0 ∙ is)

pub loop-done-preserved : goal.loop-done-preserved
loop-done-preserved g c = (
  c.in_ok-done.ensures.told ∙ c.loop-done.invariant.0,
  appended_more _ _ _ _ _ _ _ _ c.loop-done.invariant.1 _ (take_rest c.args.bytes.now c.loop-done.done) c.in_ok-done.ensures.bound.1 (λ is. c.in_ok-done.ensures.appended (c.loop-done.invariant.0 ∙ is)),
  record { later = omega (arith, c.loop-done.invariant.2.later, c.append.ensures.cause.later); left = c.in_ok-done.ensures.cause.left ∙ c.loop-done.invariant.2.left },
)
