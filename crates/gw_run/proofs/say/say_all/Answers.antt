-- Each put says the next bytes of the text.
use Rattle.std.proofs.Common.{◌∙◌, arith}
use Rattle.std.proofs.lemmas.List.{take_rest}
use Rattle.gw_run.proofs.Saying.{said_more}
use Rattle.gw_run.proofs.say.say_all.Goals as goal

pub loop-done-preserved : goal.loop-done-preserved
loop-done-preserved g c = (
  c.in_ok-done.ensures.told ∙ c.loop-done.invariant.0,
  said_more _ _ _ _ _ _ _ c.loop-done.invariant.1 _ (take_rest c.args.bytes.now c.loop-done.done) c.in_ok-done.ensures.bound.1 (λ is. c.in_ok-done.ensures.said (c.loop-done.invariant.0 ∙ is)),
  omega (arith, c.loop-done.invariant.2, c.put.ensures.cause.later),
)
