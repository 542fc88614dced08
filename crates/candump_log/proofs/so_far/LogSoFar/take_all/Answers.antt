-- A part more, or what stops in it.
use Rattle.std.proofs.Common.{◌++◌, ◌∙◌, take, length, length-drop, ap, arith}
use Rattle.std.proofs.lemmas.List.{take_rest}
use Rattle.std.proofs.lemmas.Result.{err_from_is_err_and}
use Rattle.candump_log.proofs.Logs.{part_more}
use Rattle.candump_log.proofs.Stopping.{stops_in_rest}
use Rattle.candump_log.proofs.so_far.LogSoFar.take_all.Goals as goal

pub returns-in_err-count-clause-stops : goal.returns-in_err-count-clause-stops
returns-in_err-count-clause-stops g c =
    let p = err_from_is_err_and c.from_residual.result c.from_residual.ensures.1 in
    rw (p.1, p.2) (λ content later so_far.
    stops_in_rest _ _ _ content c.args.bytes.now _ later c.loop-done.done _ c.loop-done.invariant.0 (take_rest c.args.bytes.now c.loop-done.done)
    (c.in_err-count.ensures.stops (content ++ take c.loop-done.done c.args.bytes.now) later (c.loop-done.invariant.3 content so_far)))

pub loop-done-preserved : goal.loop-done-preserved
loop-done-preserved g c = (
  c.in_ok-count.ensures.same ∙ c.loop-done.invariant.0,
  omega (arith, c.in_ok-count.ensures.some.1, ap length (take_rest c.args.bytes.now c.loop-done.done), length-drop c.loop-done.done c.args.bytes.now, c.loop-done-test.true),
  omega (arith, c.in_ok-count.ensures.count, c.loop-done.invariant.2),
  λ content so_far.
      part_more _ content c.args.bytes.now _ _ c.loop-done.done c.in_ok-count.count _ _ (take_rest c.args.bytes.now c.loop-done.done)
      (c.in_ok-count.ensures.read (content ++ take c.loop-done.done c.args.bytes.now) (c.loop-done.invariant.3 content so_far)),
)
