-- Each read adds the next bytes of the file, and the last one ends the log.
use Rattle.std.proofs.Common.{◌∙◌, length-take, arith}
use Rattle.std.proofs.lemmas.Result.{err_from_is_err_and}
use Rattle.candump_log.proofs.Logs.{read_to_end, read_more}
use Rattle.candump_log.proofs.Stopping.{stops_at_end, stops_in_read}
use Rattle.candump_log.proofs.reading.read_log.Goals as goal

pub loop-count-preserved : goal.loop-count-preserved
loop-count-preserved g c = (
  c.in-Ok.ensures.told ∙ c.loop-count.invariant.0,
  c.in-Ok.ensures.files ∙ c.loop-count.invariant.1,
  omega (arith, c.loop-count.invariant.2, c.read.ensures.cause.later),
  c.take_all.ensures.same ∙ c.loop-count.invariant.3,
  read_more _ _ _ _ _ _ _ _ _ _ _ _ _ c.loop-count.invariant.4
      (λ is. rw (c.loop-count.invariant.1, c.file.ensures.file) at (c.in-Ok.ensures.read (c.loop-count.invariant.0 ∙ is)))
      (rw length-take (omega (arith, c.in-Ok.ensures.bound)))
      c.in_ok-take_all.ensures.count
      c.in_ok-take_all.ensures.read,
)

pub returns-then-count-eq0-clause-read : goal.returns-then-count-eq0-clause-read
returns-then-count-eq0-clause-read g c =
    read_to_end _ _ _ _ _ _ _ _ _ _ c.loop-count.invariant.4
    (λ is. rw (c.loop-count.invariant.1, c.file.ensures.file, c.if-count-eq0.true) at (c.in-Ok.ensures.read (c.loop-count.invariant.0 ∙ is)))
    c.in_ok-finish.ensures.read

pub returns-then-count-eq0-clause-dated : goal.returns-then-count-eq0-clause-dated
returns-then-count-eq0-clause-dated g c = c.in_ok-finish.ensures.dated _ c.loop-count.invariant.4.so_far

pub returns-in_err-finish-clause-stops : goal.returns-in_err-finish-clause-stops
returns-in_err-finish-clause-stops g c =
    let p = err_from_is_err_and c.from_residual.result c.from_residual.ensures.1 in
    rw (p.1, p.2) (stops_at_end _ _ _ _ _ _ _ _ _ _ _ c.loop-count.invariant.3 c.loop-count.invariant.4
    (λ is. rw (c.loop-count.invariant.1, c.file.ensures.file, c.if-count-eq0.true) at (c.in-Ok.ensures.read (c.loop-count.invariant.0 ∙ is)))
    c.in_err-finish.ensures.stops)

pub returns-in_err-take_all-clause-stops : goal.returns-in_err-take_all-clause-stops
returns-in_err-take_all-clause-stops g c =
    let p = err_from_is_err_and c.from_residual-in_err-take_all.result c.from_residual-in_err-take_all.ensures.1 in
    rw (p.1, p.2) (stops_in_read _ _ _ _ _ _ _ _ _ _ _ _ c.loop-count.invariant.3 c.loop-count.invariant.4
    (λ is. rw (c.loop-count.invariant.1, c.file.ensures.file) at (c.in-Ok.ensures.read (c.loop-count.invariant.0 ∙ is)))
    (rw length-take (omega (arith, c.in-Ok.ensures.bound)))
    c.in_err-take_all.ensures.stops)
