-- The end of the file ends the log, or its last line.
use Rattle.std.proofs.Common.{[], inl, refl, append-nil}
use Rattle.std.proofs.lemmas.Result.{err_from_is_err_and}
use Rattle.candump_log.proofs.Given.{not_empty}
use Rattle.candump_log.proofs.Logs.{dated-push, holds_some, last_line_ended}
use Rattle.candump_log.proofs.Stopping.{stops_here}
use Rattle.candump_log.proofs.so_far.LogSoFar.finish.Goals as goal

pub returns-clause-read : goal.returns-clause-read
returns-clause-read g c content so_far =
    last_line_ended _ _ _ _ _ _ so_far (rw c.as_slice-last.ensures.value at (not_empty _ c.if-is_empty.ensures)) (rw c.as_slice-last.ensures.value at c.in_ok-push_line.ensures.ok)

pub returns-clause-dated : goal.returns-clause-dated
returns-clause-dated g c content so_far = dated-push _ _ _ _ so_far.dated (rw c.as_slice-last.ensures.value at c.in_ok-push_line.ensures.ok)

pub returns-in_err-push_line-clause-stops : goal.returns-in_err-push_line-clause-stops
returns-in_err-push_line-clause-stops g c =
    let p = err_from_is_err_and c.from_residual.result c.from_residual.ensures.1 in
    rw (p.1, p.2) (λ content so_far.
    rw (← append-nil content) (stops_here _ _ content _ [] _ _ _ so_far (inl (refl, rw c.as_slice-last.ensures.value at (not_empty _ c.if-is_empty.ensures))) (c.args.self.begun (rw c.as_slice-last.ensures.value at (holds_some _ c.if-is_empty.ensures))) (rw c.as_slice-last.ensures.value at c.in_err-push_line.ensures.refused)))
