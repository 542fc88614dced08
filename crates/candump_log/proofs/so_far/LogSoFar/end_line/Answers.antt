-- The line feed ends the line that was kept.
use Rattle.std.proofs.Common.{◌∷◌, inr, refl}
use Rattle.std.proofs.lemmas.Result.{err_from_is_err_and}
use Rattle.candump_log.proofs.Logs.{line_ended}
use Rattle.candump_log.proofs.Stopping.{stops_here}
use Rattle.candump_log.proofs.so_far.LogSoFar.end_line.Goals as goal

pub returns-clause-read : goal.returns-clause-read
returns-clause-read g c content so_far =
    rw c.clear.ensures (line_ended _ _ _ _ _ _ so_far (rw c.as_slice.ensures.value at c.in_ok-push_line.ensures.ok))

pub returns-in_err-push_line-clause-stops : goal.returns-in_err-push_line-clause-stops
returns-in_err-push_line-clause-stops g c =
    let p = err_from_is_err_and c.from_residual.result c.from_residual.ensures.1 in
    rw (p.1, p.2) (λ content later so_far. stops_here _ _ _ _ (10 ∷ later) _ _ _ so_far (inr (later, refl)) c.requires (rw c.as_slice.ensures.value at c.in_err-push_line.ensures.refused))
