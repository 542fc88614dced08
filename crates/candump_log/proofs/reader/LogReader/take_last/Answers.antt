-- The last line is taken, or refused.
use Rattle.std.proofs.Common.{[], refl, inl, append-nil}
use Rattle.std.proofs.lemmas.Result.{err_from_is_err_and}
use Rattle.candump_log.proofs.Given.{last_taken, not_empty}
use Rattle.candump_log.proofs.Stops.{stops_line}
use Rattle.candump_log.proofs.reader.LogReader.take_last.Goals as goal

pub returns-in_err-frame-clause-stops : goal.returns-in_err-frame-clause-stops
returns-in_err-frame-clause-stops c =
    let p = err_from_is_err_and c.from_residual.result c.from_residual.ensures.1 in
    let some = rw c.bytes-last.ensures.bytes at (not_empty _ c.if-is_empty.ensures) in
    rw (p.1, p.2) (λ bytes frames so_far.
    rw (← append-nil bytes) (stops_line _ _ bytes _ _ [] [] _ frames _ so_far refl c.requires.no_feed (inl (refl, some)) (c.requires.within some) (rw c.bytes-last.ensures.bytes at c.in_err-frame.ensures.refused)))

pub returns-clause-last : goal.returns-clause-last
returns-clause-last c =
    let some = rw c.bytes-last.ensures.bytes at (not_empty _ c.if-is_empty.ensures) in
    record {
      ends = λ bytes frames so_far. last_taken _ bytes _ _ frames _ so_far some c.requires.no_feed (rw c.bytes-last.ensures.bytes at c.in_ok-frame.ensures.taken.taken);
    }
