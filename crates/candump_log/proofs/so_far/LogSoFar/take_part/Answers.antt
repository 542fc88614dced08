-- What stops in a part stops in all that was to be taken.
use Rattle.std.proofs.Common.{◌++◌, ◌+◌, refl, take, drop}
use Rattle.std.proofs.lemmas.Result.{err_from_is_err_and}
use Rattle.candump_log.proofs.Logs.{part_ended}
use Rattle.candump_log.proofs.Stopping.{stops_at_feed, stops_in_part}
use Rattle.candump_log.proofs.so_far.LogSoFar.take_part.Goals as goal

pub returns-in_err-keep-2-clause-stops : goal.returns-in_err-keep-2-clause-stops
returns-in_err-keep-2-clause-stops g c =
    let p = err_from_is_err_and c.from_residual-in_err-keep-2.result c.from_residual-in_err-keep-2.ensures.1 in
    rw (p.1, p.2) (λ content later so_far.
    stops_in_part _ _ _ content c.args.bytes.now later c.in-Some.end _ refl
    (c.in_err-keep-2.ensures.stops content (drop c.in-Some.end c.args.bytes.now ++ later) so_far))

pub returns-in_err-end_line-clause-stops : goal.returns-in_err-end_line-clause-stops
returns-in_err-end_line-clause-stops g c =
    let p = err_from_is_err_and c.from_residual-in_err-end_line.result c.from_residual-in_err-end_line.ensures.1 in
    rw (p.1, p.2) (λ content later so_far.
    stops_at_feed _ _ _ content c.args.bytes.now later c.in-Some.end _ c.in_ok-keep-2.ensures.same c.in-Some.ensures
    (c.in_err-end_line.ensures.stops (content ++ take c.in-Some.end c.args.bytes.now) (drop (c.in-Some.end + 1) c.args.bytes.now ++ later) (c.in_ok-keep-2.ensures.read content so_far)))

pub returns-in_err-take_line-clause-stops : goal.returns-in_err-take_line-clause-stops
returns-in_err-take_line-clause-stops g c =
    let p = err_from_is_err_and c.from_residual-in_err-take_line.result c.from_residual-in_err-take_line.ensures.1 in
    rw (p.1, p.2) (λ content later so_far.
    stops_at_feed _ _ _ content c.args.bytes.now later c.in-Some.end _ refl c.in-Some.ensures
    (c.in_err-take_line.ensures.stops content (drop (c.in-Some.end + 1) c.args.bytes.now ++ later) so_far))

pub returns-then-end-le-MOST_KEPT-clause-read : goal.returns-then-end-le-MOST_KEPT-clause-read
returns-then-end-le-MOST_KEPT-clause-read g c content so_far =
    part_ended _ content c.args.bytes.now _ c.in-Some.end _ _ c.in-Some.ensures (c.in_ok-take_line.ensures.read content so_far)

pub returns-clause-read : goal.returns-clause-read
returns-clause-read g c content so_far =
    part_ended _ content c.args.bytes.now _ c.in-Some.end _ _ c.in-Some.ensures
    (c.in_ok-end_line.ensures.read (content ++ take c.in-Some.end c.args.bytes.now) (c.in_ok-keep-2.ensures.read content so_far))
