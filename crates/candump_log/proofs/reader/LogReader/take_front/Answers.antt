-- The line at the front is taken, refused, too long, or one too many.
use Rattle.std.proofs.Common.{◌≡◌, ◌≤◌, ◌+◌, ◌∙◌, [], ◌∷◌, ◌++◌, List, ℕ, length, take, drop, refl, sym, ap, inr, append_assoc, append-nil, arith, length-take-le}
use Rattle.std.proofs.lemmas.List.{take-append-drop}
use Rattle.std.proofs.lemmas.Result.{err_from_is_err_and}
use Rattle.candump_log.proofs.Given.{line_taken, not_empty}
use Rattle.candump_log.proofs.Stops.{stops_line, stops_long, stops_past}
use Rattle.candump_log.proofs.reader.LogReader.take_front.Goals as goal

pub returns-then-self-clause-stops : goal.returns-then-self-clause-stops
returns-then-self-clause-stops c =
    let some = rw c.bytes-unread.ensures.bytes at (not_empty _ c.if-is_empty.ensures) in
    record {
      some = some;
      stops = λ bytes later frames so_far. stops_past _ _ bytes _ later _ frames so_far some (omega (arith, c.if-self.true, c.args.self.now.few));
    }

pub returns-then-unread-gt-MOST_KEPT-clause-stops : goal.returns-then-unread-gt-MOST_KEPT-clause-stops
returns-then-unread-gt-MOST_KEPT-clause-stops c =
    let unread : List ℕ = c.args.self.now.unread in
    let some = rw c.bytes-unread.ensures.bytes at (not_empty _ c.if-is_empty.ensures) in
    let long : 514 ≤ length unread = rw (← c.bytes-unread.ensures.bytes) (omega (arith, c.if-unread-gt-MOST_KEPT.true)) in
    rw c.too_long.ensures (record {
      some = some;
      stops = λ bytes later frames so_far.
          stops_long _ _ bytes unread unread [] later _ _ frames so_far (sym (append-nil unread)) (rw c.bytes-unread.ensures.bytes at c.in_default.ensures) long refl (omega (arith, c.if-self.false));
    })

pub returns-then-end-gt-MOST_KEPT-clause-stops : goal.returns-then-end-gt-MOST_KEPT-clause-stops
returns-then-end-gt-MOST_KEPT-clause-stops c =
    let unread : List ℕ = c.args.self.now.unread in
    let end : ℕ = c.in-Some.end in
    let some = rw c.bytes-unread.ensures.bytes at (not_empty _ c.if-is_empty.ensures) in
    let at_feed = rw c.bytes-unread.ensures.bytes at c.in-Some.ensures in
    let size : length (take end unread) ≡ end = length-take-le end unread (omega (arith, at_feed.inside)) in
    rw c.too_long-then-end-gt-MOST_KEPT.ensures (record {
      some = some;
      stops = λ bytes later frames so_far.
          stops_long _ _ bytes unread (take end unread) (drop end unread) later _ _ frames so_far (sym (take-append-drop end unread)) at_feed.line (omega (arith, size, c.if-end-gt-MOST_KEPT.true)) refl (omega (arith, c.if-self.false));
    })

pub returns-in_err-frame-clause-stops : goal.returns-in_err-frame-clause-stops
returns-in_err-frame-clause-stops c =
    let unread : List ℕ = c.args.self.now.unread in
    let end : ℕ = c.in-Some.end in
    let some = rw c.bytes-unread.ensures.bytes at (not_empty _ c.if-is_empty.ensures) in
    let at_feed = rw c.bytes-unread.ensures.bytes at c.in-Some.ensures in
    let p = err_from_is_err_and c.from_residual.result c.from_residual.ensures.1 in
    rw (p.1, p.2) (record {
      some = some;
      stops = λ bytes later frames so_far.
          stops_line _ _ bytes unread (take end unread) (10 ∷ (drop (end + 1) unread ++ later)) later _ frames _ so_far
          (ap (λ t. t ++ later) at_feed.feed ∙ append_assoc (take end unread) (10 ∷ drop (end + 1) unread) later) at_feed.line (inr (drop (end + 1) unread ++ later, refl))
          (omega (arith, c.if-self.false)) (rw c.bytes-unread.ensures.bytes at c.in_err-frame.ensures.refused);
    })

pub returns-clause-front : goal.returns-clause-front
returns-clause-front c =
    let unread : List ℕ = c.args.self.now.unread in
    let end : ℕ = c.in-Some.end in
    let at_feed = rw c.bytes-unread.ensures.bytes at c.in-Some.ensures in
    let taken = rw c.bytes-unread.ensures.bytes at c.in_ok-frame.ensures.taken in
    record {
      count = refl;
      dated = taken.dated;
      goes_on = λ bytes frames so_far. rw c.pass.ensures (line_taken _ bytes unread (take end unread) (drop (end + 1) unread) _ frames _ so_far at_feed.feed at_feed.line taken.taken);
    }
