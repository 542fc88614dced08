-- A line more.
use Rattle.std.proofs.Common.{sym}
use Rattle.gw_run.proofs.Outputs.{one-more, text-more}
use Rattle.gw_run.proofs.output.output_text.Goals as goal

pub loop-sent-preserved : goal.loop-sent-preserved
loop-sent-preserved c =
    let frames = c.args.frames.now in
    let i = c.loop-sent.sent-index in
    let sent = c.sent-item.result in (
      text-more _ _ _ frames i sent _ _ c.loop-sent-test.true (sym c.sent-item.is) c.loop-sent.invariant.0 c.in_ok-push_line.ensures.line,
      one-more _ _ _ frames i sent c.loop-sent-test.true (sym c.sent-item.is) c.loop-sent.invariant.1 c.push_line.ensures.one_line,
    )
