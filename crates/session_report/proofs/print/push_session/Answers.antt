-- The line is spelled piece by piece.
use Rattle.std.proofs.Common.{◌∙◌, []}
use Rattle.session_report.specs.Lines.{opened_word}
use Rattle.session_report.proofs.LineLaws.{session_end}
use Rattle.session_report.proofs.Printing.{field_step, on_ok, step}
use Rattle.session_report.proofs.print.push_session.Goals as goal

pub returns : goal.returns
returns c =
    on_ok c.push_session_result.result c.push_session_result.ensures (λ is.
    rw (session_end (opened_word c.args.told.now.opened) c.args.told.now.result [])
    (is
    ∙ field_step _ _ _ _ _ c.in_ok-push_opened.ensures
    ∙ field_step _ _ _ _ _ c.in_ok-push_number-2.ensures
    ∙ field_step _ _ _ _ _ c.in_ok-push_word-3.ensures
    ∙ field_step _ _ _ _ _ c.in_ok-push_number.ensures
    ∙ field_step _ _ _ _ _ c.in_ok-push_word-2.ensures
    ∙ field_step _ _ _ _ _ c.in_ok-push_word.ensures
    ∙ field_step _ _ _ _ _ c.in_ok-push_byte.ensures
    ∙ step _ _ _ _ c.in_ok-append.ensures.ok))
