-- The line is spelled piece by piece.
use Rattle.std.proofs.Common.{◌∙◌, [], decimal}
use Rattle.session_report.proofs.LineLaws.{dest_end}
use Rattle.session_report.proofs.Printing.{field_step, on_ok, step}
use Rattle.session_report.proofs.print.push_dest.Goals as goal

pub returns : goal.returns
returns c =
    on_ok c.push_dest_result.result c.push_dest_result.ensures (λ is.
    rw (dest_end (decimal c.args.told.now.end.0) c.args.told.now.result [])
    (is
    ∙ field_step _ _ _ _ _ c.in_ok-push_number-2.ensures
    ∙ field_step _ _ _ _ _ c.in_ok-push_word-2.ensures
    ∙ field_step _ _ _ _ _ c.in_ok-push_number.ensures
    ∙ field_step _ _ _ _ _ c.in_ok-push_word.ensures
    ∙ field_step _ _ _ _ _ c.in_ok-push_byte-2.ensures
    ∙ field_step _ _ _ _ _ c.in_ok-push_byte.ensures
    ∙ step _ _ _ _ c.in_ok-append.ensures.ok))
