-- The line is spelled piece by piece.
use Rattle.std.proofs.Common.{◌∙◌}
use Rattle.session_report.proofs.Printing.{all_steps, field_step, on_ok, step}
use Rattle.session_report.proofs.words.push_dest_result.Goals as goal

pub returns-in_ok-append-in-InvalidFs : goal.returns-in_ok-append-in-InvalidFs
returns-in_ok-append-in-InvalidFs c =
    on_ok c.push_byte.result c.push_byte.ensures (λ is. rw c.in-InvalidFs.is (all_steps _ _ (field_step _ _ _ _ _ is ∙ step _ _ _ _ c.in_ok-append-in-InvalidFs.ensures.ok)))
