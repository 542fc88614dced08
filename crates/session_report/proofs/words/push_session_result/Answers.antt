-- The line is spelled piece by piece.
use Rattle.std.proofs.Common.{◌∙◌, ◌++◌, ◌∷◌, [], decimal}
use Rattle.session_report.specs.Lines.{set_word}
use Rattle.session_report.proofs.Printing.{all_steps, field_step, on_ok, step}
use Rattle.session_report.proofs.words.push_session_result.Goals as goal

pub returns-in_ok-push_set-in-Overflow : goal.returns-in_ok-push_set-in-Overflow
returns-in_ok-push_set-in-Overflow c =
    on_ok c.push_number.result c.push_number.ensures (λ is.
    rw c.in-Overflow.is
    (all_steps _ _ (field_step _ _ _ _ _ is
    ∙ field_step c.push_word.new.text c.push_set.new.text (set_word c.in-Overflow.free) (decimal c.in-Overflow.need ++ 10 ∷ []) 32 c.in_ok-push_set-in-Overflow.ensures
    ∙ field_step _ _ _ _ _ c.in_ok-push_word-in-Overflow.ensures
    ∙ step _ _ _ _ c.in_ok-append-in-Overflow.ensures.ok)))

pub returns-in-NoReaders : goal.returns-in-NoReaders
returns-in-NoReaders c = on_ok c.append-in-NoReaders.result c.append-in-NoReaders.ensures.ok (λ is. rw c.in-NoReaders.is is)
