-- The line is spelled piece by piece.
use Rattle.std.proofs.Common.{◌∙◌, ◌++◌, ◌∷◌, [], ℕ, List, ap, codes, decimal, sym}
use Rattle.session_report.specs.Lines.{set_word}
use Rattle.session_report.specs.Printing.{group_text}
use Rattle.session_report.proofs.LineLaws.{word_before}
use Rattle.session_report.proofs.Printing.{all_steps, field_step, group_joined, on_ok, step}
use Rattle.session_report.proofs.print.push_pool.Goals as goal

pub returns : goal.returns
returns c =
    let pool = c.args.pool.pool in
    let buffers : List ℕ = decimal pool.buffers in
    let changes : List ℕ = decimal pool.changes in
    let free : List ℕ = set_word pool.free in
    let group : List ℕ = group_text c.args.version c.args.pool.group in
    let fields : List (List ℕ) = changes ∷ free ∷ [] in
    on_ok c.push_set.result c.push_set.ensures (λ is.
    all_steps _ _ (field_step c.push_word-2.new.text c.push_set.new.text free [] 10 is
    ∙ field_step c.push_word.new.text c.push_word-2.new.text changes (free ++ 10 ∷ []) 32 c.in_ok-push_word-2.ensures
    ∙ field_step c.push_group.new.text c.push_word.new.text buffers (changes ++ 32 ∷ (free ++ 10 ∷ [])) 32 c.in_ok-push_word.ensures
    ∙ step c.append.new.self c.push_group.new.text group (buffers ++ 32 ∷ (changes ++ 32 ∷ (free ++ 10 ∷ []))) c.in_ok-push_group.ensures
    ∙ step c.args.text.now c.append.new.self (codes "pool ") (group ++ (buffers ++ 32 ∷ (changes ++ 32 ∷ (free ++ 10 ∷ [])))) c.in_ok-append.ensures.ok)
    ∙ sym (ap (λ (t : List ℕ). c.args.text.now ++ t) (word_before (codes "pool") c.args.version c.args.pool.group buffers fields []
    ∙ ap (λ (t : List ℕ). codes "pool " ++ t) (group_joined c.args.version c.args.pool.group buffers fields))))
