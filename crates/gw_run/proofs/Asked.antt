-- Words ask for one command, with one list of names.
use Rattle.std.proofs.Common.{◌≡◌, ◌∙◌, ℕ, List, subst, sym}
use Rattle.gw_depot.specs.Outside.{DepotState, SinkState}
use Rattle.gw_run.specs.declared.status.Status.{Status}
use Rattle.gw_run.specs.Answered.{Answers}
use Rattle.gw_run.specs.Checked.{AnswersCheck}
use Rattle.gw_run.specs.Words.{IsCheck, IsRun}

-- what is answered of the files of a run is answered of all files that its words name
pub run-answered : (words : List (List ℕ)) (config report config' report' : List ℕ) (old new : DepotState) (said said' : SinkState) (result : Status) →
    IsRun words config report → IsRun words config' report' → Answers old new config report said said' result → Answers old new config' report' said said' result
run-answered words config report config' report' old new said said' result one other answers =
    let same = sym one.shape ∙ other.shape in
    let as_config : config ≡ config' = cc in
    let as_report : report ≡ report' = cc in
    subst (λ c. Answers old new c report' said said' result) as_config (subst (λ r. Answers old new config r said said' result) as_report answers)

-- what is answered of the configuration to check is answered of every one that its words name
pub check-answered : (words : List (List ℕ)) (config config' : List ℕ) (old new : DepotState) (said said' : SinkState) (result : Status) →
    IsCheck words config → IsCheck words config' → AnswersCheck old new config said said' result → AnswersCheck old new config' said said' result
check-answered words config config' old new said said' result one other answers =
    let same = sym one.shape ∙ other.shape in
    let as_config : config ≡ config' = cc in
    subst (λ c. AnswersCheck old new c said said' result) as_config answers

-- the words of a run ask for no check
pub run-or-check : (words : List (List ℕ)) (config report checked : List ℕ) → IsRun words config report → IsCheck words checked → ⊥
run-or-check words config report checked run check = let clash = sym run.shape ∙ check.shape in cc
