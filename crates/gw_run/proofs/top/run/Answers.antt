-- The words were those of a run or of a check, and its status was told.
use Rattle.gw_run.proofs.Answered.{answers}
use Rattle.gw_run.proofs.Checked.{answers_check}
use Rattle.gw_run.proofs.Asked.{check-answered, run-answered, run-or-check}
use Rattle.gw_run.proofs.top.run.Goals as goal

pub returns-in-None-clause-answers : goal.returns-in-None-clause-answers
returns-in-None-clause-answers g c config report is = absurd (c.in-None.ensures.exact.0 config report is)

pub returns-in-None-clause-checks : goal.returns-in-None-clause-checks
returns-in-None-clause-checks g c config is = absurd (c.in-None.ensures.exact.1 config is)

pub returns-in-Some-Run-clause-answers : goal.returns-in-Some-Run-clause-answers
returns-in-Some-Run-clause-answers g c config report is =
    let words = rw c.in-Some-Run.field-0-is at c.in-Some-Run.ensures.exact in
    let told = c.forward.ensures.answer in
    run-answered _ _ _ _ _ _ _ _ _ _ words is
    (answers _ _ _ _ _ _ told.status _ told.decided.done told.decided.cause told.decided.files told.decided.fault told.stands)

pub returns-in-Some-Run-clause-checks : goal.returns-in-Some-Run-clause-checks
returns-in-Some-Run-clause-checks g c config is =
    let words = rw c.in-Some-Run.field-0-is at c.in-Some-Run.ensures.exact in
    absurd (run-or-check _ _ _ config words is)

pub returns-in-Some-Check-clause-answers : goal.returns-in-Some-Check-clause-answers
returns-in-Some-Check-clause-answers g c config report is =
    let words = rw c.in-Some-Check.field-0-is at c.in-Some-Check.ensures.exact in
    absurd (run-or-check _ config report _ is words)

pub returns-in-Some-Check-clause-checks : goal.returns-in-Some-Check-clause-checks
returns-in-Some-Check-clause-checks g c config is =
    let words = rw c.in-Some-Check.field-0-is at c.in-Some-Check.ensures.exact in
    check-answered _ _ _ _ _ _ _ _ words is
    (answers_check _ _ _ _ _ _ _ c.check.ensures.files c.check.ensures.cause (c.check.ensures.fault _ _) c.tell-in-Some-Check.ensures.answer)
