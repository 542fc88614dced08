use Rattle.tp_sender.proofs.progress.step_live.Goals as goal

pub returns-in-RunEnd-clause-step : goal.returns-in-RunEnd-clause-step
returns-in-RunEnd-clause-step g c = rw c.in-RunEnd.is c.run_out.ensures.step
