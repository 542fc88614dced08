use Rattle.tp_sender.proofs.progress.run_out.Goals as goal

pub returns-clause-step : goal.returns-clause-step
returns-clause-step g c = rw (← c.revoke-boxed.ensures, ← c.awaited.ensures) c.end.ensures.step
