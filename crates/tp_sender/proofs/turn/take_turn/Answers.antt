use Rattle.tp_sender.proofs.Turns.{turns-in}
use Rattle.tp_sender.proofs.turn.take_turn.Goals as goal

pub returns-in-Start-clause-step : goal.returns-in-Start-clause-step
returns-in-Start-clause-step g c = turns-in _ _ _ _ _ _ _ _ _ c.in-Start.is c.begin.ensures.step

pub returns-in-Bytes-clause-step : goal.returns-in-Bytes-clause-step
returns-in-Bytes-clause-step g c = turns-in _ _ _ _ _ _ _ _ _ c.in-Bytes.is c.fill.ensures.step

pub returns-in-Gap-clause-step : goal.returns-in-Gap-clause-step
returns-in-Gap-clause-step g c = turns-in _ _ _ _ _ _ _ _ _ c.in-Gap.is c.pause.ensures.step
