use Rattle.tp_sender.proofs.Idle.{end-none, end-joined}
use Rattle.tp_sender.proofs.sender.Sender.end_idle.Goals as goal

pub returns-in_default-clause-step : goal.returns-in_default-clause-step
returns-in_default-clause-step g c =
    end-none _ _ _ _ _ _ _ c.requires.idle c.in_default.ensures.joins.0 c.in_default.ensures.joins.2 c.nothing.ensures.boxed c.nothing.ensures.ended c.nothing.ensures.moved

pub returns-clause-step : goal.returns-clause-step
returns-clause-step g c = end-joined _ _ _ _ _ _ _ _ _ c.requires.idle c.in-Some.ensures.joins c.in-Some.ensures.home.rise c.end-outcome.ensures.step
