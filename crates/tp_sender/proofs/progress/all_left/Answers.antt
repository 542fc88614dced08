use Rattle.tp_sender.proofs.Leaving.{over-left}
use Rattle.tp_sender.proofs.progress.all_left.Goals as goal

pub returns-clause-step : goal.returns-clause-step
returns-clause-step g c =
    over-left _ _ _ _ _ _ _ _ _ (rw (← c.requires.knows.path, ← c.requires.knows.dest) c.leave.ensures.view) c.leave.ensures.free c.leave.ensures.boxed c.leave.ensures.ended c.leave.ensures.live
