-- The lesser of both logs' least stamps is the least of all.
use Rattle.gw_run.proofs.Starts.{start-both}
use Rattle.gw_run.proofs.start.start_of.Goals as goal

pub returns-in-Some-Some-clause-start : goal.returns-in-Some-Some-clause-start
returns-in-Some-Some-clause-start c = rw c.min.ensures (start-both _ _ _ _ c.in-Some-Some.ensures.least c.in-Some-Some.ensures'.least)
