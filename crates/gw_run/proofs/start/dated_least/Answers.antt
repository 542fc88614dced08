-- The least stamp is one of the log's.
use Rattle.gw_run.proofs.Starts.{least-dated}
use Rattle.gw_run.proofs.start.dated_least.Goals as goal

pub returns-clause-dated : goal.returns-clause-dated
returns-clause-dated c = least-dated _ _ c.least_stamp.ensures c.requires
