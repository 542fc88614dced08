use Rattle.gw_law.proofs.Laws.{laws}
use Rattle.gw_law.proofs.run.run_law.Goals as goal

pub returns : goal.returns
returns c = laws
