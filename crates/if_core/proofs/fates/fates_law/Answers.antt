use Rattle.if_core.proofs.UnitLaw.{fates}
use Rattle.if_core.proofs.fates.fates_law.Goals as goal

pub returns : goal.returns
returns c = fates
