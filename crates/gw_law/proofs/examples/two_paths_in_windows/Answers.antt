use Rattle.gw_law.proofs.literals.LawfulRun.{lawful}
use Rattle.gw_law.proofs.examples.two_paths_in_windows.Goals as goal

pub returns : goal.returns
returns c = lawful
