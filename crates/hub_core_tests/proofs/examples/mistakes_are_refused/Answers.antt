use Rattle.hub_core_tests.proofs.Literals.{mistakes}
use Rattle.hub_core_tests.proofs.examples.mistakes_are_refused.Goals as goal

pub returns : goal.returns
returns c = mistakes
