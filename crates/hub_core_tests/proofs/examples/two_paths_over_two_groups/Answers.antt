use Rattle.hub_core_tests.proofs.Literals.{two-paths}
use Rattle.hub_core_tests.proofs.examples.two_paths_over_two_groups.Goals as goal

pub returns : goal.returns
returns c = two-paths c.core_law.ensures
