use Rattle.gw_law.proofs.literals.Neighbours.{neighbours}
use Rattle.gw_law.proofs.examples.neighbours_are_unlawful.Goals as goal

pub returns : goal.returns
returns c = neighbours
