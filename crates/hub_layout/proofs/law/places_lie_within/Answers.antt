use Rattle.hub_layout.proofs.Places.{within}
use Rattle.hub_layout.proofs.law.places_lie_within.Goals as goal

pub returns : goal.returns
returns c = within
