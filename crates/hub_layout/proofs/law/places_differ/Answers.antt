use Rattle.hub_layout.proofs.Places.{differ}
use Rattle.hub_layout.proofs.law.places_differ.Goals as goal

pub returns : goal.returns
returns c = differ
