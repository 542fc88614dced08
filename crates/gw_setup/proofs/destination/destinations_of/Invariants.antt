use Rattle.gw_setup.specs.Placed.{IsDestination}
use Rattle.gw_setup.specs.declared.destination.Destination.{Destination}
use Rattle.gw_setup.proofs.ConfigLemmas.{DestinationLeads, IsSenderOf}
use Rattle.gw_setup.proofs.FoundLemmas.{AreFound}
use Rattle.gw_setup.proofs.destination.destinations_of.Given as goal

abbrev pub invariant-loop-number : goal.invariant-loop-number
invariant-loop-number l = AreFound (IsDestination l.config) (λ (d : Destination). d.chan.0) IsSenderOf (DestinationLeads l.config) l.number l.destinations.items
