use Rattle.gw_setup.specs.Placed.{IsBusAt}
use Rattle.gw_setup.proofs.PlaceLemmas.{IsFilled}
use Rattle.gw_setup.proofs.bus.buses_of.Given as goal

abbrev pub invariant-loop-number : goal.invariant-loop-number
invariant-loop-number l = IsFilled (IsBusAt l.config) l.number l.buses.items
