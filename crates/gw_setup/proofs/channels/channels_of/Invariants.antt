use Rattle.gw_setup.specs.Placed.{IsChannelAt}
use Rattle.gw_setup.proofs.PlaceLemmas.{IsFilled}
use Rattle.gw_setup.proofs.channels.channels_of.Given as goal

abbrev pub invariant-loop-number : goal.invariant-loop-number
invariant-loop-number l = IsFilled (IsChannelAt l.config) l.number l.channels.items
