use Rattle.std.proofs.Common.{◌≡◌, length, map, take}
use Rattle.gw_setup.proofs.groups.counts_of.Given as goal

abbrev pub invariant-loop-number : goal.invariant-loop-number
invariant-loop-number l = l.counts.items ≡ map length (take l.number l.config.groups)
