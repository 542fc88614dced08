use Rattle.std.proofs.Common.{length}
use Rattle.route_check.proofs.entries.+repeats.Given as goal

abbrev pub decreases-repeats : goal.decreases-repeats
decreases-repeats l = length l.names.now
