use Rattle.std.proofs.Common.{ap}
use Rattle.if_core_tests.proofs.tests.follows_rule.Goals as goal

pub all_agree-requires-clause-may : goal.all_agree-requires-clause-may
all_agree-requires-clause-may c = (ap (λ means. means.offers 0) c.in_ok-lanes.ensures.means, ap (λ means. means.takes 0) c.in_ok-lanes.ensures.means)
