-- Of the entries that are left when others are passed over, the one at the place.
use Rattle.std.proofs.Common.{rules, tests}
use Rattle.std.proofs.lemmas.Iterator.{YieldsList-from_slice}
use Rattle.std.proofs.lemmas.Iterator.Consumers.{YieldsList-from_filter, nth_from_yields_List}
use Rattle.cancel_plan.specs.Plan.{is_on}
use Rattle.cancel_plan.proofs.plan.entry_on.Goals as goal

pub returns : goal.returns
returns c = nth_from_yields_List _ _ c.args.at c.nth.ensures.ran
    (YieldsList-from_filter _ (is_on c.args.bus.0) (YieldsList-from_slice c.args.entries.now (cc)) c.filter.ensures.closure (λ x r q k. search (rules, tests)))
