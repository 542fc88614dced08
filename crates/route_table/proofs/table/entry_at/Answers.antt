use Rattle.std.proofs.Common.{rules, tests}
use Rattle.std.proofs.lemmas.Iterator.{YieldsList-from_slice}
use Rattle.std.proofs.lemmas.Iterator.Consumers.{YieldsList-from_filter, nth_from_yields_List}
use Rattle.route_table.specs.Match.{same_id}
use Rattle.route_table.proofs.table.entry_at.Goals as goal

pub returns : goal.returns
returns c = nth_from_yields_List _ _ c.args.at c.nth.ensures.ran
    (YieldsList-from_filter _ (λ entry. same_id entry.id c.args.id) (YieldsList-from_slice c.args.entries.now (cc)) c.filter.ensures.closure (λ x r q k. search (rules, tests)))
