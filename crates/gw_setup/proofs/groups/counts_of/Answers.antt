use Rattle.gw_setup.proofs.GroupLemmas.{counts_more}
use Rattle.gw_setup.proofs.groups.counts_of.Goals as goal

pub loop-number-preserved : goal.loop-number-preserved
loop-number-preserved c = counts_more c.args.config.now.groups c.loop-number.counts.items c.push.new.self.items c.group_at.result.now c.loop-number.number c.loop-number.invariant c.group_at.ensures.there c.in_ok-push.ensures.items
