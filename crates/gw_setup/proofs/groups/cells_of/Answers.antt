use Rattle.gw_setup.proofs.GroupLemmas.{cells_more}
use Rattle.gw_setup.proofs.groups.cells_of.Goals as goal

pub loop-number-preserved : goal.loop-number-preserved
loop-number-preserved c = cells_more c.args.config.now.groups c.loop-number.cells.items c.extend_from_slice.new.self.items c.group_at.result.now c.loop-number.number c.loop-number.invariant c.group_at.ensures.there c.in_ok-extend_from_slice.ensures.items
