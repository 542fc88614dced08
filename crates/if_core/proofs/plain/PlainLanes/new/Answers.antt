use Rattle.if_core.proofs.Newly.{new_view, new_means}
use Rattle.if_core.proofs.plain.PlainLanes.new.Goals as goal

pub returns-clause-view : goal.returns-clause-view
returns-clause-view c = new_view c.args.queues.now c.in_ok-empty_queues.field-0.items c.in_ok-empty_queues.ensures

pub returns-clause-means : goal.returns-clause-means
returns-clause-means c = new_means c.args.queues.now c.in_ok-empty_queues.field-0.items c.in_ok-empty_queues.ensures
