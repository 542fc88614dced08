use Rattle.can_frame.proofs.Priorities.{order_of_parts}
use Rattle.can_frame.proofs.arbitration.priority_law.Goals as goal

pub returns : goal.returns
returns c = order_of_parts
