use Rattle.flow_plan.proofs.Granted.{granted_has_room}
use Rattle.flow_plan.proofs.law.granted_law.Goals as goal

pub returns : goal.returns
returns c = granted_has_room
