use Rattle.flow_plan.proofs.Payloads.{payloads_cells}
use Rattle.flow_plan.proofs.law.payloads_law.Goals as goal

pub returns : goal.returns
returns c = payloads_cells
