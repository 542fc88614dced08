-- Of a tick's cancellations those of a bus are those of the bus and tick.
use Rattle.std.proofs.Common.{◌∙◌}
use Rattle.cancel_plan.proofs.Entries.{due_at}
use Rattle.cancel_plan.proofs.plan.CancelPlan.due.Goals as goal

pub returns-in_err-entry : goal.returns-in_err-entry
returns-in_err-entry c = λ entries is.
    c.from_residual.ensures ∙ c.in_err-entry.ensures
    ∙ due_at entries c.at_tick.result.now c.args.bus.0 c.args.tick.0 c.args.at (c.at_tick.ensures ∙ is c.args.tick.0)

pub returns : goal.returns
returns c = λ entries is.
    c.in_ok-entry.ensures ∙ due_at entries c.at_tick.result.now c.args.bus.0 c.args.tick.0 c.args.at (c.at_tick.ensures ∙ is c.args.tick.0)
