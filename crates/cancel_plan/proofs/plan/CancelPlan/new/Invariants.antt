-- Each tick has its cancellations of those so far.
use Rattle.std.proofs.Common.{◌≡◌, ℕ, filter, take}
use Rattle.cancel_plan.specs.Plan.{is_in, listed}
use Rattle.cancel_plan.proofs.plan.CancelPlan.new.Given as goal

abbrev pub invariant-loop-entry : goal.invariant-loop-entry
invariant-loop-entry l = (tick : ℕ) → listed l.by_tick tick ≡ filter (is_in tick) (take l.entry-index l.entries)
