use Rattle.std.proofs.Common.{◌≡◌, take}
use Rattle.std.specs.Prelude.{map}
use Rattle.std.specs.List.{AllZip}
use Rattle.bus_worker.specs.Start.{IsNewChannel}
use Rattle.bus_worker.specs.declared.plan.ChannelPlan.{ChannelPlan}
use Rattle.bus_worker.proofs.worker.Worker.new.Given as goal

abbrev pub invariant-loop-plan : goal.invariant-loop-plan
invariant-loop-plan l = AllZip IsNewChannel (take l.plan-index l.plans) l.channels.items × (l.routes.items ≡ map (λ (plan : ChannelPlan). plan.comes) (take l.plan-index l.plans))
