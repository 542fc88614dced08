use Rattle.std.proofs.Common.{◌≡◌, ◌<◌, List, length, refl, ap, subst, ◌∙◌, arith, take, take_all}
use Rattle.std.specs.Prelude.{map}
use Rattle.std.specs.List.{AllZip}
use Rattle.bus_worker.proofs.Starting.{new-stands, planned-next, routed-next}
use Rattle.bus_worker.specs.Start.{IsNewChannel}
use Rattle.bus_worker.specs.declared.comes.Comes.{Comes}
use Rattle.bus_worker.specs.declared.plan.ChannelPlan.{ChannelPlan}
use Rattle.bus_worker.proofs.worker.Worker.new.Goals as goal

comes-of : List ChannelPlan → List Comes
comes-of plans = map (λ (plan : ChannelPlan). plan.comes) plans

pub loop-plan-preserved : goal.loop-plan-preserved
loop-plan-preserved c =
    let so = c.loop-plan.invariant in
    let at = c.loop-plan.plan-index in
    let below : at < length c.args.plans.now = (let b = c.loop-plan-test.true in omega (arith, b)) in (
      planned-next c.args.plans.now at c.loop-plan.channels.items c.push.new.self.items c.channel_of.result _ below so.0 c.channel_of.ensures c.in_ok-push.ensures.items,
      routed-next c.args.plans.now at c.loop-plan.routes.items c.push-in-loop-plan.new.self.items _ below so.1 c.in_ok-push-2.ensures.items,
    )

pub returns : goal.returns
unfolding comes-of
returns c =
    let so = c.loop-plan.invariant in
    let plans = c.args.plans.now in
    let all : take c.loop-plan.plan-index plans ≡ plans = take_all c.loop-plan.plan-index plans (let past = c.loop-plan-test.false in omega (arith, past)) in
    let Z : List ChannelPlan → Type 0 = λ l. AllZip IsNewChannel l c.loop-plan.channels.items in
    let zip = subst Z all so.0 in
    let routes = so.1 ∙ ap comes-of all in
    record {
      budget_is = refl;
      channels = zip;
      routes = routes;
      boxes = c.new.ensures;
      sent = c.new-2.ensures;
      moves = c.new-3.ensures;
      stands = λ view means ready. new-stands plans (record { budget = c.args.budget; channels = c.loop-plan.channels; routes = c.loop-plan.routes; boxes = c.new.result; sent = c.new-2.result; moves = c.new-3.result }) c.requires.plans zip routes c.new.ensures view means ready;
    }
