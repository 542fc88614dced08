use Rattle.std.proofs.Common.{arith}
use Rattle.route_table.proofs.ByBusLemmas.{lists_all, lists_more, lists_none}
use Rattle.route_table.proofs.by_bus.ByBus.build.Goals as goal

pub loop-bus-init : goal.loop-bus-init
loop-bus-init g c = lists_none _ _ _ c.new-lists.ensures.items

pub loop-bus-preserved : goal.loop-bus-preserved
loop-bus-preserved g c = lists_more _ _ _ _ _ c.in_ok-on_bus.field-0 c.loop-bus.invariant c.in_ok-on_bus.ensures c.in_ok-push.ensures.items

pub returns : goal.returns
returns g c = lists_all g.E.OnBus.bus_of c.args.entries.now c.loop-bus.lists.items c.loop-bus.bus c.loop-bus.invariant
    (λ k d within. omega (arith, c.bus_count-bus-end.ensures k d within))
