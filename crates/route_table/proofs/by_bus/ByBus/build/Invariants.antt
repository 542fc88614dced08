use Rattle.route_table.proofs.ByBusLemmas.{AreLists}
use Rattle.route_table.proofs.by_bus.ByBus.build.Given as goal

abbrev pub invariant-loop-bus : goal.invariant-loop-bus
invariant-loop-bus g l = AreLists g.E.OnBus.bus_of l.entries l.lists.items l.bus
