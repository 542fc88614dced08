use Rattle.std.proofs.Common.{IsSome}
use Rattle.bus_worker.specs.Ending.{EndsOneAfter}
use Rattle.bus_worker.specs.Phases.{RestsBy}
use Rattle.bus_worker.specs.Stands.{sender_at}
use Rattle.bus_worker.proofs.worker.Worker.end_sender.Given as goal

abbrev pub invariant-loop : goal.invariant-loop
invariant-loop g l = record {
  there : IsSome (sender_at l.self.channels.items l.place);
  rests : RestsBy l.last.0 l.self (g.P.Port.state l.port);
  ends : EndsOneAfter l.last.0 l.place l.initial.self l.self (g.P.Port.state l.initial.port) (g.P.Port.state l.port);
}
