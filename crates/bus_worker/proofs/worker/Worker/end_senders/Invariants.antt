use Rattle.std.proofs.Common.{◌≡◌, ◌≤◌, length}
use Rattle.bus_worker.specs.Ending.{EndsSenders}
use Rattle.bus_worker.specs.Phases.{RestsBy}
use Rattle.bus_worker.proofs.worker.Worker.end_senders.Given as goal

abbrev pub invariant-loop-place : goal.invariant-loop-place
invariant-loop-place g l = record {
  below : l.place ≤ length l.initial.self.channels.items;
  few : length l.initial.self.channels.items ≤ 64;
  count : length l.self.channels.items ≡ length l.initial.self.channels.items;
  rests : RestsBy l.last.0 l.self (g.P.Port.state l.port);
  ends : EndsSenders l.last.0 l.place l.initial.self l.self (g.P.Port.state l.initial.port) (g.P.Port.state l.port);
}
