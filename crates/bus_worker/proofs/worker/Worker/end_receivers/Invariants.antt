use Rattle.std.proofs.Common.{◌≡◌, ◌≤◌, length}
use Rattle.bus_worker.specs.Ending.{EndsReceivers}
use Rattle.bus_worker.specs.Phases.{RestsBy}
use Rattle.bus_worker.proofs.worker.Worker.end_receivers.Given as goal

abbrev pub invariant-loop-place : goal.invariant-loop-place
invariant-loop-place g l =
    RestsBy l.last.0 l.self (g.P.Port.state l.port)
    × EndsReceivers l.last.0 l.place l.initial.self l.self (g.P.Port.state l.initial.port) (g.P.Port.state l.port)
    × (l.place ≤ length l.initial.self.channels.items) × (length l.initial.self.channels.items ≤ 64) × (length l.self.channels.items ≡ length l.initial.self.channels.items)
