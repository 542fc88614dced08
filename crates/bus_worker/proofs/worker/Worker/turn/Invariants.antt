use Rattle.std.proofs.Common.{◌≡◌, ◌≤◌, length}
use Rattle.bus_worker.specs.Phases.{RestsBy, TurnsAll}
use Rattle.bus_worker.proofs.worker.Worker.turn.Given as goal

abbrev pub invariant-loop-place : goal.invariant-loop-place
invariant-loop-place g l =
    RestsBy l.tick.0 l.self (g.P.Port.state l.port)
    × TurnsAll l.tick.0 l.place l.initial.self l.self (g.P.Port.state l.initial.port) (g.P.Port.state l.port)
    × (l.place ≤ length l.initial.self.channels.items) × (length l.initial.self.channels.items ≤ 64) × (length l.self.channels.items ≡ length l.initial.self.channels.items)
