use Rattle.std.proofs.Common.{◌≤◌, length, take, drop}
use Rattle.bus_worker.specs.Emission.{AwaitsLeft, SomeLeaveAfter}
use Rattle.bus_worker.proofs.worker.Worker.leave_all.Given as goal

abbrev pub invariant-loop-entry : goal.invariant-loop-entry
invariant-loop-entry g l =
    AwaitsLeft l.tick.0 (drop l.entry-index l.left) l.self (g.P.Port.state l.port)
    × SomeLeaveAfter l.tick.0 l.left (take l.entry-index l.left) (drop l.entry-index l.left) l.initial.self l.self (g.P.Port.state l.initial.port) (g.P.Port.state l.port)
    × (l.entry-index ≤ length l.left)
