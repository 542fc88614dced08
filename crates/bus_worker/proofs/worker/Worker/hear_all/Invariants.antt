use Rattle.std.proofs.Common.{◌-◌, ◌≤◌, length, take}
use Rattle.bus_worker.specs.Hearing.{HearsAll, HearsBy, frames_of}
use Rattle.bus_worker.proofs.worker.Worker.hear_all.Given as goal

abbrev pub invariant-loop-dated : goal.invariant-loop-dated
invariant-loop-dated g l =
    HearsBy l.tick.0 (length l.frames - l.dated-index) l.self (g.P.Port.state l.port)
    × HearsAll l.tick.0 (frames_of (take l.dated-index l.frames)) l.initial.self l.self (g.P.Port.state l.initial.port) (g.P.Port.state l.port)
    × (l.dated-index ≤ length l.frames)
