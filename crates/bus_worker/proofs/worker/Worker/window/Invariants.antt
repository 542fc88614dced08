use Rattle.std.proofs.Common.{◌-◌, ◌≤◌, drop, length}
use Rattle.bus_worker.specs.Hearing.{HearsBy}
use Rattle.bus_worker.specs.Window.{DoesTicks, NeverFall}
use Rattle.bus_worker.proofs.worker.Worker.window.Given as goal

abbrev pub invariant-loop-tick : goal.invariant-loop-tick
invariant-loop-tick g l = record {
  most : l.came ≤ length l.frames;
  rest : NeverFall l.tick (drop l.came l.frames);
  hears : HearsBy l.tick (length l.frames - l.came) l.self (g.P.Port.state l.port);
  does : DoesTicks l.fn.from.0 l.tick l.came l.frames l.initial.self l.self (g.P.Port.state l.initial.port) (g.P.Port.state l.port);
}
