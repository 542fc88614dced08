use Rattle.std.proofs.Common.{◌≡◌, ◌<◌, ◌*◌, ◌^◌, take}
use Rattle.gw_run.specs.Frames.{greatest_tick}
use Rattle.gw_run.proofs.start.greatest_tick.Given as goal

abbrev pub invariant-loop-stamped : goal.invariant-loop-stamped
invariant-loop-stamped l = (l.top ≡ greatest_tick l.clock.start.0 l.clock.period (take l.stamped-index l.frames)) × (l.top < 2 ^ 32 * 10 ^ 6)
