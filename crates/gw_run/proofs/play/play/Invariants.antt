use Rattle.std.proofs.Common.{◌+◌, ◌-◌, ◌≤◌}
use Rattle.gw_run.specs.Frames.{address_of, answers_for, in_ticks, seen_for}
use Rattle.gw_run.specs.Playing.{SoFar}
use Rattle.gw_run.proofs.play.play.Given as goal

abbrev pub invariant-loop-tick : goal.invariant-loop-tick
invariant-loop-tick l =
    (l.tick.0 ≤ l.last.0 + 1)
    × SoFar l.gateway l.machines (seen_for (address_of l.machines.source) (in_ticks l.clock.start.0 l.clock.period l.source))
    (answers_for (address_of l.machines.destination) (in_ticks l.clock.start.0 l.clock.period l.destination)) l.tick.0 l.last.0 l.source_coming l.destination_coming

abbrev pub decreases-loop-tick : goal.decreases-loop-tick
decreases-loop-tick l = l.last.0 + 1 - l.tick.0
