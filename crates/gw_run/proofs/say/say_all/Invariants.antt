use Rattle.std.proofs.Common.{length, ◌-◌, ◌≡◌, ◌≤◌}
use Rattle.gw_run.proofs.Saying.{Said}
use Rattle.gw_run.proofs.say.say_all.Given as goal

abbrev pub invariant-loop-done : goal.invariant-loop-done
invariant-loop-done g l =
    ((g.K.Sink.state l.say).told ≡ (g.K.Sink.state l.initial.say).told)
    × Said (g.K.Sink.state l.initial.say).told (g.K.Sink.state l.initial.say).said (g.K.Sink.state l.say).said l.bytes l.done
    × ((g.K.Sink.state l.initial.say).faults ≤ (g.K.Sink.state l.say).faults)

abbrev pub decreases-loop-done : goal.decreases-loop-done
decreases-loop-done g l = length l.bytes - l.done
