use Rattle.std.proofs.Common.{length, ◌-◌, ◌≡◌}
use Rattle.gw_run.proofs.Pieces.{Appended, NoFault}
use Rattle.gw_run.proofs.files.append_all.Given as goal

abbrev pub invariant-loop-done : goal.invariant-loop-done
invariant-loop-done g l =
    ((g.D.Depot.state l.depot).told ≡ (g.D.Depot.state l.initial.depot).told)
    × Appended (g.D.Depot.state l.initial.depot).told (g.D.Depot.state l.initial.depot).files (g.D.Depot.state l.depot).files l.name l.bytes l.done
    × NoFault (g.D.Depot.state l.initial.depot).faults (g.D.Depot.state l.depot).faults (g.D.Depot.state l.initial.depot).blame (g.D.Depot.state l.depot).blame

abbrev pub decreases-loop-done : goal.decreases-loop-done
decreases-loop-done g l = length l.bytes - l.done
