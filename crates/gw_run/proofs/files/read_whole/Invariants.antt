use Rattle.std.proofs.Common.{◌≡◌, ◌≤◌, ◌-◌, length}
use Rattle.gw_run.proofs.Pieces.{Fronts}
use Rattle.gw_run.proofs.files.read_whole.Given as goal

abbrev pub invariant-loop-count : goal.invariant-loop-count
invariant-loop-count g l =
    ((g.D.Depot.state l.depot).told ≡ (g.D.Depot.state l.initial.depot).told)
    × ((g.D.Depot.state l.depot).files ≡ (g.D.Depot.state l.initial.depot).files)
    × ((g.D.Depot.state l.initial.depot).faults ≤ (g.D.Depot.state l.depot).faults)
    × (length l.bytes ≤ l.most)
    × Fronts (g.D.Depot.state l.initial.depot).told (g.D.Depot.state l.initial.depot).files l.name l.bytes

abbrev pub decreases-loop-count : goal.decreases-loop-count
decreases-loop-count g l = l.most - length l.bytes
