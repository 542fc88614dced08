use Rattle.std.proofs.Common.{◌≡◌, ◌≤◌, ◌-◌, ◌*◌, ◌+◌}
use Rattle.candump_log.proofs.Logs.{ReadFrom}
use Rattle.candump_log.proofs.reading.read_log.Given as goal

abbrev pub invariant-loop-count : goal.invariant-loop-count
invariant-loop-count g l =
    ((g.D.Depot.state l.depot).told ≡ (g.D.Depot.state l.initial.depot).told)
    × ((g.D.Depot.state l.depot).files ≡ (g.D.Depot.state l.initial.depot).files)
    × ((g.D.Depot.state l.initial.depot).faults ≤ (g.D.Depot.state l.depot).faults)
    × (l.log.most ≡ l.most)
    × ReadFrom (g.D.Depot.state l.initial.depot).told (g.D.Depot.state l.initial.depot).files (g.S.LogSource.source l.source) l.log.taken l.log.piece.items l.log.lines l.log.frames

abbrev pub decreases-loop-count : goal.decreases-loop-count
decreases-loop-count g l = 514 * (l.most + 1) - l.log.taken
