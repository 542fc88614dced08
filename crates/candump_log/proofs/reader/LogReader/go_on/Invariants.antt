use Rattle.std.proofs.Common.{◌≡◌, ◌≤◌, ◌-◌, ◌*◌, ◌+◌, List}
use Rattle.candump_log.specs.Reader.{IsSameLog, IsUnderway}
use Rattle.candump_log.specs.declared.log.Stamped.{Stamped}
use Rattle.candump_log.specs.declared.reader.Stage.TheVariants.{Open}
use Rattle.candump_log.proofs.reader.LogReader.go_on.Given as goal

abbrev pub invariant-loop-stamped : goal.invariant-loop-stamped
invariant-loop-stamped g l =
    IsSameLog l.initial.self l.self
    × (l.self.stage ≡ Open)
    × ((g.D.Depot.state l.depot).told ≡ (g.D.Depot.state l.initial.depot).told)
    × ((g.D.Depot.state l.depot).files ≡ (g.D.Depot.state l.initial.depot).files)
    × ((g.D.Depot.state l.initial.depot).faults ≤ (g.D.Depot.state l.depot).faults)
    × (l.initial.self.lines ≤ l.self.lines)
    × ((frames : List Stamped) → IsUnderway (g.D.Depot.state l.initial.depot).told (g.D.Depot.state l.initial.depot).files l.initial.self frames →
    IsUnderway (g.D.Depot.state l.initial.depot).told (g.D.Depot.state l.initial.depot).files l.self frames)

abbrev pub decreases-loop-stamped : goal.decreases-loop-stamped
decreases-loop-stamped g l = 515 * l.initial.self.most + 66049 - (l.self.taken + l.self.lines)
