use Rattle.std.proofs.Common.{◌≡◌, length, true}
use Rattle.candump_log.specs.Writer.{IsSameFile, IsThere, KeepsText}
use Rattle.candump_log.proofs.Texts.{NoFault}
use Rattle.candump_log.proofs.writer.LogWriter.flush.Given as goal

abbrev pub invariant-loop-piece : goal.invariant-loop-piece
invariant-loop-piece g l =
    IsSameFile l.initial.self l.self
    × ((g.D.Depot.state l.depot).told ≡ (g.D.Depot.state l.initial.depot).told)
    × ((g.D.Depot.state l.initial.depot).told ≡ true → KeepsText (g.D.Depot.state l.initial.depot).files (g.D.Depot.state l.depot).files l.initial.self l.self)
    × IsThere (g.D.Depot.state l.depot) l.self
    × NoFault (g.D.Depot.state l.initial.depot).faults (g.D.Depot.state l.depot).faults (g.D.Depot.state l.initial.depot).blame (g.D.Depot.state l.depot).blame

abbrev pub decreases-loop-piece : goal.decreases-loop-piece
decreases-loop-piece g l = length l.self.held
