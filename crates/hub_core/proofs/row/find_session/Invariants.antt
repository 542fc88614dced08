use Rattle.hub_core.proofs.Scans.{HasNoneTo}
use Rattle.hub_core.proofs.row.find_session.Given as goal

abbrev pub invariant-loop-at : goal.invariant-loop-at
invariant-loop-at l = HasNoneTo l.places l.path l.seq l.at
