use Rattle.route_check.specs.Search.{IsOfTables}
use Rattle.route_check.proofs.OrderLemmas.{NoneBelow}
use Rattle.route_check.proofs.search.first_of_tables.Given as goal

abbrev pub invariant-loop-second : goal.invariant-loop-second
invariant-loop-second l = NoneBelow l.config (IsOfTables l.kind l.place l.first l.other) (λ conflict. conflict.second) l.second
