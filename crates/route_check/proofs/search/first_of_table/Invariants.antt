use Rattle.route_check.specs.Search.{IsOfTable}
use Rattle.route_check.proofs.OrderLemmas.{NoneBelow}
use Rattle.route_check.proofs.search.first_of_table.Given as goal

abbrev pub invariant-loop-first : goal.invariant-loop-first
invariant-loop-first l = NoneBelow l.config (IsOfTable l.kind l.place) (λ conflict. conflict.first) l.first
