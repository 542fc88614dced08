use Rattle.route_check.specs.Order.{kind_rank}
use Rattle.route_check.specs.Search.{IsAny}
use Rattle.route_check.proofs.OrderLemmas.{NoneBelow}
use Rattle.route_check.proofs.search.first_conflict.Given as goal

abbrev pub invariant-loop-kind : goal.invariant-loop-kind
invariant-loop-kind l = NoneBelow l.config IsAny (λ conflict. kind_rank conflict.kind) l.kind-index
