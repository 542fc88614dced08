use Rattle.route_check.specs.Order.{place_rank}
use Rattle.route_check.specs.Search.{IsOfKind}
use Rattle.route_check.proofs.OrderLemmas.{NoneBelow}
use Rattle.route_check.proofs.search.first_of_kind.Given as goal

abbrev pub invariant-loop-place : goal.invariant-loop-place
invariant-loop-place l = NoneBelow l.config (IsOfKind l.kind) (λ conflict. place_rank conflict.place) l.place-index
