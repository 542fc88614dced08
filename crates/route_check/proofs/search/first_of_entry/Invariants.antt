use Rattle.route_check.specs.Order.{place_rank}
use Rattle.route_check.specs.Search.{IsOfEntry}
use Rattle.route_check.proofs.OrderLemmas.{NoneBelow}
use Rattle.route_check.proofs.search.first_of_entry.Given as goal

abbrev pub invariant-loop-other : goal.invariant-loop-other
invariant-loop-other l = NoneBelow l.config (IsOfEntry l.kind l.place l.first) (λ conflict. place_rank conflict.other) l.other-index
