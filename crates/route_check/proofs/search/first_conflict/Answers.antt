use Rattle.std.proofs.Common.{arith}
use Rattle.route_check.specs.Order.{kind_rank}
use Rattle.route_check.specs.Search.{IsAny, IsOfKind}
use Rattle.route_check.proofs.LevelLemmas.{first_kind, kind_at, kind_rank_below}
use Rattle.route_check.proofs.OrderLemmas.{none_more}
use Rattle.route_check.proofs.search.first_conflict.Goals as goal

pub loop-kind-init : goal.loop-kind-init
loop-kind-init c = λ conflict among less holds. omega arith

pub returns-in-Some : goal.returns-in-Some
returns-in-Some c = first_kind c.args.config.now c.loop-kind.kind-index _ c.in-Some.conflict c.loop-kind-test.true c.loop-kind.invariant c.in-Some.ensures

pub loop-kind-preserved : goal.loop-kind-preserved
loop-kind-preserved c =
    none_more c.args.config.now IsAny (IsOfKind _) (λ conflict. kind_rank conflict.kind) c.loop-kind.kind-index c.loop-kind.invariant
    (λ conflict among rank. kind_at conflict.kind _ c.loop-kind.kind-index rank) c.in_default.ensures

pub returns : goal.returns
returns c = λ conflict among holds. c.loop-kind.invariant conflict among (omega (arith, kind_rank_below conflict.kind, c.loop-kind-test.false)) holds
