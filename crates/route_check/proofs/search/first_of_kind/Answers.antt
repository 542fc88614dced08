use Rattle.std.proofs.Common.{arith}
use Rattle.route_check.specs.Order.{place_rank}
use Rattle.route_check.specs.Search.{IsOfKind, IsOfTable}
use Rattle.route_check.proofs.LevelLemmas.{first_table, place_at, place_rank_below}
use Rattle.route_check.proofs.OrderLemmas.{none_more}
use Rattle.route_check.proofs.search.first_of_kind.Goals as goal

pub loop-place-init : goal.loop-place-init
loop-place-init c = λ conflict among less holds. omega arith

pub returns-in-Some : goal.returns-in-Some
returns-in-Some c = first_table c.args.config.now c.args.kind c.loop-place.place-index _ c.in-Some.conflict c.loop-place-test.true c.loop-place.invariant c.in-Some.ensures

pub loop-place-preserved : goal.loop-place-preserved
loop-place-preserved c =
    none_more c.args.config.now (IsOfKind c.args.kind) (IsOfTable c.args.kind _) (λ conflict. place_rank conflict.place) c.loop-place.place-index c.loop-place.invariant
    (λ conflict among rank. (among, place_at conflict.place _ c.loop-place.place-index rank)) c.in_default.ensures

pub returns : goal.returns
returns c = λ conflict among holds. c.loop-place.invariant conflict among (omega (arith, place_rank_below conflict.place, c.loop-place-test.false)) holds
