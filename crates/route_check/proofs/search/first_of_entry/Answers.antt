use Rattle.std.proofs.Common.{arith}
use Rattle.route_check.specs.Order.{place_rank}
use Rattle.route_check.specs.Search.{IsOfEntry, IsOfTables}
use Rattle.route_check.proofs.LevelLemmas.{first_other, place_at, place_rank_below}
use Rattle.route_check.proofs.OrderLemmas.{none_more}
use Rattle.route_check.proofs.search.first_of_entry.Goals as goal

pub loop-other-init : goal.loop-other-init
loop-other-init c = λ conflict among less holds. omega arith

pub returns-in-Some : goal.returns-in-Some
returns-in-Some c = first_other c.args.config.now c.args.kind c.args.place c.args.first c.loop-other.other-index _ c.in-Some.conflict c.loop-other-test.true c.loop-other.invariant c.in-Some.ensures

pub loop-other-preserved : goal.loop-other-preserved
loop-other-preserved c =
    none_more c.args.config.now (IsOfEntry c.args.kind c.args.place c.args.first) (IsOfTables c.args.kind c.args.place c.args.first _) (λ conflict. place_rank conflict.other) c.loop-other.other-index c.loop-other.invariant
    (λ conflict among rank. (among, place_at conflict.other _ c.loop-other.other-index rank)) c.in_default.ensures

pub returns : goal.returns
returns c = λ conflict among holds. c.loop-other.invariant conflict among (omega (arith, place_rank_below conflict.other, c.loop-other-test.false)) holds
