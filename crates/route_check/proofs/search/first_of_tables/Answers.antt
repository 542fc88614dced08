use Rattle.std.proofs.Common.{arith, sym, ◌∙◌}
use Rattle.route_check.proofs.CountLemmas.{second_below}
use Rattle.route_check.proofs.LevelLemmas.{first_second, none_second}
use Rattle.route_check.proofs.search.first_of_tables.Goals as goal

pub loop-second-init : goal.loop-second-init
loop-second-init c = λ conflict among less holds. omega arith

pub returns-then-has_conflict : goal.returns-then-has_conflict
returns-then-has_conflict c =
    first_second c.args.config.now c.args.kind c.args.place c.args.first c.args.other c.loop-second.second c.loop-second.invariant (sym c.has_conflict.ensures ∙ c.if-has_conflict.true)

pub loop-second-preserved : goal.loop-second-preserved
loop-second-preserved c =
    none_second c.args.config.now c.args.kind c.args.place c.args.first c.args.other c.loop-second.second c.loop-second.invariant (sym c.has_conflict.ensures ∙ c.if-has_conflict.false)

pub returns : goal.returns
returns c =
    λ conflict among holds.
    c.loop-second.invariant conflict among
    (omega (arith, second_below c.args.config.now c.args.kind c.args.place c.args.first c.args.other conflict among holds, c.loop-second-test.false, c.second_count-second-end.ensures)) holds
