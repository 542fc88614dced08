use Rattle.std.proofs.Common.{◌<◌, arith, subst}
use Rattle.route_check.specs.Names.{entry_count}
use Rattle.route_check.specs.Search.{IsOfTable, IsOfEntry}
use Rattle.route_check.proofs.CountLemmas.{first_below}
use Rattle.route_check.proofs.LevelLemmas.{first_entry}
use Rattle.route_check.proofs.OrderLemmas.{none_more}
use Rattle.route_check.proofs.search.first_of_table.Goals as goal

pub loop-first-init : goal.loop-first-init
loop-first-init c = λ conflict among less holds. omega arith

pub returns-in-Some : goal.returns-in-Some
returns-in-Some c = first_entry c.args.config.now c.args.kind c.args.place c.loop-first.first c.in-Some.conflict c.loop-first.invariant c.in-Some.ensures

pub loop-first-preserved : goal.loop-first-preserved
loop-first-preserved c =
    none_more c.args.config.now (IsOfTable c.args.kind c.args.place) (IsOfEntry c.args.kind c.args.place c.loop-first.first) (λ conflict. conflict.first) c.loop-first.first c.loop-first.invariant
    (λ conflict among is. (among, is)) c.in_default.ensures

pub returns : goal.returns
returns c =
    λ conflict among holds.
    c.loop-first.invariant conflict among
    (let below = first_below c.args.config.now conflict.kind conflict.place conflict.first conflict.other conflict.second holds in
    let there = subst (λ place. conflict.first < entry_count c.args.config.now place) among.1 below in
    omega (arith, there, c.loop-first-test.false, c.entry_count-first-end.ensures)) holds
