use Rattle.std.proofs.Common.{refl, ap}
use Rattle.tp_sender.specs.State.{transmission_of}
use Rattle.std.specs.Prelude.{option_map, option_to_list}
use Rattle.tp_unit.specs.Unit.{box_meaning_of}
use Rattle.tp_sender.proofs.Turns.{begins-reached, begins-gone, begins-later, looked-at}
use Rattle.tp_sender.proofs.turn.begin.Goals as goal

pub returns-then-reaches-clause-step : goal.returns-then-reaches-clause-step
returns-then-reaches-clause-step g c =
    begins-reached c.args.set.now c.args.live _ c.seen-seen.result _ _ _ _ _ c.requires.knows.path c.requires.knows.dest c.seen-seen.ensures.view c.seen-seen.ensures.stays.rise c.seen-seen.ensures.fresh
    (looked-at c.args.live c.seen-seen.new.at c.seen-seen.result c.seen-seen.ensures.token) c.if-reaches.ensures c.fill_from.ensures.step

pub returns-then-not-seen-clause-step : goal.returns-then-not-seen-clause-step
returns-then-not-seen-clause-step g c =
    begins-gone c.args.set.now c.args.live _ c.seen-seen.result _ _ _ _ _ c.requires.knows.path c.requires.knows.dest c.seen-seen.ensures.view c.seen-seen.ensures.stays.rise c.seen-seen.ensures.fresh
    (looked-at c.args.live c.seen-seen.new.at c.seen-seen.result c.seen-seen.ensures.token) c.if-reaches.ensures c.if-not-seen.true c.end.ensures.step

pub returns-clause-step : goal.returns-clause-step
returns-clause-step g c =
    begins-later c.args.set.now c.args.live _ c.seen-seen.result _ _ c.args.tick.0 _ c.go_on.result c.requires.knows.path c.requires.knows.dest c.seen-seen.ensures.view c.seen-seen.ensures.fresh
    (looked-at c.args.live c.seen-seen.new.at c.seen-seen.result c.seen-seen.ensures.token) c.if-reaches.ensures c.if-not-seen.false
    c.go_on.ensures.moved (λ all. record { calls_are = refl; act = ap box_meaning_of c.go_on.ensures.boxed; records = ap option_to_list c.go_on.ensures.ended; live = ap (option_map transmission_of) c.go_on.ensures.live })
