use Rattle.gw_settings.specs.Readings.{is_listed}
use Rattle.gw_settings.proofs.TreeLemmas.{fails_next, passes_all}
use Rattle.gw_settings.proofs.settings.has_known_only.Goals as goal

pub returns-then-not-is_listed : goal.returns-then-not-is_listed
returns-then-not-is_listed c =
    fails_next (is_listed c.args.keys.now) c.args.members.now.entries c.loop-name.name-iterator c.loop-name.invariant
    c.in-Some.name.now c.next.new.self (c.in-Some.ensures.steps)
    (rw (← c.as_str.ensures.value, ← c.is_listed.ensures) c.if-not-is_listed.true)

pub returns : goal.returns
returns c =
    passes_all (is_listed c.args.keys.now) c.args.members.now.entries c.loop-name.name-iterator c.loop-name.invariant
    c.in-None.ensures.steps.0
