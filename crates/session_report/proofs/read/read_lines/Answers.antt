-- A line more, or the place where the text stops.
use Rattle.std.proofs.Common.{rules, arith}
use Rattle.session_report.proofs.Gathering.{begins_read, goes_on, no_line, no_place, not_empty}
use Rattle.session_report.proofs.read.read_lines.Goals as goal

pub loop-rest-init : goal.loop-rest-init
loop-rest-init c =
    let none = begins_read c.args.version c.args.text.now c.new-parts.result c.new-parts.ensures in
    (none.0, omega (arith, none.1), omega arith)

pub returns-in_default-clause-err : goal.returns-in_default-clause-err
returns-in_default-clause-err c = no_line _ _ _ _ _ _ c.loop-rest.invariant.0 c.loop-rest.invariant.1 (not_empty _ (search rules)) (search rules)

pub returns-then-not-follows-clause-err : goal.returns-then-not-follows-clause-err
returns-then-not-follows-clause-err c =
    no_place _ _ _ _ _ _ c.in-Some.after.now c.in-Some.line c.loop-rest.invariant.0 c.loop-rest.invariant.1 (not_empty _ (search rules)) (search rules) (search rules)

pub loop-rest-smaller : goal.loop-rest-smaller
loop-rest-smaller c =
    (goes_on _ _ _ _ _ _ c.in-Some.line _ c.in-Some.after.now c.requires.version c.loop-rest.invariant.0 c.loop-rest.invariant.1 c.loop-rest.invariant.2 (search rules) (search rules) c.in-Ok.ensures).3

pub loop-rest-preserved : goal.loop-rest-preserved
loop-rest-preserved c =
    let on = goes_on _ _ _ _ _ _ c.in-Some.line _ c.in-Some.after.now c.requires.version c.loop-rest.invariant.0 c.loop-rest.invariant.1 c.loop-rest.invariant.2 (search rules) (search rules) c.in-Ok.ensures in
    (on.0, on.1, on.2)
