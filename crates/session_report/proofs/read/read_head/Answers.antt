-- The first two lines, or the first bad one of them.
use Rattle.std.proofs.Common.{◌≡◌, Some, rules}
use Rattle.session_report.specs.Reading.{clock_at, version_at}
use Rattle.session_report.proofs.LineLaws.{clock_takes}
use Rattle.session_report.proofs.Texts.{bad_version, head_cause, heads}
use Rattle.session_report.proofs.read.read_head.Goals as goal

pub returns-in_default-clause-cause : goal.returns-in_default-clause-cause
returns-in_default-clause-cause c = bad_version c.args.text.now (search rules)

pub returns-in_default-clock-clause-cause : goal.returns-in_default-clock-clause-cause
returns-in_default-clock-clause-cause c = head_cause c.args.text.now c.in-Some.version c.in-Some.rest.now (search rules) (search rules)

pub invariant_of-result : goal.invariant_of-result
invariant_of-result c =
    record { ticking = (clock_takes c.in-Some.rest.now ((c.in-Some-clock.start, c.in-Some-clock.period), c.in-Some-clock.rest.now) (search rules)).2 }

pub returns-clause-found : goal.returns-clause-found
returns-clause-found c =
    let first : version_at c.args.text.now ≡ Some (c.in-Some.version, c.in-Some.rest.now) = search rules in
    let second : clock_at c.in-Some.rest.now ≡ Some ((c.in-Some-clock.start, c.in-Some-clock.period), c.in-Some-clock.rest.now) = search rules in
    (heads _ _ _ _ _ first second).has

pub returns-clause-shorter : goal.returns-clause-shorter
returns-clause-shorter c =
    let first : version_at c.args.text.now ≡ Some (c.in-Some.version, c.in-Some.rest.now) = search rules in
    let second : clock_at c.in-Some.rest.now ≡ Some ((c.in-Some-clock.start, c.in-Some-clock.period), c.in-Some-clock.rest.now) = search rules in
    (heads _ _ (record { start = record { 0 = c.in-Some-clock.start }; period = c.in-Some-clock.period; ticking = (clock_takes _ _ second).2 }) _ _ first second).shorter
