-- The digits that are left go on from the number so far.
use Rattle.std.proofs.Common.{◌≡◌, length}
use Rattle.session_report.specs.Reading.{digits_at}
use Rattle.session_report.proofs.fields.more_digits.Given as goal

abbrev pub invariant-loop-rest : goal.invariant-loop-rest
invariant-loop-rest l = digits_at l.front l.text ≡ digits_at l.number l.rest

abbrev pub decreases-loop-rest : goal.decreases-loop-rest
decreases-loop-rest l = length l.rest
