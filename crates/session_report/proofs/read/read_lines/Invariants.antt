-- The parts hold the lines of the text up to the rest.
use Rattle.std.proofs.Common.{◌+◌, ◌≤◌, ◌≡◌, length}
use Rattle.session_report.specs.Reading.{AreRead, lines_in}
use Rattle.session_report.proofs.read.read_lines.Given as goal

abbrev pub invariant-loop-rest : goal.invariant-loop-rest
invariant-loop-rest l =
    AreRead l.version l.text l.parts l.last l.rest × (l.number ≡ length (lines_in l.parts) + 3) × (l.number + length l.rest ≤ length l.text + 3)

abbrev pub decreases-loop-rest : goal.decreases-loop-rest
decreases-loop-rest l = length l.rest
