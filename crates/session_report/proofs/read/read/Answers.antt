-- The lines of a report with its first two.
use Rattle.session_report.proofs.Texts.{lines_cause}
use Rattle.session_report.proofs.read.read.Goals as goal

pub returns-in-Err-clause-cause : goal.returns-in-Err-clause-cause
returns-in-Err-clause-cause c = lines_cause _ _ _ _ _ c.in_ok-version.ensures.found c.in-Err.ensures.err
