-- One report is spelled so, and one line is the first bad one.
use Rattle.session_report.proofs.Texts.{answers_bad, answers_report}
use Rattle.session_report.proofs.read.read_report.Goals as goal

pub returns-clause-only : goal.returns-clause-only
returns-clause-only c = answers_report c.args.text.now c.read.result c.read.ensures.found c.read.ensures.cause

pub returns-clause-first : goal.returns-clause-first
returns-clause-first c = answers_bad c.args.text.now c.read.result c.read.ensures.found c.read.ensures.cause
