-- The lines so far are those of the items so far.
use Rattle.std.proofs.Common.{◌≡◌, ◌++◌, flat_map, take}
use Rattle.session_report.specs.Printing.{session_text}
use Rattle.session_report.proofs.print.push_sessions.Given as goal

abbrev pub invariant-loop-record : goal.invariant-loop-record
invariant-loop-record l = l.text ≡ l.initial.text ++ flat_map session_text (take l.record-index l.records)
