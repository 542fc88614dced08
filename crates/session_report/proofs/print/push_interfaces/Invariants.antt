-- The lines so far are those of the items so far.
use Rattle.std.proofs.Common.{◌≡◌, ◌++◌, flat_map, take}
use Rattle.session_report.specs.Printing.{interface_text}
use Rattle.session_report.proofs.print.push_interfaces.Given as goal

abbrev pub invariant-loop-record : goal.invariant-loop-record
invariant-loop-record l = l.text ≡ l.initial.text ++ flat_map interface_text (take l.record-index l.records)
