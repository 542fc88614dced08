-- The lines so far are those of the items so far.
use Rattle.std.proofs.Common.{◌≡◌, ◌++◌, flat_map, take}
use Rattle.session_report.specs.Printing.{move_text}
use Rattle.session_report.proofs.print.push_moves.Given as goal

abbrev pub invariant-loop-moved : goal.invariant-loop-moved
invariant-loop-moved l = l.text ≡ l.initial.text ++ flat_map (move_text l.version) (take l.moved-index l.moves)
