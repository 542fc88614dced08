-- The lines so far are those of the items so far.
use Rattle.std.proofs.Common.{◌≡◌, ◌++◌, flat_map, take}
use Rattle.session_report.specs.Printing.{first_move_text}
use Rattle.session_report.proofs.print.push_first_moves.Given as goal

abbrev pub invariant-loop-made : goal.invariant-loop-made
invariant-loop-made l = l.text ≡ l.initial.text ++ flat_map (first_move_text l.version) (take l.made-index l.moves)
