-- The name's bytes grow, and the others stay.
use Rattle.std.proofs.Common.{arith}
use Rattle.std.proofs.Math.Seq.{take-length}
use Rattle.std.proofs.lemmas.Map.Text.{text_keys}
use Rattle.gw_depot.specs.MemFiles.{held}
use Rattle.gw_depot.proofs.mem_files.MemFiles.append.Goals as goal

pub returns-in_err-extend_from_slice-clause-appended :
    goal.returns-in_err-extend_from_slice-clause-appended
unfolding held
returns-in_err-extend_from_slice-clause-appended c = record { added = grind (arith, text_keys); kept = grind (arith, text_keys); others = λ other ne. grind (arith, text_keys) }

pub returns-clause-appended : goal.returns-clause-appended
unfolding held
returns-clause-appended c = record { added = λ content is. grind (arith, text_keys, take-length c.args.piece.now); kept = tt; others = λ other ne. grind (arith, text_keys) }
