-- The name's key is set, and the others stay.
use Rattle.std.proofs.Common.{arith}
use Rattle.std.proofs.lemmas.Map.Text.{text_keys}
use Rattle.gw_depot.specs.MemFiles.{held}
use Rattle.gw_depot.proofs.mem_files.MemFiles.set.Goals as goal

pub returns-clause-ok : goal.returns-clause-ok
unfolding held
returns-clause-ok c = record { there = grind (arith, text_keys); others = λ other ne. grind (arith, text_keys) }
