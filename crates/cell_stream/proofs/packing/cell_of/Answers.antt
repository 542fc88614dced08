use Rattle.std.proofs.Common.{arith}
use Rattle.cell_stream.proofs.packing.cell_of.Goals as goal
use Rattle.cell_stream.proofs.Words.{cell-word, cell-word_bytes, word-is}

pub returns-clause-cell : goal.returns-clause-cell
returns-clause-cell c = cell-word c.args.bytes.now _ c.requires.some c.requires.most c.from_le_bytes.type_inv (word-is c.args.bytes.now _ _ c.requires.most (λ i. omega (arith, c.type_inv.bytes i)) c.copy_from_slice.ensures.after c.from_le_bytes.ensures)

pub returns-clause-bytes : goal.returns-clause-bytes
returns-clause-bytes c = cell-word_bytes c.args.bytes.now _ (word-is c.args.bytes.now _ _ c.requires.most (λ i. omega (arith, c.type_inv.bytes i)) c.copy_from_slice.ensures.after c.from_le_bytes.ensures)
