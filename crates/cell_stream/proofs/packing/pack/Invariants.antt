use Rattle.std.proofs.Common.{length}
use Rattle.cell_stream.proofs.Packs.{PackedTo}
use Rattle.cell_stream.proofs.packing.pack.Given as goal

abbrev pub invariant-loop-rest : goal.invariant-loop-rest
invariant-loop-rest l = PackedTo l.bytes l.cells.items l.rest

abbrev pub decreases-loop-rest : goal.decreases-loop-rest
decreases-loop-rest l = length l.rest
