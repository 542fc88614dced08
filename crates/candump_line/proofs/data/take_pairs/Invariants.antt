-- The bytes so far and those of the rest are those of the text.
use Rattle.std.proofs.Common.{◌-◌, ◌≡◌, ◌≤◌, length}
use Rattle.candump_line.proofs.Counting.{PairsHeld}
use Rattle.candump_line.proofs.data.take_pairs.Given as goal

abbrev pub invariant-loop-count : goal.invariant-loop-count
invariant-loop-count g l = PairsHeld l.text l.bytes l.rest l.count × (l.count ≤ g.row.N) × (length l.bytes ≡ g.row.N)

abbrev pub decreases-loop-count : goal.decreases-loop-count
decreases-loop-count g l = g.row.N - l.count
