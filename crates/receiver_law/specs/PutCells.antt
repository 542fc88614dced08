-- The cells of what was put of an attempt: the payload of each counted frame lies in cells of its own.
use Rattle.std.specs.Prelude.{ℕ, List, length, sum_by}
use Rattle.flow_plan.specs.Cells.{cells_for}
use Rattle.tp_attempts.specs.Walk.{Piece}

-- the cells of counted frames
abbrev pub cells_of : List Piece → ℕ
cells_of pieces = sum_by (λ (piece : Piece). cells_for (length piece.bytes)) pieces
