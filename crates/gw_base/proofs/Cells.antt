-- Cells count their bytes.
use Rattle.std.proofs.Common.{◌≡◌, ℕ, List, [], ◌∷◌, length, drop, All, refl, ◌∙◌, arith, length-append, length-take}
use Rattle.std.proofs.lemmas.List.Elements.{All-head, All-tail}
use Rattle.std.proofs.lemmas.List.Sums.{sum_by-cons}
use Rattle.std.specs.Int.{w64, to_le_bytes}
use Rattle.gw_base.specs.Cell.{IsCell, cell_bytes, count_of, bytes_of, counted}

-- a cell has as many bytes as it counts
pub length-cell_bytes : (word : ℕ) → IsCell word → length (cell_bytes word) ≡ count_of word
unfolding cell_bytes
length-cell_bytes word cell = length-take (count_of word) (drop 1 (to_le_bytes w64 word)) ∙ omega arith

-- cells have as many bytes as they count together
pub length-bytes_of : (cells : List ℕ) → All IsCell cells → length (bytes_of cells) ≡ counted cells
length-bytes_of [] all = refl
length-bytes_of (cell ∷ cells) all =
    omega (arith, length-append (cell_bytes cell) (bytes_of cells), length-cell_bytes cell (All-head IsCell cell cells all), length-bytes_of cells (All-tail IsCell cell cells all), sum_by-cons count_of cell cells)
