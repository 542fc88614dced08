-- Cells: words that hold one to seven bytes and their number.
use Rattle.std.specs.Prelude.{◌≡◌, ℕ, ◌+◌, ◌-◌, ◌%◌, ◌^◌, ◌<◌, ◌≤◌, List, take, drop, replicate, sum_by}
use Rattle.std.specs.Int.{w64, to_le_bytes}
use Rattle.std.specs.List.{flat_map}

-- how many bytes a cell counts: its low byte
abbrev pub count_of : ℕ → ℕ
count_of word = word % 256

-- the bytes of a cell: as many as it counts, from its second byte upwards
unfoldable pub cell_bytes : ℕ → List ℕ
cell_bytes word = take (count_of word) (drop 1 (to_le_bytes w64 word))

-- a cell: a word of eight bytes that counts one to seven, and above those that it counts has zeros
pub record IsCell (word : ℕ) : Type 0 where
  pub fits : word < 2 ^ 64
  pub some : 1 ≤ count_of word
  pub most : count_of word ≤ 7
  pub rest : drop (count_of word + 1) (to_le_bytes w64 word) ≡ replicate (7 - count_of word) 0

-- the bytes of cells, one cell after another
abbrev pub bytes_of : List ℕ → List ℕ
bytes_of cells = flat_map cell_bytes cells

-- how many bytes cells count together
abbrev pub counted : List ℕ → ℕ
counted cells = sum_by count_of cells
