-- A payload in cells: seven bytes each, and one of the rest.
use Rattle.std.specs.Prelude.{◌≡◌, ℕ, ◌+◌, ◌<◌, List, length, slice_index, All}
use Rattle.gw_base.specs.Cell.{IsCell, count_of, bytes_of}

-- cells that hold just these bytes, in order, and of which only the last may be less than full
pub record IsPacked (bytes cells : List ℕ) : Type 0 where
  pub cells_only : All IsCell cells
  pub same_bytes : bytes_of cells ≡ bytes
  pub full : (k : ℕ) → k + 1 < length cells → count_of (slice_index cells k) ≡ 7
