-- Which buffer of a pool serves a need: the smallest one that is free and large enough.
use Rattle.std.specs.Prelude.{◌≡◌, ℕ, ◌<◌, ◌≤◌, List, length, slice_index, Option, Some, None, IsBitSet}

-- a buffer that is free and has the cells that are needed; sizes are in cells, a free set has bit i for buffer i
pub record Fits (sizes : List ℕ) (free need buf : ℕ) : Type 0 where
  pub there : buf < length sizes
  pub is_free : IsBitSet free buf
  pub enough : need ≤ slice_index sizes buf

-- the fitting buffer with the fewest cells, of equals the one with the lowest number
pub record IsSmallest (sizes : List ℕ) (free need buf : ℕ) : Type 0 where
  pub fits : Fits sizes free need buf
  pub fewest : (other : ℕ) → Fits sizes free need other → slice_index sizes buf ≤ slice_index sizes other
  pub first : (other : ℕ) → Fits sizes free need other → slice_index sizes other ≡ slice_index sizes buf → buf ≤ other

-- no free buffer has the cells that are needed
abbrev pub NoneFits : List ℕ → ℕ → ℕ → Type 0
NoneFits sizes free need = (buf : ℕ) → Fits sizes free need buf → ⊥

-- the buffer that a need is given, or none
abbrev pub IsFit : List ℕ → ℕ → ℕ → Option ℕ → Type 0
IsFit sizes free need (Some buf) = IsSmallest sizes free need buf
IsFit sizes free need None = NoneFits sizes free need
