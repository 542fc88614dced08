-- When a run begins (this project's own).
use Rattle.std.specs.Prelude.{◌≡◌, ◌≤◌, ◌⊎◌, ℕ, List, [], map, All, Contains}
use Rattle.candump_log.specs.declared.log.Stamped.{Stamped}

-- the stamps of a log's frames
abbrev pub stamps_of : List Stamped → List ℕ
stamps_of frames = map (λ s. s.at.0) frames

-- the number is one of the list's, and none of them is below it
pub record IsLeast (numbers : List ℕ) (least : ℕ) : Type 0 where
  pub among : Contains numbers least
  pub below : All (λ n. least ≤ n) numbers

-- the least of all stamps, and 0 where there is none
abbrev pub IsStart : List ℕ → ℕ → Type 0
IsStart stamps start = IsLeast stamps start ⊎ ((stamps ≡ []) × (start ≡ 0))
