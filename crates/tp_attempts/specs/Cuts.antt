-- A list that is cut at its starts, whatever its items are.
use Rattle.std.specs.Prelude.{Bool, cond, List, [], ◌∷◌}

-- a start, and what follows it up to the next one
pub record Cut (T : Type 0) : Type 0 where
  pub start : T
  pub after : List T

-- the items before the first start
abbrev pub before_start : {T : Type 0} → (T → Bool) → List T → List T
before_start starts [] = []
before_start starts (x ∷ xs) = cond (starts x) [] (x ∷ before_start starts xs)

-- one cut for each start, in order
abbrev pub cuts : {T : Type 0} → (T → Bool) → List T → List (Cut T)
cuts starts [] = []
cuts starts (x ∷ xs) = cond (starts x) (record { start = x; after = before_start starts xs } ∷ cuts starts xs) (cuts starts xs)
