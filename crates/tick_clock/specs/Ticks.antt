-- Ticks: time counted in periods from the first stamp of all logs (this project's own).
use Rattle.std.specs.Prelude.{ℕ, ◌+◌, ◌-◌, ◌*◌, ◌/◌, ◌<◌, ◌≤◌, max, List, [], ◌∷◌, length, take, map, fold, slice_index}
use Rattle.std.specs.List.{range_with_len}

-- the tick of a stamp: the whole periods since the start, and 0 before it
abbrev pub tick_at : ℕ → ℕ → ℕ → ℕ
tick_at start period at = (at - start) / period

-- a stamp from the start on lies in tick k: not before the tick begins, and before the next one does
pub record LiesIn (start period at k : ℕ) : Type 0 where
  pub begun : start + k * period ≤ at
  pub not_over : at < start + (k + 1) * period

-- the stamp of what is sent in a tick: the moment at which the tick is over
abbrev pub stamp_after : ℕ → ℕ → ℕ → ℕ
stamp_after start period tick = start + (tick + 1) * period

-- the greatest of some ticks, and 0 of none
abbrev pub greatest : List ℕ → ℕ
greatest ticks = fold max 0 ticks

-- the tick of position i of a log: the greatest of the ticks of its stamps at positions 0 to i
abbrev pub tick_of_position : ℕ → ℕ → List ℕ → ℕ → ℕ
tick_of_position start period stamps i = greatest (map (tick_at start period) (take (i + 1) stamps))

-- the ticks of all positions of a log
abbrev pub ticks_of : ℕ → ℕ → List ℕ → List ℕ
ticks_of start period stamps = map (tick_of_position start period stamps) (range_with_len 0 (length stamps))

-- the last of some ticks, and 0 of none
abbrev pub last_tick : List ℕ → ℕ
last_tick ticks = slice_index ticks (length ticks - 1)

-- a running value: each stamp's tick, or the value so far where that is greater
abbrev pub running_from : ℕ → ℕ → ℕ → List ℕ → List ℕ
running_from start period top [] = []
running_from start period top (at ∷ stamps) =
    max top (tick_at start period at) ∷ running_from start period (max top (tick_at start period at)) stamps

-- the running value from 0 on
abbrev pub running_ticks : ℕ → ℕ → List ℕ → List ℕ
running_ticks start period stamps = running_from start period 0 stamps
