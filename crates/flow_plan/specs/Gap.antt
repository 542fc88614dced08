-- How many ticks lie between two consecutive frames.
use Rattle.std.specs.Prelude.{ℕ, ◌+◌, ◌*◌, ◌-◌, ◌/◌, ◌%◌, ◌≤◌, ◌&&◌, max, min, nat_le, if◌then◌else◌}

-- a separation time in microseconds: 0 to 127 are milliseconds, F1 to F9 hex are hundreds of microseconds, and each reserved
-- value is as the longest
abbrev pub separation : ℕ → ℕ
separation st = if nat_le st 127 then st * 1000 else (if nat_le 241 st && nat_le st 249 then (st - 240) * 100 else 127000)

-- the fewest ticks, and one at least, that last so many microseconds
pub record IsGap (micros period ticks : ℕ) : Type 0 where
  pub some : 1 ≤ ticks
  pub enough : micros ≤ ticks * period
  pub least : (fewer : ℕ) → 1 ≤ fewer → micros ≤ fewer * period → ticks ≤ fewer

-- the ticks of so many microseconds that a sender lets pass between two consecutive frames for a separation time: it divided by the
-- tick and rounded up, and one at least
abbrev pub gap_in : (st period : ℕ) → ℕ
gap_in st period = max (separation st / period + min 1 (separation st % period)) 1
