-- How many cells a buffer must have for a message.
use Rattle.std.specs.Prelude.{ℕ, ◌+◌, ◌-◌, Bool, true, false, max, min}

-- all of a stored message; else the start's cells and, unless all fits, as many as make the threshold and lack one for a full frame
abbrev pub needed : (first whole threshold per_cf : ℕ) → (store : Bool) → ℕ
needed first whole threshold per_cf true = whole
needed first whole threshold per_cf false = max first (min whole (threshold + per_cf - 1))
