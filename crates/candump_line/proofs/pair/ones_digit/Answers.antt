-- The table is held against the definition at each of the 256 bytes, by computing.
use Rattle.std.proofs.Common.{ℕ, ◌∙◌, refl, ap, arith}
use Rattle.std.specs.Prelude.{nat_lt, if◌then◌else◌}
use Rattle.std.specs.Char.{digit_value}
use Rattle.candump_line.proofs.Counting.{agrees_below, by_table}
use Rattle.candump_line.proofs.pair.ones_digit.Goals as goal
use Rattle.candump_line.specs.declared.pair.TheConstants.{ONES_DIGITS}

added : ℕ → ℕ
added byte = if nat_lt (digit_value byte) 10 then digit_value byte else 100

pub returns : goal.returns
unfolding added agrees_below
returns c = by_table added ONES_DIGITS c.from.result (omega (arith, c.from.ensures)) refl ∙ ap added c.from.ensures
