-- The table is held against the definition at each of the 256 bytes, by computing.
use Rattle.std.proofs.Common.{◌∙◌, refl, ap, arith}
use Rattle.std.specs.Char.{digit_value}
use Rattle.candump_line.proofs.Counting.{agrees_below, by_table}
use Rattle.candump_line.proofs.digit.digit_value.Goals as goal
use Rattle.candump_line.specs.declared.digit.TheConstants.{DIGIT_VALUES}

pub returns : goal.returns
unfolding agrees_below
returns c = by_table digit_value DIGIT_VALUES c.from.result (omega (arith, c.from.ensures)) refl ∙ ap digit_value c.from.ensures
