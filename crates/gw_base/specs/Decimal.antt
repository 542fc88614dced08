-- Numbers as text: decimal digits, with leading zeros where a field has a width.
use Rattle.std.specs.Prelude.{ℕ, ◌-◌, List, ◌++◌, length, replicate, decimal}

-- the digits of a number, filled up on the left with zeros to a width
abbrev pub padded_decimal : ℕ → ℕ → List ℕ
padded_decimal width value = replicate (width - length (decimal value)) 48 ++ decimal value
