-- Numbers in hex digits.
use Rattle.std.specs.Prelude.{ℕ, List, Option, Some, None, Bool, nat_lt, if◌then◌else◌}
use Rattle.std.specs.Char.{digit_value}
use Rattle.std.specs.List.{list_all}
use Rattle.std.specs.Str.Parse.{digits_value}

-- a hex digit of either case
abbrev pub is_hex_digit : ℕ → Bool
is_hex_digit digit = nat_lt (digit_value digit) 16

-- the number that hex digits spell
abbrev pub hex_value : List ℕ → Option ℕ
hex_value digits = if list_all is_hex_digit digits then Some (digits_value 16 digits) else None
