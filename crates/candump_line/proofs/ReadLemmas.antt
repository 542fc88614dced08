-- What a line is too long for.
use Rattle.std.proofs.Common.{◌≡◌, ℕ, ◌≤◌, List, length, Err, refl}
use Rattle.std.proofs.lemmas.Bool.{lt-ltb}
use Rattle.candump_line.specs.Reading.{line_of}
use Rattle.candump_line.specs.declared.fault.LineKind.TheVariants.{TooLong}

-- a line of more than 512 bytes is too long, whatever they are
pub line-too_long : (iface line : List ℕ) → 513 ≤ length line → line_of iface line ≡ Err (record { kind = TooLong; at = 512 })
unfolding line_of
line-too_long iface line long = rw (lt-ltb 512 (length line) long) refl
