-- Steps in which a line is read that are no fields of it: each is a part of the table of its reading.
use Rattle.std.specs.Prelude.{ℕ, nat_le, if◌then◌else◌, List, length, Option, None, Some, Result, Ok, Err}
use Rattle.std.specs.Str.{bytes_eq}
use Rattle.candump_line.specs.Fault.{fault_at, ◌>>=◌}
use Rattle.candump_line.specs.Reading.{data_at, interface_at}
use Rattle.candump_line.specs.declared.fault.LineFault.{LineFault}
use Rattle.candump_line.specs.declared.fault.LineKind.TheVariants.{BadLength}

-- what stands after the interface's name; None after another interface's
unfoldable pub name_at : (len : ℕ) → (iface rest : List ℕ) → Result (Option (List ℕ)) LineFault
name_at len iface rest = do
  name ← interface_at len rest
  Ok (if bytes_eq name.0 iface then Some name.1 else None)

-- the data, of which more bytes than these are a bad length
unfoldable pub data_within : (most len : ℕ) → List ℕ → Result (List ℕ × List ℕ) LineFault
data_within most len rest = do
  read ← data_at len rest
  if nat_le (length read.0) most then Ok read else Err (fault_at len BadLength rest)
