-- Where a log is read from, and which frames its bus has.
use Rattle.std.specs.Prelude.{ℕ, List, Bool}

-- the interface whose frames the log lists, the file that holds it, and whether its bus has CAN FD
pub record Source : Type 0 where
  pub interface : List ℕ
  pub file : List ℕ
  pub fd : Bool
