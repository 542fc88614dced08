-- Whole files: one that is read, and one that a whole text is appended to.
use Rattle.std.specs.Prelude.{◌≡◌, ℕ, ◌<◌, ◌≤◌, List, ◌++◌, length, take, Some, Result, OnOk}
use Rattle.gw_depot.specs.declared.outside.CallKind.TheVariants.{Read}
use Rattle.gw_depot.specs.Fault.{Blame, Rose}
use Rattle.gw_depot.specs.Files.{Files, OthersStay}
use Rattle.gw_run.specs.declared.files.ReadStop.{ReadStop}
use Rattle.gw_run.specs.declared.files.ReadStop.TheVariants.{Fault, Memory, TooLong}

-- the file has all the bytes more, or some of them where a call failed; other files stay
pub record AppendsAll {E : Type 0} (old new : Files) (name bytes : List ℕ) (result : Result (Unit {0}) E) : Type 0 where
  pub all : OnOk result ((content : List ℕ) → old name ≡ Some content → new name ≡ Some (content ++ bytes))
  pub some : (content : List ℕ) → old name ≡ Some content → (count : ℕ) × (new name ≡ Some (content ++ take count bytes))
  pub others : OthersStay old new name

-- the file holds these bytes, which are at most so many
pub record HoldsShort (files : Files) (name : List ℕ) (most : ℕ) (bytes : List ℕ) : Type 0 where
  pub there : files name ≡ Some bytes
  pub short : length bytes ≤ most

-- the file is there and has more bytes than so many
pub record IsTooLong (files : Files) (name : List ℕ) (most : ℕ) : Type 0 where
  pub bytes : List ℕ
  pub there : files name ≡ Some bytes
  pub long : most < length bytes

-- why a file wasn't read whole; a fault and want of memory have no cause in it
abbrev pub StopsReading : Files → List ℕ → ℕ → ReadStop → Type 0
StopsReading files name most Fault = Unit {0}
StopsReading files name most Memory = Unit {0}
StopsReading files name most TooLong = IsTooLong files name most

-- a read fails only where the count of faults rose, and the blame is then a read of this file
abbrev pub FaultsOn : List ℕ → ℕ → ℕ → Blame → ReadStop → Type 0
FaultsOn name before now blame Fault = Rose before now × (blame ≡ Some (Read, name))
FaultsOn name before now blame Memory = Unit {0}
FaultsOn name before now blame TooLong = Unit {0}
