-- Bytes that are held between two calls of a depot.
use Rattle.std.specs.Prelude.{◌≡◌, ℕ, Bool, true, List, ◌++◌, length}
use Rattle.gw_depot.specs.Files.{Files, ReadsFile}

-- so many bytes more are held; where the depot tells its contents they are the file's from that place on
pub record ReadsMore (told : Bool) (files : Files) (file : List ℕ) (at count : ℕ) (old new : List ℕ) : Type 0 where
  pub got : List ℕ
  pub added : new ≡ old ++ got
  pub long : length got ≡ count
  pub read : told ≡ true → ReadsFile files file at count got
