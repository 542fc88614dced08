-- Files by name, and what a call does to them.
use Rattle.std.specs.Prelude.{◌≡◌, ◌≢◌, ◌⊎◌, ℕ, ◌-◌, ◌<◌, ◌≤◌, ◌↔◌, min, List, [], ◌++◌, length, take, drop, Option, Some, Result, IfOk, OnOk, OnErr}

-- what each name holds: nothing where the file isn't there
abbrev pub Files : Type 0
Files = List ℕ → Option (List ℕ)

-- a file's name has 1 to 64 bytes
abbrev pub IsName : List ℕ → Type 0
IsName name = (0 < length name) × (length name ≤ 64)

-- every file but one is as before
abbrev pub OthersStay : Files → Files → List ℕ → Type 0
OthersStay old new name = (other : List ℕ) → other ≢ name → new other ≡ old other

-- `got` is the bytes of the file from a place on, as many as were counted; none exactly at or past the end
pub record ReadsFile (files : Files) (name : List ℕ) (at count : ℕ) (got : List ℕ) : Type 0 where
  pub content : List ℕ
  pub there : files name ≡ Some content
  pub bytes : got ≡ take count (drop at content)
  pub end : (count ≡ 0) ↔ (length content ≤ at)

-- a read counts all the bytes of the file from a place on that there is room for
abbrev pub ReadsAll : Files → (name : List ℕ) → (at room count : ℕ) → Type 0
ReadsAll files name at room count =
    (content : List ℕ) → files name ≡ Some content → count ≡ min room (length content - at)

-- the file is there and empty; where the call failed it may also be as before
pub record CreatesFile {T E : Type 0} (old new : Files) (name : List ℕ) (result : Result T E) : Type 0 where
  pub made : OnOk result (new name ≡ Some [])
  pub kept : OnErr result ((new name ≡ old name) ⊎ (new name ≡ Some []))
  pub others : OthersStay old new name

-- the file has as many bytes of the piece more as were counted, none where the call failed
pub record AppendsFile {E : Type 0} (old new : Files) (name piece : List ℕ) (result : Result ℕ E) : Type 0 where
  pub added : IfOk result (λ count.
      (content : List ℕ) → old name ≡ Some content → new name ≡ Some (content ++ take count piece))
  pub kept : OnErr result (new name ≡ old name)
  pub others : OthersStay old new name

-- as many bytes of the piece were said as were counted, none where the call failed
pub record SaysPiece {E : Type 0} (old new piece : List ℕ) (result : Result ℕ E) : Type 0 where
  pub added : IfOk result (λ count. new ≡ old ++ take count piece)
  pub kept : OnErr result (new ≡ old)

-- every file is as before
abbrev pub SameFiles : Files → Files → Type 0
SameFiles old new = (name : List ℕ) → new name ≡ old name

-- the file holds these bytes now, and every other is as before
pub record SetsFile (old new : Files) (name bytes : List ℕ) : Type 0 where
  pub there : new name ≡ Some bytes
  pub others : OthersStay old new name
