-- What a contract sees of the outside, and what a call of it does to that.
use Rattle.std.specs.Prelude.{◌≡◌, ℕ, ◌≤◌, Bool, true, List, take, Some, Result, IfOk, OnOk, OnErr}
use Rattle.gw_depot.specs.declared.outside.CallKind.{CallKind}
use Rattle.gw_depot.specs.Fault.{Blame, Rose}
use Rattle.gw_depot.specs.Files.{Files, ReadsFile, CreatesFile, AppendsFile, SaysPiece}

-- what a depot is at: whether its contents are told, what each name holds where they are, how often a call has
-- failed, and the last failed call, none at first
pub record DepotState : Type 0 where
  pub told : Bool
  pub files : Files
  pub faults : ℕ
  pub blame : Blame

-- what a sink is at: whether what was said is told, the bytes said so far where it is, and how often a call has failed
pub record SinkState : Type 0 where
  pub told : Bool
  pub said : List ℕ
  pub faults : ℕ

-- a call fails only where the count of faults rises in it, and the blame is then this call's; a call that
-- doesn't fail leaves the blame
pub record HasCause {T E : Type 0} (kind : CallKind) (name : List ℕ) (old new : DepotState) (result : Result T E)
    : Type 0 where
  pub later : old.faults ≤ new.faults
  pub failed : OnErr result (Rose old.faults new.faults × (new.blame ≡ Some (kind, name)))
  pub left : OnOk result (new.blame ≡ old.blame)

-- where contents are told, a prefix of `into` is the bytes of the file from a place on
abbrev pub Reads : {E : Type 0} → DepotState → (name : List ℕ) → (at : ℕ) → (into : List ℕ) → Result ℕ E → Type 0
Reads depot name at into result =
    depot.told ≡ true → IfOk result (λ count. ReadsFile depot.files name at count (take count into))

-- where contents are told, the file is made empty
abbrev pub Creates : {T E : Type 0} → (old new : DepotState) → (name : List ℕ) → Result T E → Type 0
Creates old new name result = old.told ≡ true → CreatesFile old.files new.files name result

-- where contents are told, a prefix of the piece is appended
abbrev pub Appends : {E : Type 0} → (old new : DepotState) → (name piece : List ℕ) → Result ℕ E → Type 0
Appends old new name piece result = old.told ≡ true → AppendsFile old.files new.files name piece result

-- where what was said is told, a prefix of the piece is said
abbrev pub Says : {E : Type 0} → (old new : SinkState) → (piece : List ℕ) → Result ℕ E → Type 0
Says old new piece result = old.told ≡ true → SaysPiece old.said new.said piece result
