-- What a sink was told of a status (this project's own).
use Rattle.std.specs.Prelude.{◌≡◌, ◌⊎◌, ℕ, true, List, [], ◌∷◌, ◌++◌, take, Result, OnOk}
use Rattle.gw_depot.specs.Fault.{Rose}
use Rattle.gw_depot.specs.Outside.{SinkState}
use Rattle.gw_run.specs.declared.status.FileRole.TheVariants.{Say}
use Rattle.gw_run.specs.declared.status.Status.{Status}
use Rattle.gw_run.specs.declared.status.Status.TheVariants.{WriteFault, Memory}
use Rattle.gw_run.specs.Status.{is_done, status_text}

-- all the bytes were said, or some of them where a put failed
pub record SaysAll {E : Type 0} (old new bytes : List ℕ) (result : Result (Unit {0}) E) : Type 0 where
  pub all : OnOk result (new ≡ old ++ bytes)
  pub some : (count : ℕ) × (new ≡ old ++ take count bytes)

-- what is said of a status, with the name of the bus that it speaks of, and the line feed after it
abbrev pub line_of : (name : List ℕ) → Status → List ℕ
line_of name status = status_text name status ++ 10 ∷ []

-- the status stands; or it was Ok, and a put failed or memory was wanting
abbrev pub AfterTelling : Status → ℕ → ℕ → Status → Type 0
AfterTelling status before now result =
    (result ≡ status) ⊎ ((is_done status ≡ true) × (((result ≡ WriteFault Say) × Rose before now) ⊎ (result ≡ Memory)))

-- the status's line was said, and after Ok it always was; or nothing, for want of memory; or a beginning of it, where a
-- put failed
pub record TellsLine (name : List ℕ) (status : Status) (old new : SinkState) (result : Status) : Type 0 where
  pub done : is_done result ≡ true → new.said ≡ old.said ++ line_of name status
  pub said : (new.said ≡ old.said ++ line_of name status)
      ⊎ ((new.said ≡ old.said) ⊎ (Rose old.faults new.faults × ((count : ℕ) × (new.said ≡ old.said ++ take count (line_of name status)))))

-- what was told of the answer, or of the Ok that couldn't be said
pub record TellsAnswer (name : List ℕ) (old new : SinkState) (result : Status) : Type 0 where
  pub status : Status
  pub stands : AfterTelling status old.faults new.faults result
  pub line : TellsLine name status old new result
