-- What is kept of the frames that came, while they come one after another.
use Rattle.std.specs.Prelude.{◌≡◌, ℕ, Bool, is_some, Option, Some, None, List, [], ◌∷◌, ◌++◌, map}
use Rattle.tp_attempts.specs.declared.attempt.Attempt.{Attempt}
use Rattle.tp_attempts.specs.declared.begun.Begun.{Begun}
use Rattle.tp_attempts.specs.Cuts.{Cut}
use Rattle.tp_attempts.specs.Seen.{Seen}
use Rattle.tp_attempts.specs.Walk.{Walk, due_number, joined, last_place, walk_of}
use Rattle.tp_attempts.specs.Attempts.{attempts_in, told}

-- what is kept of an attempt that began in that place
pub record Keeps (kept : Begun) (place : ℕ) (walk : Walk) : Type 0 where
  pub start : kept.attempt.start ≡ place
  pub len : kept.attempt.len ≡ walk.len
  pub bytes : kept.attempt.bytes ≡ joined walk.pieces
  pub end : kept.attempt.end ≡ last_place place walk.pieces
  pub size : kept.size ≡ walk.size
  pub number : kept.number ≡ due_number walk
  pub ended : kept.ended ≡ is_some walk.wrong

-- all attempts but the last one are told, and the last one is kept
pub record IsWithin (address : ℕ) (done : List Attempt) (last : Begun) (attempts : List (Cut Seen)) : Type 0 where
  pub earlier : List (Cut Seen)
  pub cut : Cut Seen
  pub are : attempts ≡ earlier ++ cut ∷ []
  pub told : done ≡ map (told address) earlier
  pub keeps : Keeps last cut.start.at (walk_of address cut)

-- the frames seen so far are cut into the attempts that are told and the one that is kept, where one has begun
abbrev pub IsCut : ℕ → Bool → List Attempt → Option Begun → List Seen → Type 0
IsCut address functional done None seen = (done ≡ []) × (attempts_in functional seen ≡ [])
IsCut address functional done (Some last) seen = IsWithin address done last (attempts_in functional seen)
