-- Lists of steps of the plain machine: two paths over two groups of buffers, and steps that mistakes would make.
use Rattle.std.specs.Prelude.{◌≡◌, ℕ, true, List, [], ◌∷◌, None}
use Rattle.hub_core.specs.Core.{Step, Takes, Refuses, Does, Frees, after, May, Leads, AreJoint}
use Rattle.hub_core.specs.View.{View, empty_view, Taken, Freed, Entered, Asked, Put, Published, Joining, Saw, Read, Closed, Parted, reading_at}

-- what steps leave, where each may happen
abbrev pub done : List Step → View → View
done [] h = h
done (step ∷ steps) h = done steps (after step h)

-- two groups, of one buffer of four cells and of one of two
abbrev pub two_groups : List (List ℕ)
two_groups = (4 ∷ []) ∷ (2 ∷ []) ∷ []

-- path 0 has a session for one destination in the first group's buffer, and a second take finds that group's buffer taken
abbrev pub first_path : List Step
first_path = Takes 0 1 0 4 3 ∷ Does (Entered 0 0 0 1 4 7 1) ∷ Refuses 0 1 0 1 ∷ []

-- path 1 has a session for three destinations in the second group's buffer: one reads its cell, one joins and leaves, and the one between them never joins
abbrev pub second_path : List Step
second_path =
    Takes 1 1 1 2 2 ∷ Does (Entered 1 0 1 1 2 7 3) ∷ Does (Put 1 0 7) ∷ Does (Published 1 0 7) ∷ Does (Joining 1 0 0 1 7) ∷ Does (Joining 1 2 0 1 7)
    ∷ Does (Saw 1 0 0 1 7 true) ∷ Does (Read 1 0 0 7) ∷ Does (Parted 1 0 0 []) ∷ Does (Parted 1 2 0 []) ∷ Does (Closed 1 0 []) ∷ []

-- path 0's session ends, and its buffer is freed
abbrev pub end_of_first : List Step
end_of_first = Does (Joining 0 0 0 0 7) ∷ Does (Closed 0 0 []) ∷ Does (Parted 0 0 0 []) ∷ Frees 2 0 ∷ []

-- the state after the two paths' steps, and after the first path's end
abbrev pub standing : View
standing = done second_path (done first_path empty_view)

abbrev pub ended : View
ended = done end_of_first standing

-- all of it happens: each group numbers its own changes, and the second group's buffer waits for the destination that never joined
pub record TwoPathsOverTwoGroups : Type 0 where
  pub first : Leads two_groups empty_view first_path (done first_path empty_view)
  pub second : Leads two_groups (done first_path empty_view) second_path standing
  pub third : Leads two_groups standing end_of_first ended
  pub changes : ended.changes ≡ Taken 1 0 3 ∷ Taken 1 1 2 ∷ Freed 2 0 ∷ []
  pub refused : ended.refused ≡ record { group = 0; number = 1; free = 0; need = 1 } ∷ []
  pub never : reading_at ended 1 1 0 ≡ None
  pub joint : AreJoint two_groups ended

-- a step that may not happen leaves all as it is
abbrev pub Stays : List (List ℕ) → View → Step → Type 0
Stays groups h step = (May groups h step → ⊥) × Leads groups h (step ∷ []) h

-- one group of a large buffer and a small one, of which the large one comes first; each is taken for a session of one path
abbrev pub one_group : List (List ℕ)
one_group = (8 ∷ 4 ∷ []) ∷ []

abbrev pub two_sessions : List Step
two_sessions = Takes 0 1 1 4 3 ∷ Does (Entered 0 0 1 1 4 7 1) ∷ Takes 0 2 0 8 3 ∷ Does (Entered 0 1 0 2 8 7 1) ∷ []

-- the second group's buffer is full, and its destination hasn't joined
abbrev pub filling : List Step
filling = Takes 1 1 1 2 2 ∷ Does (Entered 0 0 1 1 2 21 1) ∷ Does (Put 0 0 7) ∷ Does (Put 0 0 7) ∷ []

abbrev pub full : View
full = done filling empty_view

-- steps that mistakes would make, none of which may happen
pub record MistakesAreRefused : Type 0 where
  -- every leaver frees: the second group's buffer, when its writer left and a destination hasn't joined
  pub every_leaver_frees : Stays two_groups standing (Frees 2 1)
  -- a larger buffer is taken than the smallest that fits
  pub larger_is_taken : Stays one_group empty_view (Takes 0 1 0 8 3)
  -- the newest session is joined before the one before it
  pub newest_is_joined : Leads one_group empty_view two_sessions (done two_sessions empty_view) × Stays one_group (done two_sessions empty_view) (Does (Joining 0 0 1 0 7))
  -- a third cell is put into a buffer of two, of which no destination has read one; and a look that would show room for it
  pub is_full : Leads two_groups empty_view filling full
  pub put_over_unread : Stays two_groups full (Does (Put 0 0 7))
  pub room_over_unread : Stays two_groups full (Does (Asked 0 0 1 1))
