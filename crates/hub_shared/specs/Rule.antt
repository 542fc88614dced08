-- The rule of the shared words: they and the histories of all seats show a state of the plain machine.
use Rattle.std.specs.Prelude.{◌≡◌, ℕ, ◌+◌, ◌/◌, ◌%◌, ◌^◌, ◌<◌, ◌≤◌, List, [], length, get_or, slice_index, Option, Some, None}
use mathlib.Core.Option.{some}
use lib.ListN.{get_elem?}
use Rattle.atomic_table.specs.Table.{State}
use Rattle.hub_core.specs.Core.{Step, Leads}
use Rattle.hub_core.specs.Floors.{Rise, floors_of}
use Rattle.hub_core.specs.Groups.{all_sizes, changes_in, group_of, sizes_of}
use Rattle.hub_core.specs.Joint.{IsQuiet}
use Rattle.hub_core.specs.Journal.{replay}
use Rattle.hub_core.specs.Plain.{pool_after}
use Rattle.hub_core.specs.View.{View, Change, Taking, Session, session_at, empty_view}
use Rattle.pool_words.specs.Pools.{full_pool, pool_of}
use Rattle.hub_layout.specs.Places.{Length, words_in}
use Rattle.hub_shared.specs.Cards.{ShowCards, place_of_word}
use Rattle.hub_shared.specs.Counts.{total, count_held, AreDealt, IsOfOne, IsHeldByOne}
use Rattle.hub_shared.specs.History.{IsWhole, state_of}
use Rattle.hub_shared.specs.Sights.{view_of, floors_at}
use Rattle.hub_shared.specs.declared.sight.Hand.{Hand}
use Rattle.hub_shared.specs.declared.sight.Hand.TheVariants.{Idle, Looked, Parting, Entering, Prepared, Seeking}
use Rattle.hub_shared.specs.declared.sight.Note.{Note}
use Rattle.hub_shared.specs.declared.sight.Sight.{Sight}
use Rattle.hub_shared.specs.declared.sight.Sought.{Sought}

-- a pool word is one that a group had: so many changes, and the free set after them
pub record IsPast (sizes : List ℕ) (changes : List Change) (word : ℕ) : Type 0 where
  pub there : word / 2 ^ 32 ≤ length changes
  pub free : word % 2 ^ 32 ≡ replay sizes changes (word / 2 ^ 32)

abbrev pub WasWord : (groups : List (List ℕ)) (group : ℕ) (core : View) (word : ℕ) → Type 0
WasWord groups group core word = IsPast (sizes_of groups group) (changes_in groups group core) word

-- the session that is sought is in a buffer of the group, and is for the destination
pub record IsIn (groups : List (List ℕ)) (core : View) (sought : Sought) (buf : ℕ) : Type 0 where
  pub session : Session
  pub known : session_at core sought.path sought.seq ≡ Some session
  pub buf_is : session.buf ≡ buf
  pub its : group_of groups buf ≡ sought.group
  pub for : sought.dest < session.dests

abbrev pub IsWhere : List (List ℕ) → View → Sought → Option ℕ → Type 0
IsWhere groups core sought None = Unit {0}
IsWhere groups core sought (Some buf) = IsIn groups core sought buf

-- what a seat knows in the midst of a call, and which buffers it holds
abbrev pub HandKnows : List (List ℕ) → View → List ℕ → (ℕ → Option Taking) → Hand → Type 0
HandKnows groups core words held Idle = Unit {0}
HandKnows groups core words held (Looked group word) = WasWord groups group core word
HandKnows groups core words held (Parting named) = Unit {0}
HandKnows groups core words held (Entering opening) = Unit {0}
HandKnows groups core words held (Prepared opening) =
    (held opening.buf ≡ Some (record { number = opening.change; size = opening.cells })) × (get_or words (place_of_word groups (Length opening.buf)) 0 ≡ opening.len)
HandKnows groups core words held (Seeking sought buf) = IsWhere groups core sought buf

-- what a seat knows between its steps
pub record Knows (groups : List (List ℕ)) (core : View) (words : List ℕ) (v : Sight) : Type 0 where
  pub groups_are : v.groups ≡ groups
  pub whole : IsWhole v.entries
  pub floors : Rise (floors_at v) (floors_of groups core)
  pub hand : HandKnows groups core words (view_of v).held v.hand

pub record Kept (groups : List (List ℕ)) (s : State Note Sight) : Type 0 where
  -- the state of the plain machine, and the steps that lead to it
  pub core : View
  pub steps : List Step
  pub leads : Leads groups empty_view steps core
  pub quiet : IsQuiet groups core
  -- each group's pool word
  pub wide : words_in (length groups) (all_sizes groups) ≤ length s.words
  pub pools : (group : ℕ) → group < length groups → pool_of (slice_index s.words group) ≡ pool_after groups group core.changes
  -- what all seats did together is what was done
  pub changes : AreDealt (λ v. (view_of v).changes) core.changes s.views
  pub refused : AreDealt (λ v. (view_of v).refused) core.refused s.views
  pub writers : (path : ℕ) → IsOfOne (λ v. (state_of v.entries).part.writes path) (λ v. (view_of v).sessions path) (core.sessions path) s.views
  pub readers : (path dest : ℕ) → IsOfOne (λ v. (state_of v.entries).part.reads path dest) (λ v. (view_of v).readings path dest) (core.readings path dest) s.views
  pub holders : (buf : ℕ) → IsHeldByOne (λ v. (view_of v).held buf) (core.held buf) s.views
  -- each session had a take, and each buffer that is held
  pub entered : (path : ℕ) → length (core.sessions path) + count_held core.held (length (all_sizes groups)) ≤ length core.changes
  -- the words of the sessions
  pub shown : ShowCards groups s.words core
  -- the takes, and the parts of the right to know the whole
  pub takes : total (λ v. v.takes) s.views + length core.changes ≤ 8000000
  pub parts : total (λ v. v.parts) s.views ≡ 1024
  pub each : (id : ℕ) (v : Sight) → get_elem? s.views id ≡ some v → 0 < v.parts → Knows groups core s.words v
  pub spent_is : (id : ℕ) (v : Sight) → get_elem? s.views id ≡ some v → v.parts ≡ 0 → v.entries ≡ []

-- the pool words of groups of so many buffers, all of them free
abbrev pub AreWhole : (counts words : List ℕ) → Type 0
AreWhole counts words = (group : ℕ) → group < length counts → pool_of (get_or words group 0) ≡ full_pool (get_or counts group 0)

-- the words from one on are 0
abbrev pub AreClear : (first : ℕ) → List ℕ → Type 0
AreClear first words = (at : ℕ) → first ≤ at → get_or words at 0 ≡ 0
