-- What the views of all ports of one hub say together, where each party stands in one of them.
use Rattle.std.specs.Prelude.{◌≡◌, ℕ, ◌+◌, ◌<◌, ◌≤◌, true, false, length, take, slice_get, List, All, Option, Some, None}
use Rattle.gw_base.specs.Cell.{counted}
use Rattle.hub_core.specs.Groups.{group_of, place_of, sizes_of, changes_in, free_in}
use Rattle.hub_core.specs.Journal.{numbered, IsGroupJournal, IsOverflow, ChangesBuf, IsNextChange}
use Rattle.hub_core.specs.View.{View, Taken, Freed, Refusal, Session, Reading, session_at, reading_at}

-- a session is in order: no more is published than was put, and no more was put than its unit's length
pub record IsWritten (s : Session) : Type 0 where
  pub some : 0 < s.len
  pub shown : s.shown ≤ length s.cells
  pub told : s.told ≡ counted (take s.shown s.cells)
  pub within : counted s.cells ≤ s.len

-- what a destination knows of a session that it joined
pub record IsStream (s : Session) (r : Reading) : Type 0 where
  pub buf : r.buf ≡ s.buf
  pub len : r.len ≡ s.len
  -- what was read was seen, and what was seen is published
  pub read : length r.cells ≤ r.seen
  pub seen : r.seen ≤ s.shown
  pub prefix : r.cells ≡ take (length r.cells) s.cells
  pub bytes : r.bytes ≡ counted (take r.seen s.cells)
  -- who saw the writer gone saw all
  pub gone : r.writer ≡ false → (s.stands ≡ false) × (r.seen ≡ s.shown)
  -- no cell is overwritten that is still to be read
  pub ring : r.stands ≡ true → length s.cells + s.room ≤ length r.cells + s.size

-- each session is in order, and a reading with a number is of its path's session with that number
pub record AreStreams (v : View) : Type 0 where
  pub written : (path seq : ℕ) (s : Session) → session_at v path seq ≡ Some s → IsWritten s
  pub joined : (path dest seq : ℕ) (r : Reading) → reading_at v path dest seq ≡ Some r → (s : Session) × (session_at v path seq ≡ Some s) × IsStream s r

-- a destination joined the session with that path and number, and left it
abbrev pub HasLeft : View → (path dest seq : ℕ) → Type 0
HasLeft v path dest seq = (r : Reading) × (reading_at v path dest seq ≡ Some r) × (r.stands ≡ false)

-- a destination joined that session, left it, and never saw its writer gone
abbrev pub HasLeftWriter : View → (path dest seq : ℕ) → Type 0
HasLeftWriter v path dest seq = (r : Reading) × (reading_at v path dest seq ≡ Some r) × (r.stands ≡ false) × (r.writer ≡ true)

-- a destination's position: the cells that it read, none until it joins
abbrev pub position : Option Reading → ℕ
position None = 0
position (Some r) = length r.cells

-- so many cells more are no more than the buffer has beyond what each destination that takes part hasn't read
abbrev pub HasRoom : View → (path seq : ℕ) → Session → (cells : ℕ) → Type 0
HasRoom v path seq s cells = (dest : ℕ) → dest < s.dests → (HasLeft v path dest seq → ⊥) → length s.cells + cells ≤ position (reading_at v path dest seq) + s.size

-- no destination of a session takes part any more; one that hasn't joined yet takes part
abbrev pub HasNoReaders : View → (path seq : ℕ) → Session → Type 0
HasNoReaders v path seq s = (dest : ℕ) → dest < s.dests → HasLeft v path dest seq

-- all parties of a session have left
pub record IsOver (v : View) (path seq : ℕ) (s : Session) : Type 0 where
  pub writer : s.stands ≡ false
  pub dests : HasNoReaders v path seq s

-- a session's buffer was taken for it, and has the cells that the session may use
pub record IsTaken (groups : List (List ℕ)) (v : View) (s : Session) : Type 0 where
  pub need : ℕ
  pub take : numbered (changes_in groups (group_of groups s.buf) v) s.number ≡ Some (Taken s.number (place_of groups s.buf) need)
  pub size : slice_get (sizes_of groups (group_of groups s.buf)) (place_of groups s.buf) ≡ Some s.size

-- a change of the group's number, and one of a session's buffer
abbrev pub IsSessionOf : List (List ℕ) → (group number : ℕ) → Session → Type 0
IsSessionOf groups group number s = (group_of groups s.buf ≡ group) × (s.number ≡ number)

abbrev pub ChangesOwn : List (List ℕ) → View → Session → (later : ℕ) → Type 0
ChangesOwn groups v s later = ChangesBuf (changes_in groups (group_of groups s.buf) v) (place_of groups s.buf) later

-- its buffer was freed after it
abbrev pub IsFreed : List (List ℕ) → View → Session → Type 0
IsFreed groups v s = (later : ℕ) × (s.number < later) × (numbered (changes_in groups (group_of groups s.buf) v) later ≡ Some (Freed later (place_of groups s.buf)))

-- no buffer waits for its free: where all parties of a session left, the free has come
abbrev pub IsQuiet : List (List ℕ) → View → Type 0
IsQuiet groups v = (path seq : ℕ) (s : Session) → session_at v path seq ≡ Some s → IsOver v path seq s → IsFreed groups v s

-- each buffer is taken for one session, and freed once that session's parties have left
pub record AreOwned (groups : List (List ℕ)) (v : View) : Type 0 where
  -- each session has a take, and no two have the same
  pub taken : (path seq : ℕ) (s : Session) → session_at v path seq ≡ Some s → IsTaken groups v s
  pub own : (path seq other_path other_seq : ℕ) (s other : Session) → session_at v path seq ≡ Some s → session_at v other_path other_seq ≡ Some other →
      IsSessionOf groups (group_of groups s.buf) s.number other → (path ≡ other_path) × (seq ≡ other_seq)
  -- a take without a session is the last change of its buffer
  pub unused : (group number place need later : ℕ) → numbered (changes_in groups group v) number ≡ Some (Taken number place need) →
      ((path seq : ℕ) (s : Session) → session_at v path seq ≡ Some s → IsSessionOf groups group number s → ⊥) → ChangesBuf (changes_in groups group v) place later → later ≤ number
  -- the next change of a taken buffer is its free
  pub next : (group number place need next : ℕ) → numbered (changes_in groups group v) number ≡ Some (Taken number place need) → IsNextChange (changes_in groups group v) place number next →
      numbered (changes_in groups group v) next ≡ Some (Freed next place)
  -- a session's buffer changes only after all its parties have left
  pub kept : (path seq later : ℕ) (s : Session) → session_at v path seq ≡ Some s → ChangesOwn groups v s later → s.number < later → IsOver v path seq s
  -- and where they have, it is freed
  pub freed : IsQuiet groups v
  -- only its own destinations join a session
  pub joined : (path dest seq : ℕ) (s : Session) (r : Reading) → session_at v path seq ≡ Some s → reading_at v path dest seq ≡ Some r → dest < s.dests
  -- a session whose writer saw no destination has none, and none of them saw the writer gone
  pub no_readers : (path seq : ℕ) (s : Session) → session_at v path seq ≡ Some s → s.readers ≡ 0 → (dest : ℕ) → dest < s.dests → HasLeftWriter v path dest seq

-- an overflow of one of the groups
pub record IsOverflowIn (groups : List (List ℕ)) (v : View) (refusal : Refusal) : Type 0 where
  pub there : refusal.group < length groups
  pub its : IsOverflow (sizes_of groups refusal.group) (changes_in groups refusal.group v) refusal

-- a group's changes are a journal, with their number and its free set
abbrev pub IsJournalIn : List (List ℕ) → View → (group : ℕ) → Type 0
IsJournalIn groups v group = IsGroupJournal (sizes_of groups group) (length (changes_in groups group v)) (free_in groups group v) (changes_in groups group v)

-- the views of all ports of a hub, joined, over groups of buffers of so many cells
pub record Joint (groups : List (List ℕ)) (v : View) : Type 0 where
  pub journal : (group : ℕ) → IsJournalIn groups v group
  pub overflows : All (IsOverflowIn groups v) v.refused
  pub streams : AreStreams v
  pub owned : AreOwned groups v
