-- The plain machine of sessions: its steps, when each may happen, and what all views together are after every list of steps.
use Rattle.std.specs.Prelude.{◌≡◌, ℕ, ◌+◌, ◌<◌, ◌≤◌, ◌⊎◌, true, false, List, [], ◌∷◌, ◌++◌, length, take, slice_get, All, Some}
use Rattle.gw_base.specs.Cell.{IsCell, count_of, counted}
use Rattle.gw_base.specs.Fit.{IsSmallest, NoneFits}
use Rattle.hub_core.specs.Groups.{group_of, place_of, sizes_of, changes_in, free_in}
use Rattle.hub_core.specs.Journal.{AreInOrder, numbered, ChangesBuf, IsNextChange}
use Rattle.hub_core.specs.Joint.{AreStreams, HasLeft, HasLeftWriter, HasNoReaders, HasRoom, IsOver, IsTaken, IsSessionOf, ChangesOwn, IsFreed, IsQuiet, IsOverflowIn, IsJournalIn, Joint, position}
use Rattle.hub_core.specs.View.{View, Taken, Freed, Session, Reading, Event, session_at, reading_at, grow, empty_view}
use Rattle.hub_core.specs.View.{Took, Refused, Entered, Asked, Put, Published, Joining, Missed, Saw, Read, Closed, Parted}

-- one atomic step
pub data Step : Type 0 where
  -- a group's pool word changes by a take, or is found to have no buffer that fits
  Takes : (group number buf size need : ℕ) → Step
  Refuses : (group number free need : ℕ) → Step
  -- a party's call; where it leaves, it frees nothing itself
  Does : (event : Event) → Step
  -- a buffer is freed, after the last party left
  Frees : (number buf : ℕ) → Step

-- what each step does to the views of all ports together; at first all buffers are free, and nothing was done
abbrev pub after : Step → View → View
after (Takes group number buf size need) v = grow (Took group number buf size need) v
after (Refuses group number free need) v = grow (Refused group number free need) v
after (Does event) v = grow event v
after (Frees number buf) v = record v { changes = v.changes ++ Freed number buf ∷ [] }

-- a session of that path and number whose writer takes part, and a reading whose destination does
abbrev pub Stands : View → (path seq : ℕ) → Session → Type 0
Stands v path seq s = (session_at v path seq ≡ Some s) × (s.stands ≡ true)

abbrev pub ReadsOn : View → (path dest seq : ℕ) → Reading → Type 0
ReadsOn v path dest seq r = (reading_at v path dest seq ≡ Some r) × (r.stands ≡ true)

-- the smallest free buffer of the group that fits is taken, by the group's next change
pub record MayTake (groups : List (List ℕ)) (v : View) (group number buf size need : ℕ) : Type 0 where
  pub its : group_of groups buf ≡ group
  pub next : number ≡ length (changes_in groups group v) + 1
  pub smallest : IsSmallest (sizes_of groups group) (free_in groups group v) need (place_of groups buf)
  pub size_is : slice_get (sizes_of groups group) (place_of groups buf) ≡ Some size

-- no free buffer of the group fits
pub record MayRefuse (groups : List (List ℕ)) (v : View) (group number free need : ℕ) : Type 0 where
  pub there : group < length groups
  pub now : number ≡ length (changes_in groups group v)
  pub set : free ≡ free_in groups group v
  pub none_fits : NoneFits (sizes_of groups group) free need

-- the writer's look at the positions: it may be an old one, so it shows no more room than there is
pub record MayAsk (v : View) (path seq cells readers : ℕ) : Type 0 where
  pub session : Session
  pub stands : Stands v path seq session
  pub most : cells ≤ session.size
  pub room : HasRoom v path seq session cells
  pub none : readers ≡ 0 → HasNoReaders v path seq session

-- the destination's look at the count: it may be an old one, but for a writer that was seen gone
pub record MaySee (v : View) (path dest seq cells bytes : ℕ) (gone : Type 0) : Type 0 where
  pub reading : Reading
  pub session : Session
  pub reads : ReadsOn v path dest seq reading
  pub known : session_at v path seq ≡ Some session
  pub rises : reading.seen ≤ cells
  pub shown : cells ≤ session.shown
  pub counts : bytes ≡ counted (take cells session.cells)
  pub last : gone → (session.stands ≡ false) × (cells ≡ session.shown)

-- a destination joins its path's first session that it hasn't joined, where that is for it
pub record MayJoin (v : View) (path dest seq buf len : ℕ) : Type 0 where
  pub session : Session
  pub next : seq ≡ length (v.readings path dest)
  pub known : session_at v path seq ≡ Some session
  pub for : dest < session.dests
  pub buf_is : buf ≡ session.buf
  pub len_is : len ≡ session.len

-- the next cell that is published and not yet read
pub record MayRead (v : View) (path dest seq cell : ℕ) : Type 0 where
  pub session : Session
  pub reading : Reading
  pub reads : ReadsOn v path dest seq reading
  pub known : session_at v path seq ≡ Some session
  pub more : length reading.cells < reading.seen
  pub cell_is : slice_get session.cells (length reading.cells) ≡ Some cell

-- when each call of a party may happen; the pool's steps name their group, and aren't among these
abbrev pub MayDo : View → Event → Type 0
MayDo v (Took group number buf size need) = ⊥
MayDo v (Refused group number free need) = ⊥
MayDo v (Entered path seq buf number size len readers) = (v.held buf ≡ Some (record { number = number; size = size })) × (seq ≡ length (v.sessions path)) × (0 < len) × (0 < readers)
MayDo v (Asked path seq cells readers) = MayAsk v path seq cells readers
MayDo v (Put path seq cell) = (s : Session) × Stands v path seq s × (0 < s.room) × IsCell cell × (counted s.cells + count_of cell ≤ s.len)
MayDo v (Published path seq bytes) = (s : Session) × Stands v path seq s × (s.told + bytes ≡ counted s.cells)
MayDo v (Joining path dest seq buf len) = MayJoin v path dest seq buf len
MayDo v (Missed group path dest seq) = Unit {0}
MayDo v (Saw path dest seq cells bytes writer) = MaySee v path dest seq cells bytes (writer ≡ false)
MayDo v (Read path dest seq cell) = MayRead v path dest seq cell
MayDo v (Closed path seq freed) = (s : Session) × Stands v path seq s × (freed ≡ [])
MayDo v (Parted path dest seq freed) = (r : Reading) × ReadsOn v path dest seq r × (freed ≡ [])

-- all parties left the session in the buffer, and the session's take is the buffer's last change
pub record MayFree (groups : List (List ℕ)) (v : View) (number buf : ℕ) : Type 0 where
  pub next : number ≡ length (changes_in groups (group_of groups buf) v) + 1
  pub path : ℕ
  pub seq : ℕ
  pub session : Session
  pub known : session_at v path seq ≡ Some session
  pub its : session.buf ≡ buf
  pub over : IsOver v path seq session
  pub last : (later : ℕ) → ChangesBuf (changes_in groups (group_of groups buf) v) (place_of groups buf) later → later ≤ session.number

-- when each step may happen
abbrev pub May : List (List ℕ) → View → Step → Type 0
May groups v (Takes group number buf size need) = MayTake groups v group number buf size need
May groups v (Refuses group number free need) = MayRefuse groups v group number free need
May groups v (Does event) = MayDo v event
May groups v (Frees number buf) = MayFree groups v number buf

-- what a list of steps leaves: a step that may not happen leaves all as it is
abbrev pub Leads : List (List ℕ) → View → List Step → View → Type 0
Leads groups v [] last = last ≡ v
Leads groups v (step ∷ steps) last = (May groups v step × Leads groups (after step v) steps last) ⊎ ((May groups v step → ⊥) × Leads groups v steps last)

-- it can't be that no list of steps leads to the state: so much a hub may keep of itself, since it is a proposition
abbrev pub IsLed : List (List ℕ) → View → Type 0
IsLed groups v = ((steps : List Step) → Leads groups empty_view steps v → ⊥) → ⊥

-- a list of steps leads to one state alone, and it can't be that it leads to none
pub record LeadsToOne (groups : List (List ℕ)) (v : View) (steps : List Step) : Type 0 where
  pub some : ((last : View) → Leads groups v steps last → ⊥) → ⊥
  pub one : (last other : View) → Leads groups v steps last → Leads groups v steps other → last ≡ other

-- each buffer is taken for one session, and changes again only by its free, after that session's parties have left
pub record AreOwnedIn (groups : List (List ℕ)) (v : View) : Type 0 where
  -- each session has a take, and no two have the same
  pub taken : (path seq : ℕ) (s : Session) → session_at v path seq ≡ Some s → IsTaken groups v s
  pub own : (path seq other_path other_seq : ℕ) (s other : Session) → session_at v path seq ≡ Some s → session_at v other_path other_seq ≡ Some other →
      IsSessionOf groups (group_of groups s.buf) s.number other → (path ≡ other_path) × (seq ≡ other_seq)
  -- a take without a session is the last change of its buffer
  pub unused : (group number place need later : ℕ) → numbered (changes_in groups group v) number ≡ Some (Taken number place need) →
      ((path seq : ℕ) (s : Session) → session_at v path seq ≡ Some s → IsSessionOf groups group number s → ⊥) → ChangesBuf (changes_in groups group v) place later → later ≤ number
  -- the next change of a taken buffer is its free
  pub next : (group number place need next : ℕ) → numbered (changes_in groups group v) number ≡ Some (Taken number place need) → IsNextChange (changes_in groups group v) place number next →
      numbered (changes_in groups group v) next ≡ Some (Freed next place)
  -- a session's buffer changes only after all its parties have left
  pub kept : (path seq later : ℕ) (s : Session) → session_at v path seq ≡ Some s → ChangesOwn groups v s later → s.number < later → IsOver v path seq s
  -- a session's take is its buffer's last change, or all its parties have left and the free has come
  pub turn : (path seq : ℕ) (s : Session) → session_at v path seq ≡ Some s → ((later : ℕ) → ChangesOwn groups v s later → later ≤ s.number) ⊎ (IsOver v path seq s × IsFreed groups v s)
  -- only its own destinations join a session
  pub joined : (path dest seq : ℕ) (s : Session) (r : Reading) → session_at v path seq ≡ Some s → reading_at v path dest seq ≡ Some r → dest < s.dests
  -- a session whose writer saw no destination has none, and none of them saw the writer gone
  pub no_readers : (path seq : ℕ) (s : Session) → session_at v path seq ≡ Some s → s.readers ≡ 0 → (dest : ℕ) → dest < s.dests → HasLeftWriter v path dest seq

-- the cell that is put next isn't put over one that a destination which takes part hasn't read: it is the buffer's `size`-th one after that
abbrev pub IsOverNone : View → (path seq : ℕ) → Session → Type 0
IsOverNone v path seq s = (dest : ℕ) → dest < s.dests → (HasLeft v path dest seq → ⊥) → length s.cells < position (reading_at v path dest seq) + s.size

-- what holds of a state: each group has a journal in the order of its numbers, each overflow is one, all sessions are streams, each buffer
-- is owned, and no cell is put over one unread
pub record AreJoint (groups : List (List ℕ)) (v : View) : Type 0 where
  pub journal : (group : ℕ) → IsJournalIn groups v group
  pub order : (group : ℕ) → AreInOrder (changes_in groups group v)
  pub overflows : All (IsOverflowIn groups v) v.refused
  pub streams : AreStreams v
  pub owned : AreOwnedIn groups v
  pub unread : (path seq : ℕ) (s : Session) → session_at v path seq ≡ Some s → HasRoom v path seq s 0
  pub put : (path seq cell : ℕ) (s : Session) → MayDo v (Put path seq cell) → session_at v path seq ≡ Some s → IsOverNone v path seq s

-- after every list of steps, by any parties in any order, over any groups of buffers, paths and destinations
abbrev pub CoreLaw : Type 0
CoreLaw = (groups : List (List ℕ)) (steps : List Step) (v : View) → Leads groups empty_view steps v → AreJoint groups v

-- so the law says something of every list of steps
abbrev pub LeadingLaw : Type 0
LeadingLaw = (groups : List (List ℕ)) (v : View) (steps : List Step) → LeadsToOne groups v steps

-- where no buffer waits for its free, the view of all ports is joint
abbrev pub QuietLaw : Type 0
QuietLaw = (groups : List (List ℕ)) (steps : List Step) (v : View) → Leads groups empty_view steps v → IsQuiet groups v → Joint groups v

-- a hub that keeps so much of itself has a joint view
abbrev pub LedLaw : Type 0
LedLaw = (groups : List (List ℕ)) (v : View) → IsLed groups v → IsQuiet groups v → Joint groups v
