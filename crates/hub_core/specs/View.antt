-- What one port did and saw: the moves, overflows, sessions and readings of its own calls, and how each call adds to them.
use Rattle.std.specs.Prelude.{ℕ, ◌+◌, ◌-◌, ◌==◌, if◌then◌else◌, zero, suc, Bool, true, false, List, [], ◌∷◌, ◌++◌, length, Option, Some, None, slice_get}

-- a change of a group's free set, by its number from 1 in the group of its buffer: a take of a buffer for a need in cells, or its free
pub data Change : Type 0 where
  Taken : (number buf need : ℕ) → Change
  Freed : (number buf : ℕ) → Change

-- an overflow: its group, the number of changes and the free set of the group's pool word that had no fitting buffer, and the need in cells
pub record Refusal : Type 0 where
  pub group : ℕ
  pub number : ℕ
  pub free : ℕ
  pub need : ℕ

-- a buffer that was taken and has no session yet: the change that took it, and its cells
pub record Taking : Type 0 where
  pub number : ℕ
  pub size : ℕ

-- a session as its writer knows it
pub record Session : Type 0 where
  -- its buffer, the change that took it, and the buffer's cells
  pub buf : ℕ
  pub number : ℕ
  pub size : ℕ
  -- the unit's length in bytes, and how many destinations the session is for
  pub len : ℕ
  pub dests : ℕ
  -- the cells put; how many of them are published, and how many bytes
  pub cells : List ℕ
  pub shown : ℕ
  pub told : ℕ
  -- by the last look at the positions: the cells that may still be put, and the destinations that take part
  pub room : ℕ
  pub readers : ℕ
  -- whether the writer takes part
  pub stands : Bool

-- a session as one of its destinations knows it
pub record Reading : Type 0 where
  -- its buffer, and the unit's length in bytes
  pub buf : ℕ
  pub len : ℕ
  -- the cells read
  pub cells : List ℕ
  -- by the last look: the cells and bytes that are published, and whether the writer takes part
  pub seen : ℕ
  pub bytes : ℕ
  pub writer : Bool
  -- whether this destination takes part
  pub stands : Bool

-- what one port did and saw; a session's place in its path's list is its number, and so is a reading's
pub record View : Type 0 where
  pub changes : List Change
  pub refused : List Refusal
  -- by buffer
  pub held : ℕ → Option Taking
  -- by path
  pub sessions : ℕ → List Session
  -- by path and destination
  pub readings : ℕ → ℕ → List Reading

-- nothing is done or seen yet
abbrev pub empty_view : View
empty_view = record { changes = []; refused = []; held = λ buf. None; sessions = λ path. []; readings = λ path dest. [] }

-- what one call of a port did
pub data Event : Type 0 where
  Took : (group number buf size need : ℕ) → Event
  Refused : (group number free need : ℕ) → Event
  Entered : (path seq buf number size len readers : ℕ) → Event
  Asked : (path seq cells readers : ℕ) → Event
  Put : (path seq cell : ℕ) → Event
  Published : (path seq bytes : ℕ) → Event
  Joining : (path dest seq buf len : ℕ) → Event
  Missed : (group path dest seq : ℕ) → Event
  Saw : (path dest seq cells bytes : ℕ) → (writer : Bool) → Event
  Read : (path dest seq cell : ℕ) → Event
  Closed : (path seq : ℕ) → (freed : List Change) → Event
  Parted : (path dest seq : ℕ) → (freed : List Change) → Event

-- a function that has another value at one number
abbrev pub at_one : {A : Type 0} → ℕ → A → (ℕ → A) → ℕ → A
at_one p x f q = if q == p then x else f q

-- a function that has another value at two numbers
abbrev pub at_two : {A : Type 0} → ℕ → ℕ → A → (ℕ → ℕ → A) → ℕ → ℕ → A
at_two p d x f = at_one p (at_one d x (f p)) f

-- a list whose item at a place is changed; past the end nothing is
abbrev pub change_at : {A : Type 0} → ℕ → (A → A) → List A → List A
change_at k f [] = []
change_at zero f (x ∷ xs) = f x ∷ xs
change_at (suc k) f (x ∷ xs) = x ∷ change_at k f xs

-- a view whose session of that path and number is changed
abbrev pub with_session : ℕ → ℕ → (Session → Session) → View → View
with_session path seq f v = record v { sessions = at_one path (change_at seq f (v.sessions path)) v.sessions }

-- a view whose reading of that path, destination and number is changed
abbrev pub with_reading : ℕ → ℕ → ℕ → (Reading → Reading) → View → View
with_reading path dest seq f v = record v { readings = at_two path dest (change_at seq f (v.readings path dest)) v.readings }

-- a session as it is entered: nothing is put yet, and all its buffer is free for cells
abbrev pub session_new : (buf number size len readers : ℕ) → Session
session_new buf number size len readers = record { buf = buf; number = number; size = size; len = len; dests = readers; cells = []; shown = 0; told = 0; room = size; readers = readers; stands = true }

-- a reading as its destination joins: nothing is seen yet
abbrev pub reading_new : (buf len : ℕ) → Reading
reading_new buf len = record { buf = buf; len = len; cells = []; seen = 0; bytes = 0; writer = true; stands = true }

-- what each event adds
unfoldable pub grow : Event → View → View
grow (Took group number buf size need) v = record v { changes = v.changes ++ Taken number buf need ∷ []; held = at_one buf (Some (record { number = number; size = size })) v.held }
grow (Refused group number free need) v = record v { refused = v.refused ++ record { group = group; number = number; free = free; need = need } ∷ [] }
grow (Entered path seq buf number size len readers) v = record v { held = at_one buf None v.held; sessions = at_one path (v.sessions path ++ session_new buf number size len readers ∷ []) v.sessions }
grow (Asked path seq cells readers) v = with_session path seq (λ s. record s { room = cells; readers = readers }) v
grow (Put path seq cell) v = with_session path seq (λ s. record s { cells = s.cells ++ cell ∷ []; room = s.room - 1 }) v
grow (Published path seq bytes) v = with_session path seq (λ s. record s { shown = length s.cells; told = s.told + bytes }) v
grow (Joining path dest seq buf len) v = record v { readings = at_two path dest (v.readings path dest ++ reading_new buf len ∷ []) v.readings }
grow (Missed group path dest seq) v = v
grow (Saw path dest seq cells bytes writer) v = with_reading path dest seq (λ r. record r { seen = cells; bytes = bytes; writer = writer }) v
grow (Read path dest seq cell) v = with_reading path dest seq (λ r. record r { cells = r.cells ++ cell ∷ [] }) v
grow (Closed path seq freed) v = record (with_session path seq (λ s. record s { stands = false }) v) { changes = v.changes ++ freed }
grow (Parted path dest seq freed) v = record (with_reading path dest seq (λ r. record r { stands = false }) v) { changes = v.changes ++ freed }

-- what a list of events adds, one after another
abbrev pub grows : List Event → View → View
grows [] v = v
grows (event ∷ events) v = grows events (grow event v)

-- the session of a path with that number, where the port has one
abbrev pub session_at : View → ℕ → ℕ → Option Session
session_at v path seq = slice_get (v.sessions path) seq

-- the reading of a destination with that number, where the port has one
abbrev pub reading_at : View → ℕ → ℕ → ℕ → Option Reading
reading_at v path dest seq = slice_get (v.readings path dest) seq
