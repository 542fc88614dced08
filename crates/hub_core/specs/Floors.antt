-- How old a look may be: what no look of a port falls behind, and when an answer is as fresh as that.
use Rattle.std.specs.Prelude.{◌≡◌, ℕ, ◌+◌, ◌<◌, ◌≤◌, ◌==◌, ◌&&◌, if◌then◌else◌, nat_lt, zero, suc, Bool, true, false, List, [], ◌∷◌, length, Option, Some, None}
use Rattle.hub_core.specs.Groups.{group_of, changes_in}
use Rattle.hub_core.specs.View.{View, Event, Session, Reading, session_at, reading_at, grow}
use Rattle.hub_core.specs.View.{Took, Refused, Entered, Asked, Put, Published, Joining, Missed, Saw, Read, Closed, Parted}

-- numbers and facts of the whole hub that no look of the port falls behind
pub record Floors : Type 0 where
  -- by group: the changes of its buffers
  pub changes : ℕ → ℕ
  -- by group, path, destination and session: whether the session was entered in the group, and is for that destination
  pub entered : ℕ → ℕ → ℕ → ℕ → Bool
  -- by path and session: the cells published, and whether the writer left
  pub shown : ℕ → ℕ → ℕ
  pub closed : ℕ → ℕ → Bool
  -- by path, destination and session: the cells read, and whether the destination left
  pub read : ℕ → ℕ → ℕ → ℕ
  pub parted : ℕ → ℕ → ℕ → Bool

-- no number falls, and no fact is taken back
pub record Rise (old new : Floors) : Type 0 where
  pub changes : (group : ℕ) → old.changes group ≤ new.changes group
  pub entered : (group path dest seq : ℕ) → old.entered group path dest seq ≡ true → new.entered group path dest seq ≡ true
  pub shown : (path seq : ℕ) → old.shown path seq ≤ new.shown path seq
  pub closed : (path seq : ℕ) → old.closed path seq ≡ true → new.closed path seq ≡ true
  pub read : (path dest seq : ℕ) → old.read path dest seq ≤ new.read path dest seq
  pub parted : (path dest seq : ℕ) → old.parted path dest seq ≡ true → new.parted path dest seq ≡ true

-- a number of an item, and whether it left, where there is one
abbrev pub number_in : {A : Type 0} → (A → ℕ) → Option A → ℕ
number_in count None = 0
number_in count (Some x) = count x

abbrev pub has_left : {A : Type 0} → (A → Bool) → Option A → Bool
has_left stands None = false
has_left stands (Some x) = if stands x then false else true

-- whether a session is there, and is for the destination
abbrev pub is_for : ℕ → Option Session → Bool
is_for dest None = false
is_for dest (Some s) = nat_lt dest s.dests

-- whether a session is there, is in the group, and is for the destination
abbrev pub is_for_in : List (List ℕ) → (group dest : ℕ) → Option Session → Bool
is_for_in groups group dest None = false
is_for_in groups group dest (Some s) = (group_of groups s.buf == group) && nat_lt dest s.dests

-- the present numbers and facts of a view, over groups of buffers of so many cells
abbrev pub floors_of : List (List ℕ) → View → Floors
floors_of groups v = record {
  changes = λ group. length (changes_in groups group v);
  entered = λ group path dest seq. is_for_in groups group dest (session_at v path seq);
  shown = λ path seq. number_in (λ s. s.shown) (session_at v path seq);
  closed = λ path seq. has_left (λ s. s.stands) (session_at v path seq);
  read = λ path dest seq. number_in (λ r. length r.cells) (reading_at v path dest seq);
  parted = λ path dest seq. has_left (λ r. r.stands) (reading_at v path dest seq);
}

-- how many of so many destinations haven't left
abbrev pub staying : (parted : ℕ → Bool) → (dests : ℕ) → ℕ
staying parted zero = 0
staying parted (suc dest) = (if parted dest then 0 else 1) + staying parted dest

-- a number of cells that each destination which hasn't left has read
abbrev pub HaveRead : Floors → (path seq dests least : ℕ) → Type 0
HaveRead f path seq dests least = (dest : ℕ) → dest < dests → f.parted path dest seq ≡ false → least ≤ f.read path dest seq

-- a look at the positions counts no destination that had left, and all of the buffer is room but the cells that another one hadn't read;
-- it counts at least what the session's writer knew before, since the room falls by puts alone, and at most the buffer
pub record IsRoomFresh (f : Floors) (path seq : ℕ) (s : Session) (cells readers : ℕ) : Type 0 where
  pub dests : readers ≤ staying (λ dest. f.parted path dest seq) s.dests
  pub room : (least : ℕ) → least ≤ length s.cells → HaveRead f path seq s.dests least → s.size + least ≤ cells + length s.cells
  pub kept : s.room ≤ cells
  pub most : cells ≤ s.size

-- a look at what is published of a session is one of a destination that joined it, and shows no less than its look before
pub record ShowsMore (v : View) (path dest seq cells bytes : ℕ) : Type 0 where
  pub reading : Reading
  pub there : reading_at v path dest seq ≡ Some reading
  pub cells_most : reading.seen ≤ cells
  pub bytes_most : reading.bytes ≤ bytes

-- what an event at a view says of the other parties isn't older than the floors, and than what the party knew
abbrev pub IsFresh : View → Floors → Event → Type 0
IsFresh v f (Took group number buf size need) = f.changes group < number
IsFresh v f (Refused group number free need) = f.changes group ≤ number
IsFresh v f (Entered path seq buf number size len readers) = Unit {0}
IsFresh v f (Asked path seq cells readers) = (s : Session) → session_at v path seq ≡ Some s → IsRoomFresh f path seq s cells readers
IsFresh v f (Put path seq cell) = Unit {0}
IsFresh v f (Published path seq bytes) = Unit {0}
IsFresh v f (Joining path dest seq buf len) = Unit {0}
IsFresh v f (Missed group path dest seq) = f.entered group path dest seq ≡ false
IsFresh v f (Saw path dest seq cells bytes writer) = (f.shown path seq ≤ cells) × (writer ≡ true → f.closed path seq ≡ false) × ShowsMore v path dest seq cells bytes
IsFresh v f (Read path dest seq cell) = Unit {0}
IsFresh v f (Closed path seq freed) = Unit {0}
IsFresh v f (Parted path dest seq freed) = Unit {0}

-- each of a list of events is fresh, one after another
abbrev pub AreFresh : Floors → View → List Event → Type 0
AreFresh f v [] = Unit {0}
AreFresh f v (event ∷ events) = IsFresh v f event × AreFresh f (grow event v) events
