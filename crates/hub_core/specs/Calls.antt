-- The words of the port's contract: what each answer adds, what it says by itself, and what a call leaves as it is.
use Rattle.std.specs.Prelude.{◌≡◌, ◌≢◌, ℕ, ◌+◌, ◌<◌, ◌≤◌, Bool, List, [], ◌∷◌, length, Option, Some, None, slice_get}
use Rattle.gw_base.specs.Fit.{NoneFits}
use Rattle.gw_base.specs.declared.numbers.DestNo.{DestNo}
use Rattle.gw_base.specs.declared.numbers.PathNo.{PathNo}
use Rattle.hub_core.specs.declared.port.Left.{Left}
use Rattle.hub_core.specs.declared.port.Left.TheVariants.{Others, Last}
use Rattle.hub_core.specs.declared.port.Take.{Take}
use Rattle.hub_core.specs.declared.port.Take.TheVariants.{Granted, Overflow}
use Rattle.hub_core.specs.declared.port.Room.{Room}
use Rattle.hub_core.specs.declared.port.Seen.{Seen}
use Rattle.hub_core.specs.declared.token.End.{End}
use Rattle.hub_core.specs.declared.token.Held.{Held}
use Rattle.hub_core.specs.declared.token.Opened.{Opened}
use Rattle.hub_core.specs.declared.token.End.TheVariants.{Write, Read as Reader}
use Rattle.hub_core.specs.declared.token.Joined.{Joined}
use Rattle.hub_core.specs.Groups.{group_of, place_of, sizes_of}
use Rattle.hub_core.specs.Tokens.{Holds, Reads, joined_new}
use Rattle.hub_core.specs.View.{View, Change, Event, Freed}
use Rattle.hub_core.specs.View.{Took, Refused, Entered, Asked, Joining, Missed, Saw, Read, Closed, Parted}

-- what a port may do, and over which buffers
pub record Means : Type 0 where
  -- by group: the cells of each of its buffers
  pub groups : List (List ℕ)
  -- takes that are left, and cells that may still be put
  pub takes : ℕ
  pub spare : ℕ
  -- whether it acts for a path's writer, and for a path's destination
  pub writes : ℕ → Bool
  pub reads : ℕ → ℕ → Bool
  -- the most destinations of a session
  pub most : ℕ

-- the buffers and the parties stay
pub record SamePool (old new : Means) : Type 0 where
  pub groups : new.groups ≡ old.groups
  pub writes : new.writes ≡ old.writes
  pub reads : new.reads ≡ old.reads
  pub most : new.most ≡ old.most

-- all stays; more cells may have become spare
pub record SameMeans (old new : Means) : Type 0 where
  pub pool : SamePool old new
  pub takes : new.takes ≡ old.takes
  pub spare : old.spare ≤ new.spare

-- at most one take fewer is left
pub record TakeUsed (old new : Means) : Type 0 where
  pub pool : SamePool old new
  pub takes : old.takes ≤ new.takes + 1
  pub spare : old.spare ≤ new.spare

-- at most one cell fewer may be put
pub record CellUsed (old new : Means) : Type 0 where
  pub pool : SamePool old new
  pub takes : new.takes ≡ old.takes
  pub spare : old.spare ≤ new.spare + 1

-- a call of no party: no session and no reading changed
pub record SameParties (old new : View) : Type 0 where
  pub sessions : new.sessions ≡ old.sessions
  pub readings : new.readings ≡ old.readings

-- a call of one path's writer: its list has so many more sessions, and the other lists are as before
pub record ByWriter (path more : ℕ) (old new : View) : Type 0 where
  pub readings : new.readings ≡ old.readings
  pub number : length (new.sessions path) ≡ length (old.sessions path) + more
  pub others : (other : ℕ) → other ≢ path → new.sessions other ≡ old.sessions other

-- a call of one path's destination: its list has so many more readings, and the other lists are as before
pub record ByReader (path dest more : ℕ) (old new : View) : Type 0 where
  pub sessions : new.sessions ≡ old.sessions
  pub number : length (new.readings path dest) ≡ length (old.readings path dest) + more
  pub others_of : (other : ℕ) → other ≢ path → new.readings other ≡ old.readings other
  pub others : (other : ℕ) → other ≢ dest → new.readings path other ≡ old.readings path other

-- a call of the party that leaves
abbrev pub ByEnd : End → View → View → Type 0
ByEnd (Write t) old new = ByWriter t.path.0 0 old new
ByEnd (Reader t) old new = ByReader t.path.0 t.dest.0 0 old new

-- what an answer to a take adds
abbrev pub took_of : (group need : ℕ) → Take → Event
took_of group need (Granted change held) = Took group change held.buf.0 held.cells need
took_of group need (Overflow change free) = Refused group change free need

-- a buffer of the group, by its number among all buffers, has so many cells
abbrev pub IsBufferOf : List (List ℕ) → (group buf size : ℕ) → Type 0
IsBufferOf groups group buf size = (group_of groups buf ≡ group) × (slice_get (sizes_of groups group) (place_of groups buf) ≡ Some size)

-- a granted buffer is one of the group, has the cells that are needed, and is held; a refusal had no fitting buffer of the group
abbrev pub Answers : View → List (List ℕ) → (group need : ℕ) → Take → Type 0
Answers v groups group need (Granted change held) = (held.change ≡ change) × (1 ≤ change) × (need ≤ held.cells) × IsBufferOf groups group held.buf.0 held.cells × Holds v held
Answers v groups group need (Overflow change free) = NoneFits (sizes_of groups group) free need

-- what the other calls add, by the token that they are given and their answer
abbrev pub entered_of : Held → PathNo → (seq len readers : ℕ) → Event
entered_of held path seq len readers = Entered path.0 seq held.buf.0 held.change held.cells len readers

abbrev pub asked_of : Opened → Room → Event
asked_of t room = Asked t.path.0 t.seq room.cells room.readers

abbrev pub saw_of : Joined → Seen → Event
saw_of t seen = Saw t.path.0 t.dest.0 t.seq seen.cells seen.bytes seen.writer

abbrev pub read_of : Joined → (cell : ℕ) → Event
read_of t cell = Read t.path.0 t.dest.0 t.seq cell

-- what an answer to a join adds
abbrev pub next_of : (group path dest seq : ℕ) → Option Joined → Event
next_of group path dest seq None = Missed group path dest seq
next_of group path dest seq (Some t) = Joining path dest seq t.buf.0 t.len

-- how many readings an answer to a join adds
abbrev pub joins : Option Joined → ℕ
joins None = 0
joins (Some t) = 1

-- a session that is joined has a length, and its reading is at its beginning
abbrev pub Joins : View → PathNo → DestNo → ℕ → Option Joined → Type 0
Joins v path dest seq None = Unit {0}
Joins v path dest seq (Some t) = (t ≡ joined_new path dest seq t.buf t.len) × (0 < t.len) × (seq < 8000000) × Reads v t

-- the change that frees the buffer, where the party was the last one
abbrev pub freed_by : Left → List Change
freed_by Others = []
freed_by (Last change buf) = Freed change buf.0 ∷ []

-- what a party's leaving adds
abbrev pub left_of : End → Left → Event
left_of (Write t) left = Closed t.path.0 t.seq (freed_by left)
left_of (Reader t) left = Parted t.path.0 t.dest.0 t.seq (freed_by left)

-- the path and the number of the party's session
abbrev pub path_of : End → ℕ
path_of (Write t) = t.path.0
path_of (Reader t) = t.path.0

abbrev pub seq_of : End → ℕ
seq_of (Write t) = t.seq
seq_of (Reader t) = t.seq

-- the buffer of the party's session
abbrev pub buf_of : End → ℕ
buf_of (Write t) = t.buf.0
buf_of (Reader t) = t.buf.0

-- the last party frees its session's buffer, by a numbered change
abbrev pub FreesOwn : End → Left → Type 0
FreesOwn end Others = Unit {0}
FreesOwn end (Last change buf) = (1 ≤ change) × (buf.0 ≡ buf_of end)
