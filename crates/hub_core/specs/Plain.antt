-- The plain hub: how its words, places and numbers show what was done with it.
use Rattle.std.specs.Prelude.{◌≡◌, ℕ, ◌+◌, ◌*◌, ◌<◌, ◌≤◌, ◌%◌, ◌&&◌, nat_lt, if◌then◌else◌, zero, suc, Bool, false, List, length, take, sum, sum_by, Option, Some, None, All, slice_get, slice_set, option_map}
use Rattle.gw_base.specs.Cell.{IsCell}
use Rattle.hub_core.specs.Calls.{Means}
use Rattle.hub_core.specs.Core.{IsLed}
use Rattle.hub_core.specs.Joint.{IsFreed}
use Rattle.hub_core.specs.Floors.{is_for, floors_of}
use Rattle.hub_core.specs.Groups.{sizes_of, journal_of, all_sizes}
use Rattle.hub_core.specs.Journal.{replay}
use Rattle.hub_core.specs.Stays.{PortState}
use Rattle.hub_core.specs.Joint.{IsOver}
use Rattle.hub_core.specs.View.{View, Change, Session, Reading, Taking, session_at, reading_at}
use Rattle.hub_core.specs.declared.port.Room.{Room}
use Rattle.hub_core.specs.declared.place.Place.{Place}
use Rattle.hub_core.specs.declared.place.Place.TheVariants.{Free, Reserved, Occupied}
use Rattle.hub_core.specs.declared.place.Row.{Row}
use Rattle.pool_words.specs.declared.pool.Pool.{Pool}
use Rattle.hub_core.specs.declared.token.End.{End}
use Rattle.hub_core.specs.declared.token.End.TheVariants.{Write, Read}

-- the plain hub may act for 64 paths, and for 8 destinations of each
abbrev pub hub_means : (groups : List (List ℕ)) (takes : ℕ) → Means
hub_means groups takes = record { groups = groups; takes = takes; spare = 9000000; writes = λ path. nat_lt path 64; reads = λ path dest. nat_lt path 64 && nat_lt dest 8; most = 8 }

-- a plain hub as a port, over groups of buffers of so many cells: its floors are its present numbers
abbrev pub port_of : (groups : List (List ℕ)) (takes : ℕ) → View → PortState (Unit {0})
port_of groups takes v = record { view = v; means = hub_means groups takes; floors = floors_of groups v; home = tt }

-- a group's pool word after the changes of all groups
abbrev pub pool_after : List (List ℕ) → (group : ℕ) → List Change → Pool
pool_after groups group changes = record {
  changes = length (journal_of groups group changes);
  free = replay (sizes_of groups group) (journal_of groups group changes) (length (journal_of groups group changes));
}

-- where a buffer's ring begins among the words
abbrev pub start_of : List ℕ → ℕ → ℕ
start_of sizes buf = sum (take buf sizes)

-- the rings of so many buffers begin there
abbrev pub StartAt : List ℕ → (bufs : ℕ) → List ℕ → Type 0
StartAt sizes bufs starts = (buf : ℕ) → buf < bufs → slice_get starts buf ≡ Some (start_of sizes buf)

-- how many buffers each group has, the sizes of all buffers, and where all the rest lies
pub record AreLaid (counts sizes starts words : List ℕ) (places : List Place) : Type 0 where
  pub groups : (1 ≤ length counts) × (length counts ≤ 4)
  pub buffers : All (λ count. (1 ≤ count) × (count ≤ 32)) counts
  pub all : sum counts ≡ length sizes
  pub each : All (λ size. (1 ≤ size) × (size ≤ 8192)) sizes
  pub begin : StartAt sizes (length sizes) starts
  pub words_are : length words ≡ sum sizes
  pub places_are : length places ≡ length sizes

-- the path and the number of the session in a place
abbrev pub session_in : Option Place → Option (ℕ × ℕ)
session_in None = None
session_in (Some Free) = None
session_in (Some Reserved) = None
session_in (Some (Occupied row)) = Some (row.path, row.seq)

-- whether a buffer is taken and has no session yet, and whether it is taken, counted
abbrev pub reserved : Place → ℕ
reserved Free = 0
reserved Reserved = 1
reserved (Occupied row) = 0

abbrev pub taken : Place → ℕ
taken Free = 0
taken Reserved = 1
taken (Occupied row) = 1

-- what a session's destinations see of it: its buffer, its unit's length, the cells and bytes published, whether the writer takes part
abbrev pub sight_of : Session → ℕ × ℕ × ℕ × ℕ × Bool
sight_of s = (s.buf, s.len, s.shown, s.told, s.stands)

abbrev pub sight_in : (buf : ℕ) → Row → ℕ × ℕ × ℕ × ℕ × Bool
sight_in buf row = (buf, row.len, row.shown, row.told, row.writes)

-- the cells that a destination read, while it takes part
abbrev pub standing : Option Reading → Option ℕ
standing None = Some 0
standing (Some r) = if r.stands then Some (length r.cells) else None

abbrev pub position_of : Option Session → (dest : ℕ) → Option Reading → Option ℕ
position_of session dest reading = if is_for dest session then standing reading else None

-- a row is what the parties of its session see
pub record IsRowOf (v : View) (buf : ℕ) (row : Row) : Type 0 where
  pub session : option_map sight_of (session_at v row.path row.seq) ≡ Some (sight_in buf row)
  pub positions : (dest : ℕ) → dest < 8 → slice_get row.positions dest ≡ Some (position_of (session_at v row.path row.seq) dest (reading_at v row.path dest row.seq))

-- the places show who has each buffer: a session, of which a party takes part, until the buffer is freed, or who holds it
pub record ShowPlaces (groups : List (List ℕ)) (places : List Place) (v : View) : Type 0 where
  pub rows : (buf : ℕ) (row : Row) → slice_get places buf ≡ Some (Occupied row) → IsRowOf v buf row
  pub party : (buf : ℕ) (row : Row) (s : Session) → slice_get places buf ≡ Some (Occupied row) → session_at v row.path row.seq ≡ Some s → IsOver v row.path row.seq s → ⊥
  pub sessions : (path seq : ℕ) (s : Session) → session_at v path seq ≡ Some s → (IsFreed groups v s → ⊥) → session_in (slice_get places s.buf) ≡ Some (path, seq)
  pub held : (buf : ℕ) (t : Taking) → v.held buf ≡ Some t → option_map reserved (slice_get places buf) ≡ Some 1

-- the words show the last cells of each session until its buffer is freed: as many as the buffer has
pub record ShowWords (groups : List (List ℕ)) (words : List ℕ) (v : View) : Type 0 where
  pub cells : (path seq : ℕ) (s : Session) → session_at v path seq ≡ Some s → All IsCell s.cells
  pub ring : (path seq k cell : ℕ) (s : Session) → session_at v path seq ≡ Some s → (IsFreed groups v s → ⊥) → slice_get s.cells k ≡ Some cell → length s.cells ≤ k + s.size →
      slice_get words (start_of (all_sizes groups) s.buf + k % s.size) ≡ Some cell

-- the numbers are those of what was done, and leave place for the takes that are left
pub record AreCounts (groups : List (List ℕ)) (places : List Place) (pools : List Pool) (takes : ℕ) (v : View) : Type 0 where
  pub words : (group : ℕ) → group < length groups → slice_get pools group ≡ Some (pool_after groups group v.changes)
  pub moves : length v.changes + sum_by taken places + 2 * takes ≤ 2000000
  pub sessions : (path : ℕ) → length (v.sessions path) + sum_by reserved places + takes ≤ 1000000
  pub some : (path seq : ℕ) (s : Session) → session_at v path seq ≡ Some s → 0 < s.dests
  pub dests : (path seq : ℕ) (s : Session) → session_at v path seq ≡ Some s → s.dests ≤ 8

-- places, words and numbers show a view to which a list of steps leads
pub record IsShown (groups : List (List ℕ)) (places : List Place) (words : List ℕ) (pools : List Pool) (takes : ℕ) (v : View) : Type 0 where
  pub places_show : ShowPlaces groups places v
  pub words_show : ShowWords groups words v
  pub counts : AreCounts groups places pools takes v
  pub led : IsLed groups v

-- the destinations below a number that take part, by their positions
abbrev pub counts_one : Option (Option ℕ) → ℕ
counts_one None = 0
counts_one (Some None) = 0
counts_one (Some (Some at)) = 1

abbrev pub readers_to : List (Option ℕ) → ℕ → ℕ
readers_to positions zero = 0
readers_to positions (suc dest) = counts_one (slice_get positions dest) + readers_to positions dest

-- the room that the destinations below a number leave in a buffer of so many cells, where so many were put
pub record IsRoomTo (size put : ℕ) (positions : List (Option ℕ)) (dests : ℕ) (room : Room) : Type 0 where
  pub readers : room.readers ≡ readers_to positions dests
  pub most : room.cells ≤ size
  pub all : room.readers ≡ 0 → room.cells ≡ size
  pub each : (dest at : ℕ) → dest < dests → slice_get positions dest ≡ Some (Some at) → put + room.cells ≤ at + size
  pub least : 0 < room.readers → (dest : ℕ) × (at : ℕ) × (dest < dests) × (slice_get positions dest ≡ Some (Some at)) × (put + room.cells ≡ at + size)

-- no position is past the cells put, and none so far behind that a cell was put over one unread
abbrev pub AreWithin : (size put : ℕ) → List (Option ℕ) → Type 0
AreWithin size put positions = (dest at : ℕ) → dest < 8 → slice_get positions dest ≡ Some (Some at) → (at ≤ put) × (put ≤ at + size)

-- so many destinations are at their session's beginning, and no other takes part
abbrev pub AreFirst : (readers dests : ℕ) → List (Option ℕ) → Type 0
AreFirst readers dests positions = (dest : ℕ) → dest < dests → slice_get positions dest ≡ Some (if nat_lt dest readers then Some 0 else None)

-- a session's place, where a place has it
abbrev pub IsPlaceOf : List Place → (path seq : ℕ) → Option (ℕ × Row) → Type 0
IsPlaceOf places path seq None = (at : ℕ) → session_in (slice_get places at) ≡ Some (path, seq) → ⊥
IsPlaceOf places path seq (Some found) = (slice_get places found.0 ≡ Some (Occupied found.1)) × (found.1.path ≡ path) × (found.1.seq ≡ seq)

-- a row whose destination has read so many cells
abbrev pub advance : (dest at : ℕ) → Row → Row
advance dest at row = record row { positions = slice_set row.positions dest (Some at) }

-- a destination that leaves is one of those that a row has
abbrev pub IsEndOf : End → Type 0
IsEndOf (Write t) = Unit {0}
IsEndOf (Read t) = t.dest.0 < 8

-- a row that a party leaves
abbrev pub left_by : End → Row → Row
left_by (Write t) row = record row { writes = false }
left_by (Read t) row = record row { positions = slice_set row.positions t.dest.0 None }
