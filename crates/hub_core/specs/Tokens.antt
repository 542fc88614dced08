-- What a port knows of the tokens that it gave out, and how a token changes.
use Rattle.std.specs.Prelude.{◌≡◌, ℕ, ◌+◌, ◌-◌, ◌≤◌, true, length, Some}
use Rattle.gw_base.specs.Cell.{count_of, counted}
use Rattle.gw_base.specs.declared.numbers.BufNo.{BufNo}
use Rattle.gw_base.specs.declared.numbers.DestNo.{DestNo}
use Rattle.gw_base.specs.declared.numbers.PathNo.{PathNo}
use Rattle.hub_core.specs.declared.port.Room.{Room}
use Rattle.hub_core.specs.declared.port.Seen.{Seen}
use Rattle.hub_core.specs.declared.token.End.{End}
use Rattle.hub_core.specs.declared.token.End.TheVariants.{Write, Read}
use Rattle.hub_core.specs.declared.token.Held.{Held}
use Rattle.hub_core.specs.declared.token.Joined.{Joined}
use Rattle.hub_core.specs.declared.token.Opened.{Opened}
use Rattle.hub_core.specs.View.{View, Session, Reading, session_at, reading_at}

-- the port took this buffer, and it has no session yet
abbrev pub Holds : View → Held → Type 0
Holds v t = v.held t.buf.0 ≡ Some (record { number = t.change; size = t.cells })

-- a writer's session is what its token says
pub record SessionIs (session : Session) (t : Opened) : Type 0 where
  pub buf : session.buf ≡ t.buf.0
  pub size : session.size ≡ t.cells
  pub len : session.len ≡ t.len
  pub put : length session.cells ≡ t.put
  pub given : counted session.cells ≡ t.given
  pub within : t.given ≤ t.len
  pub told : session.told ≡ t.told
  pub published : t.told ≤ t.given
  pub room : session.room ≡ t.room
  pub room_most : t.room ≤ t.cells
  pub room_least : t.cells ≤ t.room + t.put
  pub readers : session.readers ≡ t.readers
  pub stands : session.stands ≡ true

-- the port's view has the writer's session, as the token says
pub record Writes (v : View) (t : Opened) : Type 0 where
  pub session : Session
  pub known : session_at v t.path.0 t.seq ≡ Some session
  pub says : SessionIs session t

-- a destination's reading is what its token says
pub record ReadingIs (reading : Reading) (t : Joined) : Type 0 where
  pub buf : reading.buf ≡ t.buf.0
  pub len : reading.len ≡ t.len
  pub at : length reading.cells ≡ t.at
  pub taken : counted reading.cells ≡ t.taken
  pub within : t.taken ≤ t.len
  pub seen : reading.seen ≡ t.seen
  pub at_most : t.at ≤ t.seen
  pub stands : reading.stands ≡ true

-- the port's view has the destination's reading, as the token says
pub record Reads (v : View) (t : Joined) : Type 0 where
  pub reading : Reading
  pub known : reading_at v t.path.0 t.dest.0 t.seq ≡ Some reading
  pub says : ReadingIs reading t

-- the port's view of the party is what its token says
abbrev pub TakesPart : View → End → Type 0
TakesPart v (Write t) = Writes v t
TakesPart v (Read t) = Reads v t

-- the writer's token of a session that is entered
abbrev pub opened_new : Held → PathNo → (seq len readers : ℕ) → Opened
opened_new held path seq len readers = record { path = path; seq = seq; buf = held.buf; cells = held.cells; len = len; put = 0; given = 0; told = 0; room = held.cells; readers = readers }

-- the writer's token after a look at the positions
abbrev pub asked : Room → Opened → Opened
asked room t = record t { room = room.cells; readers = room.readers }

-- the writer's token after one cell is put
abbrev pub put_one : ℕ → Opened → Opened
put_one cell t = record t { put = t.put + 1; given = t.given + count_of cell; room = t.room - 1 }

-- the writer's token after all that was put is published
abbrev pub published : Opened → Opened
published t = record t { told = t.given }

-- the destination's token of a session that it joins
abbrev pub joined_new : PathNo → DestNo → (seq : ℕ) → BufNo → (len : ℕ) → Joined
joined_new path dest seq buf len = record { path = path; dest = dest; seq = seq; buf = buf; len = len; at = 0; taken = 0; seen = 0 }

-- the destination's token after a look at the count
abbrev pub saw : Seen → Joined → Joined
saw seen t = record t { seen = seen.cells }

-- the destination's token after one cell is read
abbrev pub read_one : ℕ → Joined → Joined
read_one cell t = record t { at = t.at + 1; taken = t.taken + count_of cell }

-- two tokens of a writer are equal, field by field
pub record SameOpened (a b : Opened) : Type 0 where
  pub path : a.path ≡ b.path
  pub seq : a.seq ≡ b.seq
  pub buf : a.buf ≡ b.buf
  pub cells : a.cells ≡ b.cells
  pub len : a.len ≡ b.len
  pub put : a.put ≡ b.put
  pub given : a.given ≡ b.given
  pub told : a.told ≡ b.told
  pub room : a.room ≡ b.room
  pub readers : a.readers ≡ b.readers

-- two tokens of a destination are equal, field by field
pub record SameJoined (a b : Joined) : Type 0 where
  pub path : a.path ≡ b.path
  pub dest : a.dest ≡ b.dest
  pub seq : a.seq ≡ b.seq
  pub buf : a.buf ≡ b.buf
  pub len : a.len ≡ b.len
  pub at : a.at ≡ b.at
  pub taken : a.taken ≡ b.taken
  pub seen : a.seen ≡ b.seen
