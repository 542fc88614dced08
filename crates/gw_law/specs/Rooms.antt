-- What the records of a source tell of the room in its sessions' buffers (the buffers and their cells are this project's own).
use Rattle.std.specs.Prelude.{◌≡◌, ℕ, ◌+◌, ◌≤◌, List, Some, slice_get}
use Rattle.std.specs.List.{AllZip}
use Rattle.hub_core.specs.Groups.{group_of, place_of, sizes_of}
use Rattle.hub_core.specs.declared.record.OpenedAt.{OpenedAt}
use Rattle.hub_core.specs.declared.record.SessionRecord.{SessionRecord}
use Rattle.hub_core.specs.declared.record.SessionResult.TheVariants.{NoRoom}
use Rattle.receiver_law.specs.Channel.{SourceChannel}
use Rattle.receiver_law.specs.PutCells.{cells_of}
use Rattle.receiver_law.specs.ReceptionCauses.{ArePut}
use Rattle.tp_attempts.specs.Attempts.{attempts_in}
use Rattle.tp_attempts.specs.Cuts.{Cut}
use Rattle.tp_attempts.specs.Seen.{Seen}
use Rattle.tp_attempts.specs.Walk.{Piece, walk_of}

-- the buffer of that number has so many cells
abbrev pub HasCells : List (List ℕ) → (buf size : ℕ) → Type 0
HasCells groups buf size = slice_get (sizes_of groups (group_of groups buf)) (place_of groups buf) ≡ Some size

-- so many cells of the session's buffer had room: no more than it has, and no fewer than all but those that the frames take whose bytes are told
pub record HasHadRoom (groups : List (List ℕ)) (pieces : List Piece) (told : SessionRecord) (room : ℕ) : Type 0 where
  pub opened : OpenedAt
  pub opened_is : told.opened ≡ Some opened
  pub size : ℕ
  pub size_is : HasCells groups opened.buf.0 size
  pub put : List Piece
  pub are_put : ArePut pieces told.bytes put
  pub most : room ≤ size
  pub least : size ≤ room + cells_of put

-- a record that tells of too little room tells the room that was there
abbrev pub TellsRoom : List (List ℕ) → (address : ℕ) → Cut Seen → SessionRecord → Type 0
TellsRoom groups address attempt told = (room need : ℕ) → told.result ≡ NoRoom room need → HasHadRoom groups (walk_of address attempt).pieces told room

abbrev pub RoomLaw : List (List ℕ) → SourceChannel → Type 0
RoomLaw groups r = AllZip (TellsRoom groups r.rx.a) (attempts_in r.rx.functional r.seen) r.sessions
