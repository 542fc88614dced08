-- What a hub answers that acts for all parties itself: each look is exact.
use Rattle.std.specs.Prelude.{◌≡◌, ℕ, ◌+◌, ◌<◌, ◌≤◌, List, length, Option, Some, None}
use Rattle.gw_base.specs.Fit.{IsSmallest}
use Rattle.hub_core.specs.Calls.{path_of, seq_of}
use Rattle.hub_core.specs.Floors.{staying, has_left}
use Rattle.hub_core.specs.Groups.{group_of, place_of, sizes_of, changes_in, free_in, IsWordOf}
use Rattle.hub_core.specs.Joint.{position, HasLeft, HasRoom, IsOver}
use Rattle.hub_core.specs.View.{View, Session, session_at, reading_at}
use Rattle.hub_core.specs.declared.port.Left.{Left}
use Rattle.hub_core.specs.declared.port.Left.TheVariants.{Others, Last}
use Rattle.hub_core.specs.declared.port.Room.{Room}
use Rattle.hub_core.specs.declared.port.Seen.{Seen}
use Rattle.hub_core.specs.declared.port.Take.{Take}
use Rattle.hub_core.specs.declared.port.Take.TheVariants.{Granted, Overflow}
use Rattle.hub_core.specs.declared.token.End.{End}
use Rattle.hub_core.specs.declared.token.Joined.{Joined}

-- the room that the destinations leave in their session's buffer: it holds what one of them that takes part hasn't read
pub record IsRoomBeside (v : View) (path seq : ℕ) (s : Session) (room : Room) : Type 0 where
  -- who hasn't left takes part
  pub readers : room.readers ≡ staying (λ dest. has_left (λ r. r.stands) (reading_at v path dest seq)) s.dests
  -- where all have left, the whole buffer is room
  pub all : room.readers ≡ 0 → room.cells ≡ s.size
  -- no cell is counted that one of them hasn't read, and one of them has read no more
  pub each : HasRoom v path seq s room.cells
  pub least : 0 < room.readers → (dest : ℕ) × (dest < s.dests) × (HasLeft v path dest seq → ⊥) × (length s.cells + room.cells ≡ position (reading_at v path dest seq) + s.size)

-- the room of the session with that path and number
abbrev pub IsRoomOf : View → ℕ → ℕ → Room → Type 0
IsRoomOf v path seq room = (s : Session) → session_at v path seq ≡ Some s → IsRoomBeside v path seq s room

-- the session of that path and number is joined where there is one in the group that is for the destination, with its buffer and length
abbrev pub IsNextOf : View → List (List ℕ) → (group path dest seq : ℕ) → Option Joined → Type 0
IsNextOf v groups group path dest seq None = (s : Session) → session_at v path seq ≡ Some s → group_of groups s.buf ≡ group → s.dests ≤ dest
IsNextOf v groups group path dest seq (Some t) = (s : Session) × (session_at v path seq ≡ Some s) × (group_of groups s.buf ≡ group) × (dest < s.dests) × (t.buf.0 ≡ s.buf) × (t.len ≡ s.len)

-- what is published of the session with that path and number, and whether its writer takes part
abbrev pub IsSeenOf : View → ℕ → ℕ → Seen → Type 0
IsSeenOf v path seq seen = (s : Session) → session_at v path seq ≡ Some s → (seen.cells ≡ s.shown) × (seen.bytes ≡ s.told) × (seen.writer ≡ s.stands)

-- a take is answered by the group's word of its own moment: by its next change where a free buffer fits, else by the word itself
abbrev pub IsTakeOf : View → List (List ℕ) → (group need : ℕ) → Take → Type 0
IsTakeOf v groups group need (Granted change held) = (change ≡ length (changes_in groups group v) + 1) × (group_of groups held.buf.0 ≡ group) ×
    IsSmallest (sizes_of groups group) (free_in groups group v) need (place_of groups held.buf.0)
IsTakeOf v groups group need (Overflow change free) = IsWordOf groups group v change free

-- whether all parties of the session have left, once this one has
abbrev pub IsLeavingOf : View → End → Left → Type 0
IsLeavingOf v end Others = (s : Session) → session_at v (path_of end) (seq_of end) ≡ Some s → IsOver v (path_of end) (seq_of end) s → ⊥
IsLeavingOf v end (Last change buf) = (s : Session) → session_at v (path_of end) (seq_of end) ≡ Some s → IsOver v (path_of end) (seq_of end) s
