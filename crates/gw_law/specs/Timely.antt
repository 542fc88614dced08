-- When a destination's frames leave, and what they are: none leaves before its bytes came (ISO 15765-2, segmentation and reassembly).
use Rattle.std.specs.Prelude.{◌≡◌, ◌⊎◌, ℕ, ◌+◌, ◌-◌, ◌<◌, ◌≤◌, ◌==◌, if◌then◌else◌, false, min, nat_le, nat_lt, List, [], ◌∷◌, filter, length, map}
use Rattle.tp_unit.specs.Box.{Written}
use Rattle.std.specs.List.{AllByRecursion, AllZip, flat_map}
use Rattle.hub_core.specs.declared.record.DestRecord.{DestRecord}
use Rattle.hub_core.specs.declared.record.SessionRecord.{SessionRecord}
use Rattle.tp_attempts.specs.Attempts.{attempts_in}
use Rattle.tp_attempts.specs.Cuts.{Cut}
use Rattle.tp_attempts.specs.Seen.{Seen}
use Rattle.tp_attempts.specs.Walk.{Piece, joined, walk_of}
use Rattle.tp_unit.specs.Shape.{address_size}
use Rattle.receiver_law.specs.PutCells.{cells_of}
use Rattle.gw_law.specs.Delivery.{Delivery, IsNamed}
use Rattle.sender_law.specs.Channel.{IsOfChannel}
use Rattle.sender_law.specs.Pacing.{controls_of}
use Rattle.gw_law.specs.Account.{Route}
use Rattle.sender_law.specs.Transfer.{has_sent, seen_of}

-- the source channel and the destination of a route
abbrev pub delivery_of_route : Route → Delivery
delivery_of_route r = record {
  functional = r.source.rx.functional;
  source = r.source.rx.a;
  seen = r.source.seen;
  received = r.source.sessions;
  address = address_size r.leg.tx.shape;
  frames = map (seen_of (address_size r.leg.tx.shape)) r.leg.frames;
  answers = controls_of r.leg.tx.period r.leg.answers;
  records = r.leg.dests;
}

-- the number of bytes in the pieces up to that tick, and in those of earlier ticks
abbrev pub bytes_to : ℕ → List Piece → ℕ
bytes_to tick pieces = length (joined (filter (λ (piece : Piece). nat_le piece.at tick) pieces))

abbrev pub bytes_below : ℕ → List Piece → ℕ
bytes_below tick pieces = length (joined (filter (λ (piece : Piece). nat_lt piece.at tick) pieces))

-- the cells that the pieces of earlier ticks fill
abbrev pub cells_below : ℕ → List Piece → ℕ
cells_below tick pieces = cells_of (filter (λ (piece : Piece). nat_lt piece.at tick) pieces)

-- of pieces the first ones, up to so many bytes
abbrev pub first_pieces : (bytes : ℕ) → List Piece → List Piece
first_pieces bytes [] = []
first_pieces bytes (piece ∷ pieces) = if bytes == 0 then [] else piece ∷ first_pieces (bytes - length piece.bytes) pieces

-- a destination's record begins by less than a window earlier than the record of the session that it names, and in windows of one
-- tick no earlier
abbrev pub BeginsAfter : (window : ℕ) → Delivery → DestRecord → Type 0
BeginsAfter window d told = (unit : Cut Seen) (session : SessionRecord) → IsNamed d told.seq unit session → session.begin.0 < told.begin.0 + window

-- up to each tick a transmission has sent no more bytes than come of the source unit that its record names in ticks below a window
-- from that one on
abbrev pub IsTimely : (window : ℕ) → Delivery → Cut Seen → DestRecord → Type 0
IsTimely window d cut told = (unit : Cut Seen) (session : SessionRecord) → IsNamed d told.seq unit session → (tick : ℕ) → bytes_to tick (walk_of d.address cut).pieces ≤ bytes_below (tick + window) (walk_of d.source unit).pieces

-- the bytes of a session that came in ticks below a window from a tick on, at most those that were put
abbrev pub came_by : Route → Cut Seen → SessionRecord → ℕ → ℕ
came_by r unit session tick = min (bytes_below (tick + r.window) (walk_of r.source.rx.a unit).pieces) session.bytes

-- a transmission's first frame leaves in a tick only where in ticks below a window from that one on there came all of the source unit
-- that its record names or, unless whole units are stored, frames of it that were put and fill as many cells as the threshold
abbrev pub StartsInTime : Route → Cut Seen → DestRecord → Type 0
StartsInTime r cut told = (unit : Cut Seen) (session : SessionRecord) → IsNamed (delivery_of_route r) told.seq unit session →
    (session.len ≤ came_by r unit session cut.start.at) ⊎ ((r.leg.tx.store ≡ false) × (r.leg.tx.threshold ≤ cells_below (cut.start.at + r.window) (first_pieces session.bytes (walk_of r.source.rx.a unit).pieces)))

-- the ticks of a transmission's counted frames
abbrev pub counted_ticks : ℕ → Cut Seen → List ℕ
counted_ticks address cut = map (λ (piece : Piece). piece.at) (walk_of address cut).pieces

-- no record and no frame of the destination comes before its time, all frames are the channel's own, and each is a counted frame of a transmission
pub record TimelyLaw (r : Route) : Type 0 where
  pub begins : AllByRecursion (BeginsAfter r.window (delivery_of_route r)) r.leg.dests
  pub starts : AllZip (StartsInTime r) (attempts_in false (delivery_of_route r).frames) (filter has_sent r.leg.dests)
  pub timely : AllZip (IsTimely r.window (delivery_of_route r)) (attempts_in false (delivery_of_route r).frames) (filter has_sent r.leg.dests)
  pub own : AllByRecursion (IsOfChannel r.leg.tx.shape) r.leg.frames
  pub counted : map (λ (written : Written). written.tick) r.leg.frames ≡ flat_map (counted_ticks (delivery_of_route r).address) (attempts_in false (delivery_of_route r).frames)
