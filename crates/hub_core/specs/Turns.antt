-- One vocabulary for every machine that works over a port: what it was told, what its step came to, and what its turns tell together.
use Rattle.std.specs.Prelude.{◌≡◌, ℕ, ◌+◌, ◌≤◌, List, [], ◌∷◌, ◌++◌}
use Rattle.hub_core.specs.Floors.{Floors, AreFresh, floors_of}
use Rattle.hub_core.specs.Moves.{moves_in}
use Rattle.hub_core.specs.Stays.{PortState}
use Rattle.hub_core.specs.View.{View, Event, grows}
use Rattle.hub_core.specs.declared.record.Move.{Move}

-- what a step of a machine came to: its tick, what its port did and saw by calls of C, what of A it does with its box, the records of
-- R that it makes, and its state of S afterwards
pub record Did (C A R S : Type 0) : Type 0 where
  pub tick : ℕ
  pub calls : List C
  pub act : A
  pub records : List R
  pub new : S

-- a turn: what of E the machine was told, and what its step came to
pub record Turn (E C A R S : Type 0) : Type 0 where
  pub event : E
  pub did : Did C A R S

-- lists of turns, the newest first: the state after them, the tick of the last one, all records and all calls, the oldest first
abbrev pub state_after : {E C A R S : Type 0} → S → List (Turn E C A R S) → S
state_after first [] = first
state_after first (turn ∷ earlier) = turn.did.new

abbrev pub now_of : {E C A R S : Type 0} → List (Turn E C A R S) → ℕ
now_of [] = 0
now_of (turn ∷ earlier) = turn.did.tick

abbrev pub records_by : {E C A R S : Type 0} → List (Turn E C A R S) → List R
records_by [] = []
records_by (turn ∷ earlier) = records_by earlier ++ turn.did.records

abbrev pub calls_by : {E C A R S : Type 0} → List (Turn E C A R S) → List C
calls_by [] = []
calls_by (turn ∷ earlier) = calls_by earlier ++ turn.did.calls

-- what came with the turns' events, the oldest first, by what comes with each in its tick
abbrev pub came_by : {E C A R S F : Type 0} → (ℕ → E → List F) → List (Turn E C A R S) → List F
came_by came [] = []
came_by came (turn ∷ earlier) = came_by came earlier ++ came turn.did.tick turn.event

-- each turn is such a step after the earlier ones, and the ticks never fall
abbrev pub Happened : {E C A R S : Type 0} → (List (Turn E C A R S) → Turn E C A R S → Type 0) → List (Turn E C A R S) → Type 0
Happened Step [] = Unit {0}
Happened Step (turn ∷ earlier) = (now_of earlier ≤ turn.did.tick) × Step earlier turn × Happened Step earlier

-- what a machine did in a tick: its turns, the newest first
pub record Part (T : Type 0) : Type 0 where
  pub tick : ℕ
  pub turns : List T

-- lists of parts, the newest first: all turns, and the tick after the last part's, 0 where there is none
abbrev pub turns_of : {T : Type 0} → List (Part T) → List T
turns_of [] = []
turns_of (part ∷ earlier) = part.turns ++ turns_of earlier

abbrev pub tick_after : {T : Type 0} → List (Part T) → ℕ
tick_after [] = 0
tick_after (part ∷ earlier) = part.tick + 1

-- what each turn saw is no older than the floors of the view in which it began; the first turn began in this view
abbrev pub AreFreshTurns : {E A R S : Type 0} → List (List ℕ) → View → List (Turn E Event A R S) → Type 0
AreFreshTurns groups start [] = Unit {0}
AreFreshTurns groups start (turn ∷ earlier) = AreFresh (floors_of groups (grows (calls_by earlier) start)) (grows (calls_by earlier) start) turn.did.calls × AreFreshTurns groups start earlier

-- a part of a step over a port: these calls made the new view of the old one, none is older than the floors, their moves are told, and the row holds of them
pub record Over (floors : Floors) (old new : View) (moves : List Move) (Row : List Event → Type 0) : Type 0 where
  pub calls : List Event
  pub grown : new ≡ grows calls old
  pub fresh : AreFresh floors old calls
  pub moves_are : moves ≡ moves_in calls
  pub row : Row calls

-- the same over a port
abbrev pub OverPort : {Home : Type 0} → (old new : PortState Home) → List Move → (List Event → Type 0) → Type 0
OverPort old new moves Row = Over old.floors old.view new.view moves Row
