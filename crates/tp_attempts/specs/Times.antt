-- What was seen up to a tick.
use Rattle.std.specs.Prelude.{◌≡◌, ℕ, ◌≤◌, Some, nat_le, filter, List, [], ◌∷◌}
use Rattle.tp_attempts.specs.Cuts.{Cut}
use Rattle.tp_attempts.specs.Seen.{Seen}
use Rattle.tp_attempts.specs.Walk.{Wrong, walk_of}

-- the frames up to that tick
abbrev pub up_to : ℕ → List Seen → List Seen
up_to tick seen = filter (λ frame. nat_le frame.at tick) seen

-- the ticks never fall, and begin at this one or later
abbrev pub RisesFrom : ℕ → List Seen → Type 0
RisesFrom tick [] = Unit {0}
RisesFrom tick (frame ∷ frames) = (tick ≤ frame.at) × RisesFrom frame.at frames

-- an attempt as far as that tick
abbrev pub as_of : ℕ → Cut Seen → Cut Seen
as_of tick cut = record { start = cut.start; after = up_to tick cut.after }

-- a wrong sequence number stands in that tick
abbrev pub WrongStands : ℕ → Cut Seen → ℕ → Type 0
WrongStands address cut tick = (wrong : Wrong) × ((walk_of address (as_of tick cut)).wrong ≡ Some wrong) × (wrong.at ≡ tick)
