-- What a seat needs for so many takes, and what is left of it.
use Rattle.std.specs.Prelude.{◌≡◌, ℕ, ◌<◌, ◌≤◌, length}
use Rattle.hub_shared.specs.Seats.{IsSeatOf, as_port, groups_of, parts_of}
use Rattle.hub_shared.specs.declared.hub.SharedHub.{SharedHub}
use Rattle.hub_shared.specs.declared.seat.HubSeat.{HubSeat}

-- a seat of the hub, which has a group, with so many takes
abbrev pub CanTake : SharedHub → HubSeat → (times : ℕ) → Type 0
CanTake hub seat times = IsSeatOf hub seat × (times ≤ (as_port seat).means.takes) × (0 < length (groups_of hub))

-- a seat of the hub again, with the parts that it had
abbrev pub IsAgain : SharedHub → HubSeat → HubSeat → Type 0
IsAgain hub seat before = IsSeatOf hub seat × (parts_of seat ≡ parts_of before)
