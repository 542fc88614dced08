-- What a seat needs to enter sessions of path 0, and what one needs to join them.
use Rattle.std.specs.Prelude.{◌≡◌, ℕ, ◌<◌, ◌≤◌, true, length}
use Rattle.hub_core.specs.Stays.{PortState}
use Rattle.hub_shared.specs.Seats.{IsSeatOf, as_port, groups_of, parts_of}
use Rattle.hub_shared.specs.declared.hub.SharedHub.{SharedHub}
use Rattle.hub_shared.specs.declared.seat.HubSeat.{HubSeat}

-- a seat of the hub, which has a group, with so many takes, that acts for the writer of path 0, of which there is no session yet
pub record CanEnter (hub : SharedHub) (seat : HubSeat) (times : ℕ) : Type 0 where
  pub of : IsSeatOf hub seat
  pub takes : times ≤ (as_port seat).means.takes
  pub some : 0 < length (groups_of hub)
  pub acts : (as_port seat).means.writes 0 ≡ true
  pub none_yet : length ((as_port seat).view.sessions 0) ≡ 0

-- a seat of the hub that acts for the first destination of path 0, which joined so many sessions
pub record CanJoin (hub : SharedHub) (seat : HubSeat) (joined : ℕ) : Type 0 where
  pub of : IsSeatOf hub seat
  pub some : 0 < length (groups_of hub)
  pub acts : (as_port seat).means.reads 0 0 ≡ true
  pub number : length ((as_port seat).view.readings 0 0) ≡ joined

-- a seat of the hub again, with the parts that it had
abbrev pub IsSeatAgain : SharedHub → HubSeat → HubSeat → Type 0
IsSeatAgain hub seat before = IsSeatOf hub seat × (parts_of seat ≡ parts_of before)

-- a port after calls: what it may do but take is as before, and it is the same one's
pub record IsOnward {Home : Type 0} (old new : PortState Home) : Type 0 where
  pub groups : new.means.groups ≡ old.means.groups
  pub writes : new.means.writes ≡ old.means.writes
  pub reads : new.means.reads ≡ old.means.reads
  pub home : new.home ≡ old.home
