-- What a hub's closing has read so far.
use Rattle.std.specs.Prelude.{◌≡◌, ℕ, ◌<◌, List, length, get_or}
use Rattle.hub_core.specs.Joint.{Joint}
use Rattle.hub_shared.specs.Seats.{IsSeatOf, IsWordAt, as_port, groups_of, seat_view}
use Rattle.hub_shared.specs.declared.hub.SharedHub.{SharedHub}
use Rattle.hub_shared.specs.declared.seat.HubSeat.{HubSeat}

-- the words of so many groups
pub record HasRead (hub : SharedHub) (first seat : HubSeat) (groups : ℕ) (words : List ℕ) : Type 0 where
  pub of : IsSeatOf hub seat
  pub same : as_port seat ≡ as_port first
  pub long : length words ≡ groups
  pub words_are : (group : ℕ) → group < groups → IsWordAt hub group (seat_view first) (get_or words group 0)
  pub joint : 0 < groups → Joint (groups_of hub) (seat_view first)
