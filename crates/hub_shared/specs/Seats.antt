-- A seat and a port as a contract sees them.
use Rattle.std.specs.Prelude.{◌≡◌, ℕ, ◌/◌, ◌%◌, ◌^◌, ◌<◌, List, length, get_or}
use Rattle.atomic_table.specs.Seated.{TableId}
use Rattle.hub_core.specs.Floors.{floors_of}
use Rattle.hub_core.specs.Groups.{grouped, IsWordOf}
use Rattle.hub_core.specs.Parts.{Part}
use Rattle.hub_core.specs.Stays.{PortState}
use Rattle.hub_core.specs.View.{View}
use Rattle.hub_shared.specs.History.{state_of}
use Rattle.hub_shared.specs.Sights.{view_of, floors_at}
use Rattle.hub_shared.specs.declared.hub.SharedHub.{SharedHub}
use Rattle.hub_shared.specs.declared.seat.HubSeat.{HubSeat}

-- the cells of a hub's buffers, group by group
abbrev pub groups_of : SharedHub → List (List ℕ)
groups_of hub = grouped hub.buffers.counts.items hub.buffers.cells.items

-- a seat is one of the hub's
pub record IsSeatOf (hub : SharedHub) (seat : HubSeat) : Type 0 where
  pub of : seat.seat.table_id ≡ hub.table.shared.table_id
  pub groups_are : seat.seat.me.0.groups ≡ groups_of hub

-- what a seat did and saw, for whom it acts, and its parts of the right to know the whole
abbrev pub seat_view : HubSeat → View
seat_view seat = view_of seat.seat.me.0

abbrev pub seat_part : HubSeat → Part
seat_part seat = (state_of seat.seat.me.0.entries).part

abbrev pub parts_of : HubSeat → ℕ
parts_of seat = seat.seat.me.0.parts

-- a seat as a port
abbrev pub as_port : HubSeat → PortState (TableId × ℕ)
as_port seat = record {
  view = seat_view seat;
  means = record {
    groups = seat.seat.me.0.groups;
    takes = seat.seat.me.0.takes;
    spare = 9000000;
    writes = (seat_part seat).writes;
    reads = (seat_part seat).reads;
    most = 8;
  };
  floors = floors_at seat.seat.me.0;
  home = (seat.seat.table_id, parts_of seat);
}

-- a group's pool word is the one of all its changes in a view
abbrev pub IsWordAt : SharedHub → (group : ℕ) → View → (word : ℕ) → Type 0
IsWordAt hub group v word = IsWordOf (groups_of hub) group v (word / 2 ^ 32) (word % 2 ^ 32)

-- no look of the seat falls behind what a view has
abbrev pub HasFloors : SharedHub → HubSeat → View → Type 0
HasFloors hub seat v = (as_port seat).floors ≡ floors_of (groups_of hub) v

-- so are the words of all groups, in order
abbrev pub AreWordsAt : SharedHub → View → List ℕ → Type 0
AreWordsAt hub v words = (group : ℕ) → group < length (groups_of hub) → IsWordAt hub group v (get_or words group 0)
