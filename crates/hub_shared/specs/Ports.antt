-- A port as a contract sees it.
use Rattle.std.specs.Prelude.{ℕ}
use Rattle.atomic_table.specs.Seated.{TableId}
use Rattle.hub_core.specs.Stays.{PortState}
use Rattle.hub_core.specs.View.{View}
use Rattle.hub_shared.specs.Seats.{as_port}
use Rattle.hub_shared.specs.declared.hub.SharedHub.{SharedHub}
use Rattle.hub_shared.specs.declared.port.SharedPort.{SharedPort}
use Rattle.hub_shared.specs.declared.seat.HubSeat.{HubSeat}

-- its hub and its seat
abbrev pub hub_of : SharedPort → SharedHub
hub_of port = port.hub.now

abbrev pub seat_of : SharedPort → HubSeat
seat_of port = port.seat

-- the port's state is its seat's
abbrev pub port_state : SharedPort → PortState (TableId × ℕ)
port_state port = as_port port.seat

-- what it did and saw
abbrev pub view_of : SharedPort → View
view_of port = (port_state port).view
