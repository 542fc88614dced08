-- The plain hub as a port.
use Rattle.std.specs.Prelude.{ℕ, List}
use Rattle.hub_core.specs.Groups.{grouped}
use Rattle.hub_core.specs.Past.{view_after}
use Rattle.hub_core.specs.Plain.{port_of}
use Rattle.hub_core.specs.Stays.{PortState}
use Rattle.hub_core.specs.View.{View}
use Rattle.hub_core.specs.declared.plain.PlainHub.{PlainHub}

-- the cells of a hub's buffers, group by group
abbrev pub groups_of : PlainHub → List (List ℕ)
groups_of hub = grouped hub.counts.items hub.sizes.items

-- what was done with it
abbrev pub view_of : PlainHub → View
view_of hub = view_after hub.past.seat.me.0.deeds

-- the hub as a port's contract sees it
abbrev pub as_port : PlainHub → PortState (Unit {0})
as_port hub = port_of (groups_of hub) hub.takes (view_of hub)
