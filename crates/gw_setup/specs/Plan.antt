-- The plan of a run, as the laws of whole runs speak of it (this project's own).
use Rattle.std.specs.Prelude.{ℕ, List, map, slice_get}
use Rattle.std.specs.Option.{option_map_or}
use Rattle.gw_law.specs.Plan.{Address as AddressOfLaw, Plan, Receiving, Sending}
use Rattle.hub_core.specs.Groups.{grouped}
use Rattle.gw_setup.specs.Setup.{Bus, Setup}
use Rattle.gw_setup.specs.declared.address.Address.{Address}
use Rattle.gw_setup.specs.declared.destination.Destination.{Destination}
use Rattle.gw_setup.specs.declared.source.Source.{Source}

-- which frames are a channel's, as the laws have it
abbrev pub address_of : Address → AddressOfLaw
address_of address = record { id = address.id; byte = address.byte }

-- a source and a destination, as the laws have them
abbrev pub receiving_of : Source → Receiving
receiving_of source = record { set = source.set; comes = address_of source.comes; shape = source.shape; bus = source.bus.0 }

abbrev pub sending_of : Destination → Sending
sending_of destination = record { set = destination.set; comes = address_of destination.comes; bus = destination.bus.0 }

-- the most frames that the bus of a number sends in a tick; none where there is no such bus
abbrev pub budget_in : List Bus → ℕ → ℕ
budget_in buses number = option_map_or (λ bus. bus.budget) (slice_get buses number) 0

-- the plan of a run up to this last tick
abbrev pub plan_of : Setup → (last : ℕ) → Plan
plan_of setup last = record {
  receivers = map receiving_of setup.sources;
  senders = map sending_of setup.destinations;
  budget = budget_in setup.buses;
  groups = grouped setup.counts setup.cells;
  window = setup.window;
  last = last;
}
