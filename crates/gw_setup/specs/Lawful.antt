-- What every setup keeps (this project's own).
use Rattle.std.specs.Prelude.{◌≡◌, ◌≢◌, ℕ, ◌<◌, ◌≤◌, ◌&&◌, not, true, false, All, AllPairs, List, Some, length, slice_get, sum}
use Rattle.candump_line.specs.Line.{IsInterface}
use Rattle.gw_base.specs.declared.numbers.BusNo.{BusNo}
use Rattle.gw_base.specs.declared.numbers.ChanNo.{ChanNo}
use Rattle.gw_depot.specs.Files.{IsName}
use Rattle.gw_law.specs.Channels.{bytes_of_address}
use Rattle.gw_law.specs.Plan.{IsLawfulPlan}
use Rattle.route_table.specs.Match.{are_apart}
use Rattle.route_table.specs.declared.entry.ChanEntry.{ChanEntry}
use Rattle.tp_unit.specs.Shape.{IsShape}
use Rattle.tp_unit.specs.declared.shape.Shape.{Shape}
use Rattle.gw_setup.specs.Plan.{plan_of}
use Rattle.gw_setup.specs.Setup.{Bus, Setup}
use Rattle.gw_setup.specs.declared.address.Address.{Address}
use Rattle.gw_setup.specs.declared.destination.Destination.{Destination}
use Rattle.gw_setup.specs.declared.source.Source.{Source}

-- the names can stand for an interface and for files, and a frame is sent in a tick at least
pub record IsBus (bus : Bus) : Type 0 where
  pub interface : IsInterface bus.interface
  pub log : IsName bus.log
  pub out : IsName bus.out
  pub budget : 1 ≤ bus.budget

-- a bus without CAN FD has classic frames, and FD frames switch the bit rate where the bus does
pub record FitsBus (bus : Bus) (shape : Shape) : Type 0 where
  pub fd : (shape.fd && not bus.fd) ≡ false
  pub brs : shape.brs ≡ bus.brs

-- the channel of this number stands on this bus in the table of frames, and these frames come to it
abbrev pub IsInTable : List ChanEntry → ChanNo → BusNo → Address → Type 0
IsInTable channels chan bus comes = slice_get channels chan.0 ≡ Some (record { chan = chan; bus = bus; id = comes.id; address = comes.byte })

-- the bus of this number is there, and sends frames of this shape
pub record SendsOn (setup : Setup) (number : BusNo) (shape : Shape) : Type 0 where
  pub bus : Bus
  pub there : slice_get setup.buses number.0 ≡ Some bus
  pub is_bus : IsBus bus
  pub fits : FitsBus bus shape
  pub is_shape : IsShape shape

-- a receiver reads the frames of its channel's address in the table, sends flow controls of a lawful shape on its bus, has 1 to 8 readers of
-- the buffers of a group that is there, and limits of a tick at least
pub record IsLawfulSource (setup : Setup) (source : Source) : Type 0 where
  pub in_table : IsInTable setup.channels source.set.chan source.bus source.comes
  pub sends : SendsOn setup source.bus source.shape
  pub address : source.set.a ≡ bytes_of_address source.comes.byte
  pub chan : source.set.chan.0 < 64
  pub path : source.set.path.0 < 64
  pub group : source.set.group.0 < length setup.counts
  pub some_readers : 1 ≤ source.set.readers
  pub readers : source.set.readers ≤ 8
  pub n_ar : 1 ≤ source.set.n_ar
  pub n_br : 1 ≤ source.set.n_br
  pub n_cr : 1 ≤ source.set.n_cr

-- a sender reads the flow controls of its channel's address in the table, sends frames of a lawful shape on its bus, is one of the up to 8
-- readers of the buffers of a group that is there, and has limits of a tick at least and the run's period
pub record IsLawfulDestination (setup : Setup) (destination : Destination) : Type 0 where
  pub in_table : IsInTable setup.channels destination.chan destination.bus destination.comes
  pub sends : SendsOn setup destination.bus destination.set.shape
  pub chan : destination.chan.0 < 64
  pub path : destination.set.path.0 < 64
  pub group : destination.set.group.0 < length setup.counts
  pub dest : destination.set.dest.0 < 8
  pub n_as : 1 ≤ destination.set.n_as
  pub n_bs : 1 ≤ destination.set.n_bs
  pub n_cs : 1 ≤ destination.set.n_cs
  pub period : destination.set.period ≡ setup.period

-- 1 to 8 buses with lawful names, of which no two have one name or one output, and none writes to what one reads
pub record AreLawfulBuses (buses : List Bus) : Type 0 where
  pub some : 1 ≤ length buses
  pub few : length buses ≤ 8
  pub each : All IsBus buses
  pub names_apart : AllPairs (λ (one other : Bus). one.interface ≢ other.interface) buses
  pub outputs_apart : AllPairs (λ (one other : Bus). one.out ≢ other.out) buses
  pub kept : (place other : ℕ) (one another : Bus) → slice_get buses place ≡ Some one → slice_get buses other ≡ Some another → one.out ≢ another.log

-- up to 64 channels, of which no two may have one frame
pub record AreLawfulChannels (channels : List ChanEntry) : Type 0 where
  pub few : length channels ≤ 64
  pub apart : are_apart channels ≡ true

-- 1 to 4 groups of 1 to 32 buffers, which have all buffers, each of 1 to 8192 cells
pub record IsLawfulPool (counts cells : List ℕ) : Type 0 where
  pub some : 1 ≤ length counts
  pub few : length counts ≤ 4
  pub buffers : All (λ count. (1 ≤ count) × (count ≤ 32)) counts
  pub all : sum counts ≡ length cells
  pub sizes : All (λ size. (1 ≤ size) × (size ≤ 8192)) cells

-- the times are in their ranges
pub record AreLawfulTimes (setup : Setup) : Type 0 where
  pub some_period : 1 ≤ setup.period
  pub period : setup.period ≤ 1_000_000
  pub some_window : 1 ≤ setup.window
  pub window : setup.window ≤ 1000
  pub linger : setup.linger ≤ 1_000_000

-- what every setup keeps
pub record IsLawfulSetup (setup : Setup) : Type 0 where
  pub buses : AreLawfulBuses setup.buses
  pub channels : AreLawfulChannels setup.channels
  pub sources : All (IsLawfulSource setup) setup.sources
  pub destinations : All (IsLawfulDestination setup) setup.destinations
  -- each channel has one receiver at most, and one sender at most
  pub one_receiver : AllPairs (λ (one other : Source). one.set.chan.0 < other.set.chan.0) setup.sources
  pub one_sender : AllPairs (λ (one other : Destination). one.chan.0 < other.chan.0) setup.destinations
  pub pool : IsLawfulPool setup.counts setup.cells
  pub times : AreLawfulTimes setup
  pub plan : (last : ℕ) → IsLawfulPlan (plan_of setup last)
