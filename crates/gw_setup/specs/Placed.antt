-- Which entries of a configuration stand at each place of a setup: each once, in the order of the configuration (this project's own).
use Rattle.std.specs.Prelude.{◌≡◌, ℕ, ◌<◌, List, length, map, Some, slice_get, AllPairs}
use Rattle.gw_base.specs.declared.numbers.BusNo.{BusNo}
use Rattle.gw_config.specs.Config.{BusEntry, ChannelEntry, Configuration, PathEntry}
use Rattle.gw_config.specs.Lawful.{IsLawfulBus, IsLawfulChannel, IsLawfulPath}
use Rattle.hub_core.specs.Groups.{all_sizes, grouped}
use Rattle.route_table.specs.declared.entry.ChanEntry.{ChanEntry}
use Rattle.gw_setup.specs.Machines.{bus_of, comes_to, rx_set_of, shape_of, tx_set_of}
use Rattle.gw_setup.specs.Setup.{Bus, Setup}
use Rattle.gw_setup.specs.declared.destination.Destination.{Destination}
use Rattle.gw_setup.specs.declared.source.Source.{Source}

-- each item of a list is right for its place
abbrev pub EachAt : {X : Type 0} → (ℕ → X → Type 0) → List X → Type 0
EachAt {X} IsRight items = (place : ℕ) (item : X) → slice_get items place ≡ Some item → IsRight place item

-- a bus has what the entry of its number says, whose values are in their ranges
pub record IsBusAt (config : Configuration) (number : ℕ) (bus : Bus) : Type 0 where
  pub keys : BusEntry
  pub there : slice_get config.bus number ≡ Some keys
  pub fits : IsLawfulBus keys
  pub is : bus ≡ bus_of keys

-- the channel of a number stands on the bus of another number, by that bus's name
pub record StandsOn (config : Configuration) (number : ℕ) (on : BusNo) (channel : ChannelEntry) (bus : BusEntry) : Type 0 where
  pub channel_is : slice_get config.channel number ≡ Some channel
  pub bus_is : slice_get config.bus on.0 ≡ Some bus
  pub by_name : channel.bus ≡ bus.name

-- the frames that come to the channel of this number are those of its bus with its identifier and, where it has one, its address byte
pub record IsChannelAt (config : Configuration) (number : ℕ) (entry : ChanEntry) : Type 0 where
  pub channel : ChannelEntry
  pub bus : BusEntry
  pub stands : StandsOn config number entry.bus channel bus
  pub is : entry ≡ record { chan = record { 0 = number }; bus = entry.bus; id = channel.rx; address = channel.rx_address }

-- a receiver is that of the path of its number, which comes from the channel of its number, by that channel's name
pub record IsSource (config : Configuration) (source : Source) : Type 0 where
  pub path : PathEntry
  pub channel : ChannelEntry
  pub bus : BusEntry
  pub path_is : slice_get config.path source.set.path.0 ≡ Some path
  pub comes_from : path.from ≡ channel.name
  pub stands : StandsOn config source.set.chan.0 source.bus channel bus
  pub path_fits : IsLawfulPath path
  pub channel_fits : IsLawfulChannel channel
  pub set : source.set ≡ rx_set_of source.set.path source.set.chan path channel
  pub comes : source.comes ≡ comes_to channel
  pub shape : source.shape ≡ shape_of bus channel

-- a sender is that of the destination of its number, of the path of its number, which is the channel of its number, by that channel's name
pub record IsDestination (config : Configuration) (destination : Destination) : Type 0 where
  pub path : PathEntry
  pub channel : ChannelEntry
  pub bus : BusEntry
  pub path_is : slice_get config.path destination.set.path.0 ≡ Some path
  pub leads_to : slice_get path.to destination.set.dest.0 ≡ Some channel.name
  pub stands : StandsOn config destination.chan.0 destination.bus channel bus
  pub path_fits : IsLawfulPath path
  pub channel_fits : IsLawfulChannel channel
  pub set : destination.set ≡ tx_set_of config.period destination.set.path destination.set.dest path bus channel
  pub comes : destination.comes ≡ comes_to channel

-- the receiver of a path is among these
pub record HasSource (sources : List Source) (path : ℕ) : Type 0 where
  pub place : ℕ
  pub source : Source
  pub there : slice_get sources place ≡ Some source
  pub path_is : source.set.path.0 ≡ path

-- the sender of a path's destination is among these
pub record HasDestination (destinations : List Destination) (path dest : ℕ) : Type 0 where
  pub place : ℕ
  pub destination : Destination
  pub there : slice_get destinations place ≡ Some destination
  pub path_is : destination.set.path.0 ≡ path
  pub dest_is : destination.set.dest.0 ≡ dest

-- the receivers: one of each path, by the number of their channel, no two of one channel
pub record AreSources (config : Configuration) (sources : List Source) : Type 0 where
  pub each : EachAt (λ place. IsSource config) sources
  pub every : (path : ℕ) → path < length config.path → HasSource sources path
  pub in_order : AllPairs (λ (one other : Source). one.set.chan.0 < other.set.chan.0) sources

-- the senders: one of each destination of each path, by the number of their channel, no two of one channel
pub record AreDestinations (config : Configuration) (destinations : List Destination) : Type 0 where
  pub each : EachAt (λ place. IsDestination config) destinations
  pub every : (number dest : ℕ) (path : PathEntry) → slice_get config.path number ≡ Some path → dest < length path.to → HasDestination destinations number dest
  pub in_order : AllPairs (λ (one other : Destination). one.chan.0 < other.chan.0) destinations

-- there are as many as entries, and each is right for its place
pub record AreAll {E X : Type 0} (entries : List E) (IsRight : ℕ → X → Type 0) (items : List X) : Type 0 where
  pub as_many : length items ≡ length entries
  pub each : EachAt IsRight items

-- the setup is that of the configuration, whose buffers stand group after group
pub record IsSetupOf (config : Configuration) (setup : Setup) : Type 0 where
  pub buses : AreAll config.bus (IsBusAt config) setup.buses
  pub channels : AreAll config.channel (IsChannelAt config) setup.channels
  pub sources : AreSources config setup.sources
  pub destinations : AreDestinations config setup.destinations
  pub cells : setup.cells ≡ all_sizes config.groups
  pub counts : setup.counts ≡ map length config.groups
  -- cut into groups again, the cells are those of the configuration's
  pub groups : grouped setup.counts setup.cells ≡ config.groups
  pub period : setup.period ≡ config.period
  pub window : setup.window ≡ config.window
  pub linger : setup.linger ≡ config.linger
