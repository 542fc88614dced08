-- The configurations that are built: two buses, and a path from a channel of the first to one of the second (this project's own).
use Rattle.std.specs.Prelude.{◌≡◌, ◌≢◌, ℕ, ◌<◌, ◌≤◌, Bool, true, false, not, ◌&&◌, nat_lt, List, [], ◌∷◌}
use Rattle.can_frame.specs.Id.{id_fits}
use Rattle.candump_line.specs.Line.{IsInterface}
use Rattle.gw_config.specs.Config.{BusEntry, ChannelEntry, Configuration, PathEntry}
use Rattle.gw_config.specs.declared.words.Mode.TheVariants.{Serial}
use Rattle.gw_depot.specs.Files.{IsName}
use Rattle.tp_receiver.specs.declared.set.RxSet.{RxSet}
use Rattle.tp_sender.specs.declared.set.TxSet.{TxSet}
use Rattle.tp_unit.specs.Shape.{is_frame_size}
use Rattle.tp_unit.specs.declared.shape.Shape.{Shape}
use Rattle.gw_run.specs.declared.machines.Machines.{Machines}
use Rattle.gw_law.specs.Channels.{bytes_of_address}
use Rattle.gw_run.specs.declared.address.Address.{Address}

-- a bus of a run: its interface's name in its log, its files, whether it has CAN FD, whether FD frames switch the bit rate there, and
-- the most frames that it sends in a tick
pub record Bus : Type 0 where
  pub interface : List ℕ
  pub log : List ℕ
  pub out : List ℕ
  pub fd : Bool
  pub brs : Bool
  pub budget : ℕ

-- the names can stand for an interface and for files
pub record IsBus (bus : Bus) : Type 0 where
  pub interface : IsInterface bus.interface
  pub log : IsName bus.log
  pub out : IsName bus.out

-- what is free in a configuration that is built
pub record Setup : Type 0 where
  pub source : Bus
  pub destination : Bus
  -- the source channel, and the destination's channel
  pub receiver : ChannelEntry
  pub sender : ChannelEntry
  -- the path from the one to the other
  pub path : PathEntry
  -- the cells of the one buffer
  pub cells : ℕ
  -- a tick in microseconds, and the ticks that a run goes on after the last input frame
  pub period : ℕ
  pub linger : ℕ

-- which frames come to a channel
abbrev pub comes_to : ChannelEntry → Address
comes_to channel = record { id = channel.rx; byte = channel.rx_address }

-- a channel on a bus without CAN FD has classic frames
abbrev pub FitsBus : Bus → ChannelEntry → Type 0
FitsBus bus channel = (nat_lt 8 channel.dl && not bus.fd) ≡ false

-- the outputs are two files, the cells, the period, the linger and the timers are in their ranges, the identifiers have 11 or 29 bits, and
-- the frames have a lawful size, on buses that have such frames
pub record HasLawfulNumbers (setup : Setup) : Type 0 where
  pub apart : setup.source.out ≢ setup.destination.out
  pub some_cells : 1 ≤ setup.cells
  pub cells : setup.cells ≤ 8192
  pub some : 0 < setup.period
  pub period : setup.period ≤ 1_000_000
  pub linger : setup.linger ≤ 1_000_000
  pub receiver_tx : id_fits setup.receiver.tx ≡ true
  pub sender_tx : id_fits setup.sender.tx ≡ true
  pub receiver_size : is_frame_size setup.receiver.dl ≡ true
  pub sender_size : is_frame_size setup.sender.dl ≡ true
  pub source_budget : 2 ≤ setup.source.budget
  pub destination_budget : 2 ≤ setup.destination.budget
  pub receiver_fits : FitsBus setup.source setup.receiver
  pub sender_fits : FitsBus setup.destination setup.sender
  pub n_ar : 1 ≤ setup.receiver.n_ar
  pub n_br : 1 ≤ setup.receiver.n_br
  pub n_cr : 1 ≤ setup.receiver.n_cr
  pub n_as : 1 ≤ setup.sender.n_as
  pub n_bs : 1 ≤ setup.sender.n_bs
  pub n_cs : 1 ≤ setup.sender.n_cs

-- what a run needs of a bus's keys
abbrev pub bus_of : BusEntry → Bus
bus_of keys = record { interface = keys.name; log = keys.log; out = keys.out; fd = keys.fd; brs = keys.brs; budget = keys.budget }

-- a bus with a place in each tick for a flow control and a data frame of its one channel
pub record IsBaseBus (bus : BusEntry) : Type 0 where
  pub budget : 2 ≤ bus.budget

-- the path from the one channel to the other, with the buffers of the first group
pub record IsBasePath (from to : List ℕ) (path : PathEntry) : Type 0 where
  pub group_is : path.group ≡ 0
  pub from_is : path.from ≡ from
  pub to_is : path.to ≡ to ∷ []

-- a window of one tick, workers one after another, no interface path and no cancellation
pub record HasBaseTop (config : Configuration) : Type 0 where
  pub window : config.window ≡ 1
  pub mode : config.mode ≡ Serial
  pub interface : config.interface ≡ []
  pub cancel : config.cancel ≡ []

-- the configuration is built, and this is what it leaves free: all but the form, with one group of one buffer, two buses, a channel on each,
-- and a path from the one to the other
pub record IsBuiltConfig (config : Configuration) (setup : Setup) : Type 0 where
  pub top : HasBaseTop config
  pub source : BusEntry
  pub destination : BusEntry
  pub buffer : config.groups ≡ (setup.cells ∷ []) ∷ []
  pub buses : config.bus ≡ source ∷ destination ∷ []
  pub channels : config.channel ≡ setup.receiver ∷ setup.sender ∷ []
  pub paths : config.path ≡ setup.path ∷ []
  pub source_is : IsBaseBus source
  pub destination_is : IsBaseBus destination
  pub receiver_on : setup.receiver.bus ≡ source.name
  pub sender_on : setup.sender.bus ≡ destination.name
  pub path_is : IsBasePath setup.receiver.name setup.sender.name setup.path
  pub source_bus : setup.source ≡ bus_of source
  pub destination_bus : setup.destination ≡ bus_of destination
  pub period : setup.period ≡ config.period
  pub linger : setup.linger ≡ config.linger

-- the shape of a channel's frames on its bus: FD frames where they may be longer than classic ones
abbrev pub shape_of : Bus → ChannelEntry → Shape
shape_of bus channel = record { id = channel.tx; fd = nat_lt 8 channel.dl; brs = bus.brs; address = channel.tx_address; dl = channel.dl; pad = channel.pad; fill = channel.fill }

-- how the receiver of the source channel is configured: channel 0, path 0 and group 0, with one destination
abbrev pub rx_set_of : Setup → RxSet
rx_set_of setup = record {
  chan = record { 0 = 0 };
  path = record { 0 = 0 };
  group = record { 0 = 0 };
  readers = 1;
  a = bytes_of_address setup.receiver.rx_address;
  functional = setup.receiver.functional;
  bs = setup.receiver.bs;
  st = setup.receiver.stmin;
  wft_max = setup.receiver.wft_max;
  n_ar = setup.receiver.n_ar;
  n_br = setup.receiver.n_br;
  n_cr = setup.receiver.n_cr;
  threshold = setup.path.threshold;
  store = setup.path.store;
}

-- how the sender of the destination is configured
abbrev pub tx_set_of : Setup → TxSet
tx_set_of setup = record {
  path = record { 0 = 0 };
  group = record { 0 = 0 };
  dest = record { 0 = 0 };
  shape = shape_of setup.destination setup.sender;
  threshold = setup.path.threshold;
  store = setup.path.store;
  n_as = setup.sender.n_as;
  n_bs = setup.sender.n_bs;
  n_cs = setup.sender.n_cs;
  period = setup.period;
}

-- the two machines are those of the two channels
pub record AreMachinesOf (setup : Setup) (machines : Machines) : Type 0 where
  pub rx : machines.rx ≡ rx_set_of setup
  pub shape : machines.shape ≡ shape_of setup.source setup.receiver
  pub tx : machines.tx ≡ tx_set_of setup
  pub source : machines.source ≡ comes_to setup.receiver
  pub destination : machines.destination ≡ comes_to setup.sender
  pub cells : machines.cells ≡ setup.cells
  pub source_budget : machines.source_budget ≡ setup.source.budget
  pub destination_budget : machines.destination_budget ≡ setup.destination.budget
