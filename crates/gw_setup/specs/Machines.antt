-- How the machines of a channel are configured, by the entries of the configuration (this project's own).
use Rattle.std.specs.Prelude.{ℕ, length, nat_lt}
use Rattle.gw_base.specs.declared.numbers.ChanNo.{ChanNo}
use Rattle.gw_base.specs.declared.numbers.DestNo.{DestNo}
use Rattle.gw_base.specs.declared.numbers.PathNo.{PathNo}
use Rattle.gw_config.specs.Config.{BusEntry, ChannelEntry, PathEntry}
use Rattle.gw_law.specs.Channels.{bytes_of_address}
use Rattle.tp_receiver.specs.declared.set.RxSet.{RxSet}
use Rattle.tp_sender.specs.declared.set.TxSet.{TxSet}
use Rattle.tp_unit.specs.declared.shape.Shape.{Shape}
use Rattle.gw_setup.specs.Setup.{Bus}
use Rattle.gw_setup.specs.declared.address.Address.{Address}

-- what a run needs of a bus's keys
abbrev pub bus_of : BusEntry → Bus
bus_of keys = record { interface = keys.name; log = keys.log; out = keys.out; fd = keys.fd; brs = keys.brs; budget = keys.budget }

-- which frames come to a channel
abbrev pub comes_to : ChannelEntry → Address
comes_to channel = record { id = channel.rx; byte = channel.rx_address }

-- the shape of a channel's frames on its bus: FD frames where they may be longer than classic ones
abbrev pub shape_of : BusEntry → ChannelEntry → Shape
shape_of bus channel = record {
  id = channel.tx;
  fd = nat_lt 8 channel.dl;
  brs = bus.brs;
  address = channel.tx_address;
  dl = channel.dl;
  pad = channel.pad;
  fill = channel.fill;
}

-- how the receiver of a path is configured, whose source is this channel
abbrev pub rx_set_of : PathNo → ChanNo → PathEntry → ChannelEntry → RxSet
rx_set_of number chan path channel = record {
  chan = chan;
  path = number;
  group = record { 0 = path.group };
  readers = length path.to;
  a = bytes_of_address channel.rx_address;
  functional = channel.functional;
  bs = channel.bs;
  st = channel.stmin;
  wft_max = channel.wft_max;
  n_ar = channel.n_ar;
  n_br = channel.n_br;
  n_cr = channel.n_cr;
  threshold = path.threshold;
  store = path.store;
}

-- how the sender of a path's destination is configured, which is this channel on this bus
abbrev pub tx_set_of : (period : ℕ) → PathNo → DestNo → PathEntry → BusEntry → ChannelEntry → TxSet
tx_set_of period number dest path bus channel = record {
  path = number;
  group = record { 0 = path.group };
  dest = dest;
  shape = shape_of bus channel;
  threshold = path.threshold;
  store = path.store;
  n_as = channel.n_as;
  n_bs = channel.n_bs;
  n_cs = channel.n_cs;
  period = period;
}
