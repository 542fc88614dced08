-- What a run takes from its configuration (this project's own).
use Rattle.std.specs.Prelude.{ℕ, Bool, List}
use Rattle.candump_log.specs.Source.{Source as LogOfBus}
use Rattle.route_table.specs.declared.entry.ChanEntry.{ChanEntry}
use Rattle.gw_setup.specs.declared.destination.Destination.{Destination}
use Rattle.gw_setup.specs.declared.source.Source.{Source}

-- a bus of a run: its interface's name in its log, its files, whether it has CAN FD, whether FD frames switch the bit rate there, and
-- the most frames that it sends in a tick
pub record Bus : Type 0 where
  pub interface : List ℕ
  pub log : List ℕ
  pub out : List ℕ
  pub fd : Bool
  pub brs : Bool
  pub budget : ℕ

-- where a bus's log is read from
abbrev pub log_of : Bus → LogOfBus
log_of bus = record { interface = bus.interface; file = bus.log; fd = bus.fd }

-- what a run takes from its configuration
pub record Setup : Type 0 where
  -- the buses, and the channels as the table of frames has them, each at its number
  pub buses : List Bus
  pub channels : List ChanEntry
  -- the receivers of the paths and the senders of their destinations, each in the order of their channels
  pub sources : List Source
  pub destinations : List Destination
  -- the cells of each buffer, group after group, and the number of buffers of each group
  pub cells : List ℕ
  pub counts : List ℕ
  -- a tick in microseconds, the ticks of a window, and the ticks that a run goes on after the last input frame
  pub period : ℕ
  pub window : ℕ
  pub linger : ℕ
