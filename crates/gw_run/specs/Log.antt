-- The log of a bus of a run.
use Rattle.std.specs.Prelude.{ℕ, List}
use Rattle.candump_log.specs.Log.{IsTakenLog}
use Rattle.candump_log.specs.Source.{Source}
use Rattle.candump_log.specs.declared.log.Stamped.{Stamped}
use Rattle.gw_run.specs.Setup.{Bus}

-- where a bus's log is read from
abbrev pub source_of : Bus → Source
source_of bus = record { interface = bus.interface; file = bus.log; fd = bus.fd }

-- the content is a log of the bus of so many lines, all of them taken, with these frames
abbrev pub IsLogOfBus : Bus → (content : List ℕ) → (count : ℕ) → List Stamped → Type 0
IsLogOfBus bus content count frames = IsTakenLog (source_of bus) content count frames
