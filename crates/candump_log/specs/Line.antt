-- What a line of a log gives to its reader (this project's own).
use Rattle.std.specs.Prelude.{ℕ, ◌-◌, Bool, ◌==◌, ◌&&◌, not, if◌then◌else◌, List, length, take, slice_index, Option, None, Some, Result, Ok, Err}
use Rattle.candump_line.specs.Reading.{line_of}
use Rattle.candump_line.specs.declared.fault.LineFault.{LineFault}
use Rattle.candump_line.specs.declared.line.Line.{Line}
use Rattle.candump_line.specs.declared.line.Line.TheVariants.{Frame, Passed, Empty}
use Rattle.candump_log.specs.Source.{Source}
use Rattle.candump_log.specs.declared.log.Stamped.{Stamped}

-- one carriage return at the end of a line is dropped
abbrev pub without_return : List ℕ → List ℕ
without_return piece = if slice_index piece (length piece - 1) == 13 then take (length piece - 1) piece else piece

-- the frame that a line lists; a bus without CAN FD passes over FD frames
abbrev pub listed : (fd : Bool) → Line → Option Stamped
listed fd (Frame at frame) = if frame.fd && not fd then None else Some (record { at = at; frame = frame })
listed fd Passed = None
listed fd Empty = None

-- a line that has a fault is refused
abbrev pub taken_of : (fd : Bool) → Result Line LineFault → Result (Option Stamped) LineFault
taken_of fd (Ok line) = Ok (listed fd line)
taken_of fd (Err fault) = Err fault

-- the frame that a line, as it is cut from a log, gives
abbrev pub line_taken : (interface : List ℕ) → (fd : Bool) → (line : List ℕ) → Result (Option Stamped) LineFault
line_taken interface fd line = taken_of fd (line_of interface (without_return line))

-- what a line gives in a log
abbrev pub taken_by : Source → (line : List ℕ) → Result (Option Stamped) LineFault
taken_by source line = line_taken source.interface source.fd line
