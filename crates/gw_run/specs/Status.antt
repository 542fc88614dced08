-- The statuses of the top call: their codes, and what is said of each (this project's own).
use Rattle.std.specs.Prelude.{ℕ, Bool, true, false, List, ◌++◌, decimal, codes}
use Rattle.gw_run.specs.declared.status.Summary.{Summary}
use Rattle.gw_run.specs.declared.status.Form.{Form}
use Rattle.gw_run.specs.declared.status.Form.TheVariants.{Configuration}
use Rattle.gw_run.specs.declared.status.FileRole.{FileRole}
use Rattle.gw_run.specs.declared.status.FileRole.TheVariants.{Config, Log, Out, Report, Say}
use Rattle.candump_line.specs.Fault.{cause_text}
use Rattle.gw_settings.specs.Said.{fault_text}
use Rattle.route_check.specs.Texts.{conflict_text}
use Rattle.gw_run.specs.declared.status.ConfigCause.TheVariants.{Fault, Conflict}
use Rattle.gw_run.specs.declared.status.Which.{Which}
use Rattle.gw_run.specs.declared.status.Which.TheVariants.{ConfigBytes, Lines, Ticks}
use Rattle.gw_run.specs.declared.status.Status.{Status}
use Rattle.gw_run.specs.declared.status.Status.TheVariants.{Ok, Accepted, Usage, ConfigRefused, LogRefused, Unbuilt, ReadFault, WriteFault, Memory, Limit}

-- the number that the program exits with
abbrev pub code_of : Status → ℕ
code_of (Ok summary) = 0
code_of Accepted = 0
code_of Usage = 1
code_of (ConfigRefused cause) = 2
code_of (LogRefused bus line fault) = 3
code_of (ReadFault role) = 4
code_of (WriteFault role) = 5
code_of Memory = 6
code_of (Limit which value) = 7
code_of (Unbuilt form) = 9

-- the command was done to its end
abbrev pub is_done : Status → Bool
is_done (Ok summary) = true
is_done Accepted = true
is_done Usage = false
is_done (ConfigRefused cause) = false
is_done (LogRefused bus line fault) = false
is_done (ReadFault role) = false
is_done (WriteFault role) = false
is_done Memory = false
is_done (Limit which value) = false
is_done (Unbuilt form) = false

-- the numbers of a run, with spaces between them
abbrev pub summary_text : Summary → List ℕ
summary_text summary =
    decimal summary.sessions ++ codes " " ++ decimal summary.whole ++ codes " " ++ decimal summary.dests ++ codes " " ++ decimal summary.sent ++ codes " " ++ decimal summary.moves

-- what isn't built yet
abbrev pub form_text : Form → List ℕ
form_text Configuration = codes "configuration"

-- a file's role, with the number of its bus
abbrev pub role_text : FileRole → List ℕ
role_text Config = codes "config"
role_text (Log bus) = codes "log " ++ decimal bus.0
role_text (Out bus) = codes "out " ++ decimal bus.0
role_text Report = codes "report"
role_text Say = codes "say"

-- a count that has a limit
abbrev pub which_text : Which → List ℕ
which_text ConfigBytes = codes "config-bytes"
which_text Lines = codes "lines"
which_text Ticks = codes "ticks"

-- what is said of a status, without its line feed; the name is that of the bus that it speaks of
abbrev pub status_text : (name : List ℕ) → Status → List ℕ
status_text name (Ok summary) = codes "done " ++ summary_text summary
status_text name Accepted = codes "accepted"
status_text name Usage = codes "usage: gateway run CONFIG REPORT; gateway check CONFIG; gateway make SEED SIZE"
status_text name (ConfigRefused (Fault fault)) = codes "config " ++ fault_text fault
status_text name (ConfigRefused (Conflict conflict)) = codes "config: " ++ conflict_text conflict
status_text name (LogRefused bus line fault) = codes "log " ++ name ++ codes " line " ++ decimal line ++ codes " byte " ++ decimal fault.at ++ codes ": " ++ cause_text fault.kind
status_text name (ReadFault role) = codes "read " ++ role_text role
status_text name (WriteFault role) = codes "write " ++ role_text role
status_text name Memory = codes "memory"
status_text name (Limit which value) = codes "limit " ++ which_text which ++ codes " " ++ decimal value
status_text name (Unbuilt form) = codes "unbuilt " ++ form_text form
