-- The text of each line by itself, as it is printed.
use Rattle.std.specs.Prelude.{ℕ, ◌==◌, if◌then◌else◌, List, [], ◌∷◌, ◌++◌, decimal}
use Rattle.hub_core.specs.declared.record.DestRecord.{DestRecord}
use Rattle.hub_core.specs.declared.record.Move.{Move}
use Rattle.hub_core.specs.declared.record.SessionRecord.{SessionRecord}
use Rattle.if_core.specs.declared.record.IfRecord.{IfRecord}
use Rattle.session_report.specs.Lines.{dest_line, interface_line, line_before, move_line, pool_line, session_line}
use Rattle.session_report.specs.declared.report.GroupMove.{GroupMove}
use Rattle.session_report.specs.declared.report.GroupPool.{GroupPool}

-- the line of a session
abbrev pub session_text : SessionRecord → List ℕ
session_text r = line_before (session_line r) []

-- the line of a destination
abbrev pub dest_text : DestRecord → List ℕ
dest_text r = line_before (dest_line r) []

-- the line of units of an interface path
abbrev pub interface_text : IfRecord → List ℕ
interface_text r = line_before (interface_line r) []

-- a line's group and the space after it, where the version names groups
abbrev pub group_text : (version group : ℕ) → List ℕ
group_text version group = if version == 1 then [] else decimal group ++ 32 ∷ []

-- the line of a move
abbrev pub move_text : (version : ℕ) → GroupMove → List ℕ
move_text version m = line_before (move_line version m) []

-- the line of a move of the first group
abbrev pub first_move_text : (version : ℕ) → Move → List ℕ
first_move_text version made = move_text version (record { group = 0; made = made })

-- the line of a pool
abbrev pub pool_text : (version : ℕ) → GroupPool → List ℕ
pool_text version p = line_before (pool_line version p) []
