-- The lines of a report (this project's own). Fields are parted by one space, each line ends with a line feed, and numbers are decimal
-- without leading zeros. The same spelling is printed and read.
use Rattle.std.specs.Prelude.{ℕ, ◌+◌, ◌/◌, ◌%◌, nat_lt, ◌==◌, Bool, if◌then◌else◌, Option, Some, None, List, [], ◌∷◌, ◌++◌, map, flat_map, decimal, codes}
use Rattle.std.specs.Int.{w32, to_be_bytes}
use Rattle.tick_clock.specs.declared.clock.Clock.{Clock}
use Rattle.hub_core.specs.declared.record.OpenedAt.{OpenedAt}
use Rattle.hub_core.specs.declared.record.SessionRecord.{SessionRecord}
use Rattle.hub_core.specs.declared.record.SessionResult.{SessionResult}
use Rattle.hub_core.specs.declared.record.SessionResult.TheVariants.{Whole, Overflow, WrongSn, RxTimeout, Restarted, NoRoom, WaitOver, NoReaders, Cancelled, RunEnd}
use Rattle.hub_core.specs.declared.record.RxLimit.{RxLimit}
use Rattle.hub_core.specs.declared.record.RxLimit.TheVariants.{Box, Cf}
use Rattle.hub_core.specs.declared.record.RxWait.{RxWait}
use Rattle.hub_core.specs.declared.record.RxWait.TheVariants.{Box as WaitsForBox, Room, Cf as WaitsForCf}
use Rattle.hub_core.specs.declared.record.DestRecord.{DestRecord}
use Rattle.hub_core.specs.declared.record.DestResult.{DestResult}
use Rattle.hub_core.specs.declared.record.DestResult.TheVariants.{Sent, SourceEnded, BsTimeout, FcOverflow, InvalidFs, CsTimeout, AsTimeout, Cancelled as SendCancelled, RunEnd as SendRunEnd}
use Rattle.hub_core.specs.declared.record.TxWait.{TxWait}
use Rattle.hub_core.specs.declared.record.TxWait.TheVariants.{Start, Turn, Fc, Gap, Bytes, Bus}
use Rattle.if_core.specs.declared.record.IfRecord.{IfRecord}
use Rattle.if_core.specs.declared.record.IfKind.{IfKind}
use Rattle.if_core.specs.declared.record.IfKind.TheVariants.{Sent as UnitSent, Boxed, Flushed, Refused, Left}
use Rattle.session_report.specs.declared.line.Line.{Line}
use Rattle.session_report.specs.declared.line.Line.TheVariants.{Session, Dest, Interface, Move, Pool}
use Rattle.session_report.specs.declared.report.GroupMove.{GroupMove}
use Rattle.session_report.specs.declared.report.GroupPool.{GroupPool}
use Rattle.session_report.specs.declared.report.Report.{Report}

-- the line of these fields, and what stands after it
abbrev pub line_before : List (List ℕ) → List ℕ → List ℕ
line_before [] rest = 10 ∷ rest
line_before (field ∷ []) rest = field ++ 10 ∷ rest
line_before (field ∷ next ∷ more) rest = field ++ 32 ∷ line_before (next ∷ more) rest

-- a hex digit in upper case
abbrev pub upper_digit : ℕ → ℕ
upper_digit digit = if nat_lt digit 10 then 48 + digit else 55 + digit

-- the two hex digits of a byte
abbrev pub byte_word : ℕ → List ℕ
byte_word byte = upper_digit (byte / 16) ∷ upper_digit (byte % 16) ∷ []

-- a free set: eight upper-case hex digits, bit i for the buffer i of its group
abbrev pub set_word : ℕ → List ℕ
set_word free = flat_map byte_word (to_be_bytes w32 free)

-- where a session was opened: its number on its path, its buffer, and the change that took the buffer
abbrev pub opened_word : Option OpenedAt → List ℕ
opened_word None = codes "-"
opened_word (Some opened) = decimal opened.seq ++ 47 ∷ (decimal opened.buf.0 ++ 47 ∷ decimal opened.change)

-- which time limit of a reception passed
abbrev pub rx_limit_word : RxLimit → List ℕ
rx_limit_word Box = codes "box"
rx_limit_word Cf = codes "cf"

-- what a reception waits for
abbrev pub rx_wait_word : RxWait → List ℕ
rx_wait_word WaitsForBox = codes "box"
rx_wait_word Room = codes "room"
rx_wait_word WaitsForCf = codes "cf"

-- what a transmission waits for
abbrev pub tx_wait_word : TxWait → List ℕ
tx_wait_word Start = codes "start"
tx_wait_word Turn = codes "turn"
tx_wait_word Fc = codes "fc"
tx_wait_word Gap = codes "gap"
tx_wait_word Bytes = codes "bytes"
tx_wait_word Bus = codes "bus"

-- how a reception ended
abbrev pub session_fields : SessionResult → List (List ℕ)
session_fields Whole = codes "whole" ∷ []
session_fields (Overflow change free need) = codes "overflow" ∷ decimal change ∷ set_word free ∷ decimal need ∷ []
session_fields (WrongSn want got) = codes "wrong-sn" ∷ decimal want ∷ decimal got ∷ []
session_fields (RxTimeout limit) = codes "rx-timeout" ∷ rx_limit_word limit ∷ []
session_fields Restarted = codes "restarted" ∷ []
session_fields (NoRoom room need) = codes "no-room" ∷ decimal room ∷ decimal need ∷ []
session_fields WaitOver = codes "wait-over" ∷ []
session_fields NoReaders = codes "no-readers" ∷ []
session_fields Cancelled = codes "cancelled" ∷ []
session_fields (RunEnd wait since) = codes "run-end" ∷ rx_wait_word wait ∷ decimal since.0 ∷ []

-- how a transmission ended
abbrev pub dest_fields : DestResult → List (List ℕ)
dest_fields Sent = codes "sent" ∷ []
dest_fields SourceEnded = codes "source-ended" ∷ []
dest_fields BsTimeout = codes "bs-timeout" ∷ []
dest_fields FcOverflow = codes "fc-overflow" ∷ []
dest_fields (InvalidFs status) = codes "invalid-fs" ∷ decimal status ∷ []
dest_fields (CsTimeout seen) = codes "cs-timeout" ∷ decimal seen ∷ []
dest_fields AsTimeout = codes "as-timeout" ∷ []
dest_fields SendCancelled = codes "cancelled" ∷ []
dest_fields (SendRunEnd wait since) = codes "run-end" ∷ tx_wait_word wait ∷ decimal since.0 ∷ []

-- what became of units of an interface path
abbrev pub kind_word : IfKind → List ℕ
kind_word UnitSent = codes "sent"
kind_word Boxed = codes "boxed"
kind_word Flushed = codes "flushed"
kind_word Refused = codes "refused"
kind_word Left = codes "left"

-- whether a buffer was taken or freed
abbrev pub deed_word : Bool → List ℕ
deed_word took = if took then codes "take" else codes "free"

-- a session: its channel, its number there, its length, the ticks and bytes of its reception, where it was opened, how it ended
abbrev pub session_line : SessionRecord → List (List ℕ)
session_line r =
    codes "session" ∷ decimal r.chan.0 ∷ decimal r.n ∷ decimal r.len ∷ decimal r.begin.0 ∷ decimal r.bytes ∷ decimal r.end.0
    ∷ opened_word r.opened ∷ session_fields r.result

-- a destination of a session: its path, its number there, the session's number, the ticks and bytes of its transmission, how it ended
abbrev pub dest_line : DestRecord → List (List ℕ)
dest_line r =
    codes "dest" ∷ decimal r.path.0 ∷ decimal r.dest.0 ∷ decimal r.seq ∷ decimal r.begin.0 ∷ decimal r.sent ∷ decimal r.end.0
    ∷ dest_fields r.result

-- units of an interface path: its number, the first and the last of them, and what became of them
abbrev pub interface_line : IfRecord → List (List ℕ)
interface_line r = codes "iface" ∷ decimal r.path.0 ∷ decimal r.from ∷ decimal r.to ∷ kind_word r.kind ∷ []

-- version 1 has one group and names none; from version 2 on a line names its group first
abbrev pub group_fields : (version group : ℕ) → List (List ℕ) → List (List ℕ)
group_fields version group more = if version == 1 then more else decimal group ∷ more

-- a move of a group's pool: its number, whether the buffer was taken or freed, the buffer
abbrev pub move_line : (version : ℕ) → GroupMove → List (List ℕ)
move_line version m =
    codes "move" ∷ group_fields version m.group (decimal m.made.change ∷ deed_word m.made.took ∷ decimal m.made.buf.0 ∷ [])

-- a group's pool at the end: how many buffers it has, how many changes there were, which buffers are free
abbrev pub pool_line : (version : ℕ) → GroupPool → List (List ℕ)
pool_line version p =
    codes "pool" ∷ group_fields version p.group (decimal p.pool.buffers ∷ decimal p.pool.changes ∷ set_word p.pool.free ∷ [])

-- a line of a report after its first two
abbrev pub fields_of : (version : ℕ) → Line → List (List ℕ)
fields_of version (Session r) = session_line r
fields_of version (Dest r) = dest_line r
fields_of version (Interface r) = interface_line r
fields_of version (Move m) = move_line version m
fields_of version (Pool p) = pool_line version p

-- lines, and what stands after them
unfoldable pub lines_before : (version : ℕ) → List Line → List ℕ → List ℕ
lines_before version [] rest = rest
lines_before version (line ∷ more) rest = line_before (fields_of version line) (lines_before version more rest)

-- the first line, and what stands after it: version 1 or version 2
abbrev pub version_before : (version : ℕ) → List ℕ → List ℕ
version_before version rest = line_before (codes "report" ∷ (if version == 1 then codes "1" else codes "2") ∷ []) rest

-- the second line, and what stands after it: the run's start in microseconds, and its period
abbrev pub clock_before : Clock → List ℕ → List ℕ
clock_before clock rest = line_before (codes "clock" ∷ decimal clock.start.0 ∷ decimal clock.period ∷ []) rest

-- the lines of a report after its first two, in their order
abbrev pub lines_of : Report → List Line
lines_of report =
    map Session report.sessions ++ (map Dest report.dests ++ (map Interface report.ifs
    ++ (map (λ m. Move (record { group = 0; made = m })) report.moves ++ (map Move report.other_moves
    ++ Pool (record { group = 0; pool = report.pool }) ∷ map Pool report.other_pools))))

-- the whole report
abbrev pub report_text : Report → List ℕ
report_text report = version_before report.version (clock_before report.clock (lines_before report.version (lines_of report) []))
