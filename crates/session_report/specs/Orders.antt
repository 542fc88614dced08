-- What a report is: which numbers stand in its fields, and in which order its lines stand.
use Rattle.std.specs.Prelude.{◌≡◌, ℕ, zero, suc, ◌+◌, ◌^◌, ◌<◌, ◌≤◌, Bool, true, false, ◌&&◌, ◌||◌, not, ◌==◌, nat_lt, ◌⊎◌, Option, Some, None, Result, Err, List, [], ◌∷◌, length, All}
use Rattle.tick_clock.specs.declared.clock.Clock.{Clock}
use Rattle.hub_core.specs.declared.record.OpenedAt.{OpenedAt}
use Rattle.hub_core.specs.declared.record.SessionRecord.{SessionRecord}
use Rattle.hub_core.specs.declared.record.SessionResult.{SessionResult}
use Rattle.hub_core.specs.declared.record.SessionResult.TheVariants.{Overflow, WrongSn, NoRoom, RunEnd}
use Rattle.hub_core.specs.declared.record.DestRecord.{DestRecord}
use Rattle.hub_core.specs.declared.record.DestResult.{DestResult}
use Rattle.hub_core.specs.declared.record.DestResult.TheVariants.{InvalidFs, CsTimeout, RunEnd as SendRunEnd}
use Rattle.if_core.specs.declared.record.IfRecord.{IfRecord}
use Rattle.if_core.specs.declared.record.IfKind.{IfKind}
use Rattle.if_core.specs.declared.record.IfKind.TheVariants.{Sent, Boxed, Flushed, Refused, Left}
use Rattle.session_report.specs.Lines.{clock_before, lines_before, lines_of, report_text, version_before}
use Rattle.session_report.specs.declared.line.Line.{Line}
use Rattle.session_report.specs.declared.line.Line.TheVariants.{Session, Dest, Interface, Move, Pool}
use Rattle.session_report.specs.declared.report.GroupMove.{GroupMove}
use Rattle.session_report.specs.declared.report.GroupPool.{GroupPool}
use Rattle.session_report.specs.declared.fault.ReportFault.{ReportFault}
use Rattle.session_report.specs.declared.fault.ReportFault.TheVariants.{Bad, Memory}
use Rattle.session_report.specs.declared.report.Report.{Report}

-- ---- the numbers

-- the numbers of an opening are of their fields' types
abbrev pub OpenedFits : Option OpenedAt → Type 0
OpenedFits None = Unit {0}
OpenedFits (Some o) = (o.seq < 2 ^ 32) × (o.buf.0 < 2 ^ 8) × (o.change < 2 ^ 32)

-- so are those of how a reception ended
abbrev pub SessionResultFits : SessionResult → Type 0
SessionResultFits (Overflow change free need) = (change < 2 ^ 32) × (free < 2 ^ 32) × (need < 2 ^ 64)
SessionResultFits (WrongSn want got) = (want < 2 ^ 8) × (got < 2 ^ 8)
SessionResultFits (NoRoom room need) = (room < 2 ^ 32) × (need < 2 ^ 32)
SessionResultFits (RunEnd wait since) = since.0 < 2 ^ 64
SessionResultFits result = Unit {0}

-- and of how a transmission ended
abbrev pub DestResultFits : DestResult → Type 0
DestResultFits (InvalidFs status) = status < 2 ^ 8
DestResultFits (CsTimeout seen) = seen < 2 ^ 32
DestResultFits (SendRunEnd wait since) = since.0 < 2 ^ 64
DestResultFits result = Unit {0}

-- of a session
pub record SessionFits (r : SessionRecord) : Type 0 where
  pub chan : r.chan.0 < 2 ^ 8
  pub n : r.n < 2 ^ 32
  pub len : r.len < 2 ^ 32
  pub begin : r.begin.0 < 2 ^ 64
  pub bytes : r.bytes < 2 ^ 32
  pub end : r.end.0 < 2 ^ 64
  pub opened : OpenedFits r.opened
  pub result : SessionResultFits r.result

-- of a destination
pub record DestFits (r : DestRecord) : Type 0 where
  pub path : r.path.0 < 2 ^ 8
  pub dest : r.dest.0 < 2 ^ 8
  pub seq : r.seq < 2 ^ 32
  pub begin : r.begin.0 < 2 ^ 64
  pub sent : r.sent < 2 ^ 32
  pub end : r.end.0 < 2 ^ 64
  pub result : DestResultFits r.result

-- refused units stand in version 2 alone
abbrev pub KindFits : (version : ℕ) → IfKind → Type 0
KindFits version Refused = version ≡ 2
KindFits version kind = Unit {0}

-- of units of an interface path, which are one at least
pub record InterfaceFits (version : ℕ) (r : IfRecord) : Type 0 where
  pub path : r.path.0 < 2 ^ 8
  pub to : r.to < 2 ^ 64
  pub some : r.from ≤ r.to
  pub kind : KindFits version r.kind

-- version 1 has the group 0 alone
pub record GroupFits (version group : ℕ) : Type 0 where
  pub small : group < 2 ^ 8
  pub alone : version ≡ 1 → group ≡ 0

-- of a move
pub record MoveFits (version : ℕ) (m : GroupMove) : Type 0 where
  pub group : GroupFits version m.group
  pub change : m.made.change < 2 ^ 32
  pub buf : m.made.buf.0 < 2 ^ 8

-- of a pool
pub record PoolFits (version : ℕ) (p : GroupPool) : Type 0 where
  pub group : GroupFits version p.group
  pub buffers : p.pool.buffers < 2 ^ 32
  pub changes : p.pool.changes < 2 ^ 32
  pub free : p.pool.free < 2 ^ 32

-- of a line
abbrev pub LineFits : (version : ℕ) → Line → Type 0
LineFits version (Session r) = SessionFits r
LineFits version (Dest r) = DestFits r
LineFits version (Interface r) = InterfaceFits version r
LineFits version (Move m) = MoveFits version m
LineFits version (Pool p) = PoolFits version p

-- of the clock, whose period isn't 0
pub record ClockFits (clock : Clock) : Type 0 where
  pub start : clock.start.0 < 2 ^ 64
  pub period : clock.period < 2 ^ 32

-- ---- the orders

-- sessions, destinations, interface paths, moves, pools
abbrev pub kind_of : Line → ℕ
kind_of (Session r) = 0
kind_of (Dest r) = 1
kind_of (Interface r) = 2
kind_of (Move m) = 3
kind_of (Pool p) = 4

-- what may stand first of its kind: the changes of a group count from 1, the pools are of the groups from 0 on
abbrev pub may_begin : Line → Bool
may_begin (Move m) = m.made.change == 1
may_begin (Pool p) = p.group == 0
may_begin line = true

-- whether the same became of units
abbrev pub same_kind : IfKind → IfKind → Bool
same_kind Sent Sent = true
same_kind Boxed Boxed = true
same_kind Flushed Flushed = true
same_kind Refused Refused = true
same_kind Left Left = true
same_kind a b = false

-- sessions stand by channel, then by number
abbrev pub session_goes_on : SessionRecord → SessionRecord → Bool
session_goes_on a b = nat_lt a.chan.0 b.chan.0 || (a.chan.0 == b.chan.0 && nat_lt a.n b.n)

-- destinations stand by path, then by destination, then by the session's number
abbrev pub dest_goes_on : DestRecord → DestRecord → Bool
dest_goes_on a b =
    nat_lt a.path.0 b.path.0
    || (a.path.0 == b.path.0 && (nat_lt a.dest.0 b.dest.0 || (a.dest.0 == b.dest.0 && nat_lt a.seq b.seq)))

-- units of interface paths stand by path, then by number; a run of one kind has one line
abbrev pub interface_goes_on : IfRecord → IfRecord → Bool
interface_goes_on a b =
    nat_lt a.path.0 b.path.0
    || (a.path.0 == b.path.0 && (nat_lt a.to b.from && not (a.to + 1 == b.from && same_kind a.kind b.kind)))

-- moves stand by group; in a group each is one change further
abbrev pub move_goes_on : GroupMove → GroupMove → Bool
move_goes_on a b =
    (a.group == b.group && a.made.change + 1 == b.made.change) || (nat_lt a.group b.group && b.made.change == 1)

-- what may stand after a line of its own kind
abbrev pub goes_on : Line → Line → Bool
goes_on (Session a) (Session b) = session_goes_on a b
goes_on (Dest a) (Dest b) = dest_goes_on a b
goes_on (Interface a) (Interface b) = interface_goes_on a b
goes_on (Move a) (Move b) = move_goes_on a b
goes_on (Pool a) (Pool b) = a.group + 1 == b.group
goes_on a b = false

-- whether a line may stand after another one; the first stands after the clock's line
abbrev pub follows : Option Line → Line → Bool
follows None line = may_begin line
follows (Some last) line = (nat_lt (kind_of last) (kind_of line) && may_begin line) || goes_on last line

-- each line has numbers that fit, and may stand after the one before it
unfoldable pub AreInOrder : (version : ℕ) → Option Line → List Line → Type 0
AreInOrder version last [] = Unit {0}
AreInOrder version last (line ∷ more) = LineFits version line × (follows last line ≡ true) × AreInOrder version (Some line) more

-- a version that there is
abbrev pub IsVersion : ℕ → Type 0
IsVersion version = (version ≡ 1) ⊎ (version ≡ 2)

-- what can be printed and read: a version that there is, and lines in their order
pub record IsReport (report : Report) : Type 0 where
  pub version : IsVersion report.version
  pub clock : ClockFits report.clock
  pub lines : AreInOrder report.version None (lines_of report)
  pub others : All (λ m. 0 < m.group) report.other_moves

-- ---- a text

-- the text is a report's
abbrev pub IsReportText : List ℕ → Type 0
IsReportText text = (report : Report) × IsReport report × (text ≡ report_text report)

-- the first line of the text is a report's, and rest stands after it
pub record HasVersion (text : List ℕ) (version : ℕ) (rest : List ℕ) : Type 0 where
  pub is : IsVersion version
  pub begins : text ≡ version_before version rest

-- so are the first two
pub record HasClock (text : List ℕ) (version : ℕ) (clock : Clock) (rest : List ℕ) : Type 0 where
  pub is : IsVersion version
  pub fits : ClockFits clock
  pub begins : text ≡ version_before version (clock_before clock rest)

-- so are the first two, and these after them
pub record HasFront (text : List ℕ) (version : ℕ) (clock : Clock) (lines : List Line) (rest : List ℕ) : Type 0 where
  pub is : IsVersion version
  pub fits : ClockFits clock
  pub in_order : AreInOrder version None lines
  pub begins : text ≡ version_before version (clock_before clock (lines_before version lines rest))

-- the text begins with so many lines of a report
abbrev pub HasLines : List ℕ → ℕ → Type 0
HasLines text zero = Unit {0}
HasLines text (suc zero) = (version : ℕ) × (rest : List ℕ) × HasVersion text version rest
HasLines text (suc (suc n)) =
    (version : ℕ) × (clock : Clock) × (lines : List Line) × (rest : List ℕ) × (length lines ≡ n)
    × HasFront text version clock lines rest

-- the first line, counted from 1, that can't stand where it stands: a report may begin with the lines before it, and none begins with
-- it and them. It is the line after the last one where the text ends too early
pub record IsFirstBad (text : List ℕ) (line : ℕ) : Type 0 where
  pub before : ℕ
  pub counted : line ≡ suc before
  pub stands : HasLines text before
  pub stuck : HasLines text line → ⊥
  pub no_report : IsReportText text → ⊥

-- a fault has its cause; want of memory has none
abbrev pub HasCause : List ℕ → ReportFault → Type 0
HasCause text Memory = Unit {0}
HasCause text (Bad line) = IsFirstBad text line

-- this was answered, unless memory was wanting
abbrev pub Answers : Result Report ReportFault → Result Report ReportFault → Type 0
Answers (Err Memory) answer = Unit {0}
Answers result answer = result ≡ answer
