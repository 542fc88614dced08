-- What stands at the front of a text, as the reader looks for it, field by field: a value and what stands after it, or nothing. What a
-- report is stands in Lines and Orders; that these find it, and nothing else, is proved.
use Rattle.std.specs.Prelude.{◌≡◌, ℕ, ◌+◌, ◌-◌, ◌*◌, ◌^◌, ◌<◌, ◌≤◌, Bool, true, false, ◌&&◌, ◌==◌, nat_le, nat_lt, if◌then◌else◌, Option, Some, None, List, [], ◌∷◌, ◌++◌, map, length, take, drop, codes, All, is_some}
use Rattle.std.specs.Int.{w32, from_be_bytes}
use Rattle.std.specs.Str.{bytes_eq}
use Rattle.hub_core.specs.declared.record.OpenedAt.{OpenedAt}
use Rattle.hub_core.specs.declared.record.SessionResult.{SessionResult}
use Rattle.hub_core.specs.declared.record.SessionResult.TheVariants.{Whole, Overflow, WrongSn, RxTimeout, Restarted, NoRoom, WaitOver, NoReaders, Cancelled, RunEnd}
use Rattle.hub_core.specs.declared.record.RxLimit.{RxLimit}
use Rattle.hub_core.specs.declared.record.RxLimit.TheVariants.{Box, Cf}
use Rattle.hub_core.specs.declared.record.RxWait.{RxWait}
use Rattle.hub_core.specs.declared.record.RxWait.TheVariants.{Box as WaitsForBox, Room, Cf as WaitsForCf}
use Rattle.hub_core.specs.declared.record.DestResult.{DestResult}
use Rattle.hub_core.specs.declared.record.DestResult.TheVariants.{Sent, SourceEnded, BsTimeout, FcOverflow, InvalidFs, CsTimeout, AsTimeout, Cancelled as SendCancelled, RunEnd as SendRunEnd}
use Rattle.hub_core.specs.declared.record.TxWait.{TxWait}
use Rattle.hub_core.specs.declared.record.TxWait.TheVariants.{Start, Turn, Fc, Gap, Bytes, Bus}
use Rattle.if_core.specs.declared.record.IfKind.{IfKind}
use Rattle.if_core.specs.declared.record.IfKind.TheVariants.{Sent as UnitSent, Boxed, Flushed, Refused, Left}
use Rattle.session_report.specs.declared.line.Line.{Line}
use Rattle.session_report.specs.declared.line.Line.TheVariants.{Session, Dest, Interface, Move, Pool}
use Rattle.session_report.specs.declared.report.GroupPool.{GroupPool}
use Rattle.session_report.specs.declared.report.PoolLine.{PoolLine}
use Rattle.session_report.specs.declared.parts.Parts.{Parts}
use Rattle.session_report.specs.declared.fault.ReportFault.{ReportFault}
use Rattle.session_report.specs.declared.fault.ReportFault.TheVariants.{Bad, Memory}
use Rattle.session_report.specs.Lines.{fields_of, line_before, lines_before}
use Rattle.session_report.specs.Orders.{AreInOrder, LineFits, follows}

-- what is looked for first, and then what goes on from it
infixl 10 ◌>>=◌
abbrev pub ◌>>=◌ : {A B : Type 0} → Option A → (A → Option B) → Option B
Some x >>= f = f x
None >>= f = None

-- the first of two that is there
infixl 8 ◌<|>◌
abbrev pub ◌<|>◌ : {A : Type 0} → Option A → Option A → Option A
Some x <|> other = Some x
None <|> other = other

-- what stands after the word
abbrev pub after_word : (word text : List ℕ) → Option (List ℕ)
after_word word text = if bytes_eq (take (length word) text) word then Some (drop (length word) text) else None

-- the value, where the word stands, and what stands after it
abbrev pub word_at : {A : Type 0} → (word : List ℕ) → A → (text : List ℕ) → Option (A × List ℕ)
word_at word value text = after_word word text >>= λ rest. Some (value, rest)

-- ---- numbers

abbrev pub is_decimal : ℕ → Bool
is_decimal byte = nat_le 48 byte && nat_le byte 57

-- the value of a decimal digit
abbrev pub digit_value : ℕ → Option ℕ
digit_value byte = if is_decimal byte then Some (byte - 48) else None

-- the number that the digits at the front write after those of another one
unfoldable pub digits_at : (front : ℕ) → List ℕ → ℕ × List ℕ
digits_at front [] = (front, [])
digits_at front (byte ∷ text) = if is_decimal byte then digits_at (front * 10 + (byte - 48)) text else (front, byte ∷ text)

-- the number, where it is below the limit
abbrev pub within : (limit : ℕ) → ℕ × List ℕ → Option (ℕ × List ℕ)
within limit found = if nat_lt found.0 limit then Some found else None

-- a number below the limit; a zero at the front is the number 0
unfoldable pub number_at : (limit : ℕ) → List ℕ → Option (ℕ × List ℕ)
number_at limit [] = None
number_at limit (byte ∷ text) =
    if byte == 48 then Some (0, text) else if is_decimal byte then within limit (digits_at (byte - 48) text) else None

-- a number and a byte after it
unfoldable pub number_then : (word : List ℕ) (limit : ℕ) → List ℕ → Option (ℕ × List ℕ)
number_then word limit text = do
  number ← number_at limit text
  rest ← after_word word number.1
  Some (number.0, rest)

-- a field that is a number, and the space after it
abbrev pub field_at : (limit : ℕ) → List ℕ → Option (ℕ × List ℕ)
field_at limit text = number_then (codes " ") limit text

-- the last field of a line, a number, and the line feed after it
abbrev pub last_at : (limit : ℕ) → List ℕ → Option (ℕ × List ℕ)
last_at limit text = number_then (codes "\n") limit text

-- ---- free sets

-- the value of an upper-case hex digit
abbrev pub upper_value : ℕ → Option ℕ
upper_value byte =
    if nat_le 48 byte && nat_le byte 57 then Some (byte - 48) else if nat_le 65 byte && nat_le byte 70 then Some (byte - 55) else None

-- the byte that two of them write
unfoldable pub byte_at : List ℕ → Option (ℕ × List ℕ)
byte_at [] = None
byte_at (high ∷ []) = None
byte_at (high ∷ low ∷ rest) = do
  h ← upper_value high
  l ← upper_value low
  Some (h * 16 + l, rest)

-- a free set
unfoldable pub set_at : List ℕ → Option (ℕ × List ℕ)
set_at text = do
  a ← byte_at text
  b ← byte_at a.1
  c ← byte_at b.1
  d ← byte_at c.1
  Some (from_be_bytes w32 (a.0 ∷ b.0 ∷ c.0 ∷ d.0 ∷ []), d.1)

-- ---- words and results, each with the space or the line feed after it

unfoldable pub opened_place_at : List ℕ → Option (Option OpenedAt × List ℕ)
opened_place_at text = do
  seq ← number_then (codes "/") (2 ^ 32) text
  buf ← number_then (codes "/") (2 ^ 8) seq.1
  change ← field_at (2 ^ 32) buf.1
  Some (Some (record { seq = seq.0; buf = record { 0 = buf.0 }; change = change.0 }), change.1)

unfoldable pub opened_at : List ℕ → Option (Option OpenedAt × List ℕ)
opened_at text = word_at (codes "- ") None text <|> opened_place_at text

unfoldable pub rx_limit_at : List ℕ → Option (RxLimit × List ℕ)
rx_limit_at text = word_at (codes "box\n") Box text <|> word_at (codes "cf\n") Cf text

unfoldable pub rx_wait_at : List ℕ → Option (RxWait × List ℕ)
rx_wait_at text = word_at (codes "box ") WaitsForBox text <|> word_at (codes "room ") Room text <|> word_at (codes "cf ") WaitsForCf text

unfoldable pub tx_wait_at : List ℕ → Option (TxWait × List ℕ)
tx_wait_at text =
    word_at (codes "start ") Start text <|> word_at (codes "turn ") Turn text <|> word_at (codes "fc ") Fc text
    <|> word_at (codes "gap ") Gap text <|> word_at (codes "bytes ") Bytes text <|> word_at (codes "bus ") Bus text

unfoldable pub overflow_at : List ℕ → Option (SessionResult × List ℕ)
overflow_at text = do
  rest ← after_word (codes "overflow ") text
  change ← field_at (2 ^ 32) rest
  free ← set_at change.1
  after ← after_word (codes " ") free.1
  need ← last_at (2 ^ 64) after
  Some (Overflow change.0 free.0 need.0, need.1)

unfoldable pub wrong_sn_at : List ℕ → Option (SessionResult × List ℕ)
wrong_sn_at text = do
  rest ← after_word (codes "wrong-sn ") text
  want ← field_at (2 ^ 8) rest
  got ← last_at (2 ^ 8) want.1
  Some (WrongSn want.0 got.0, got.1)

unfoldable pub rx_timeout_at : List ℕ → Option (SessionResult × List ℕ)
rx_timeout_at text = do
  rest ← after_word (codes "rx-timeout ") text
  limit ← rx_limit_at rest
  Some (RxTimeout limit.0, limit.1)

unfoldable pub no_room_at : List ℕ → Option (SessionResult × List ℕ)
no_room_at text = do
  rest ← after_word (codes "no-room ") text
  room ← field_at (2 ^ 32) rest
  need ← last_at (2 ^ 32) room.1
  Some (NoRoom room.0 need.0, need.1)

unfoldable pub rx_end_at : List ℕ → Option (SessionResult × List ℕ)
rx_end_at text = do
  rest ← after_word (codes "run-end ") text
  wait ← rx_wait_at rest
  since ← last_at (2 ^ 64) wait.1
  Some (RunEnd wait.0 (record { 0 = since.0 }), since.1)

-- an end without a number
unfoldable pub plain_session_at : List ℕ → Option (SessionResult × List ℕ)
plain_session_at text =
    word_at (codes "whole\n") Whole text <|> word_at (codes "restarted\n") Restarted text <|> word_at (codes "wait-over\n") WaitOver text
    <|> word_at (codes "no-readers\n") NoReaders text <|> word_at (codes "cancelled\n") Cancelled text

unfoldable pub session_result_at : List ℕ → Option (SessionResult × List ℕ)
session_result_at text =
    plain_session_at text <|> overflow_at text <|> wrong_sn_at text <|> rx_timeout_at text <|> no_room_at text <|> rx_end_at text

unfoldable pub invalid_fs_at : List ℕ → Option (DestResult × List ℕ)
invalid_fs_at text = do
  rest ← after_word (codes "invalid-fs ") text
  status ← last_at (2 ^ 8) rest
  Some (InvalidFs status.0, status.1)

unfoldable pub cs_timeout_at : List ℕ → Option (DestResult × List ℕ)
cs_timeout_at text = do
  rest ← after_word (codes "cs-timeout ") text
  seen ← last_at (2 ^ 32) rest
  Some (CsTimeout seen.0, seen.1)

unfoldable pub tx_end_at : List ℕ → Option (DestResult × List ℕ)
tx_end_at text = do
  rest ← after_word (codes "run-end ") text
  wait ← tx_wait_at rest
  since ← last_at (2 ^ 64) wait.1
  Some (SendRunEnd wait.0 (record { 0 = since.0 }), since.1)

-- an end without a number
unfoldable pub plain_dest_at : List ℕ → Option (DestResult × List ℕ)
plain_dest_at text =
    word_at (codes "sent\n") Sent text <|> word_at (codes "source-ended\n") SourceEnded text <|> word_at (codes "bs-timeout\n") BsTimeout text
    <|> word_at (codes "fc-overflow\n") FcOverflow text <|> word_at (codes "as-timeout\n") AsTimeout text <|> word_at (codes "cancelled\n") SendCancelled text

unfoldable pub dest_result_at : List ℕ → Option (DestResult × List ℕ)
dest_result_at text = plain_dest_at text <|> invalid_fs_at text <|> cs_timeout_at text <|> tx_end_at text

-- refused units stand in version 2 alone
unfoldable pub refused_at : (version : ℕ) → List ℕ → Option (IfKind × List ℕ)
refused_at version text = if version == 1 then None else word_at (codes "refused\n") Refused text

unfoldable pub kind_at : (version : ℕ) → List ℕ → Option (IfKind × List ℕ)
kind_at version text =
    word_at (codes "sent\n") UnitSent text <|> word_at (codes "boxed\n") Boxed text <|> word_at (codes "flushed\n") Flushed text
    <|> word_at (codes "left\n") Left text <|> refused_at version text

unfoldable pub deed_at : List ℕ → Option (Bool × List ℕ)
deed_at text = word_at (codes "take ") true text <|> word_at (codes "free ") false text

-- a line's group, which version 1 doesn't name
unfoldable pub group_at : (version : ℕ) → List ℕ → Option (ℕ × List ℕ)
group_at version text = if version == 1 then Some (0, text) else field_at (2 ^ 8) text

-- ---- lines

unfoldable pub session_at : List ℕ → Option (Line × List ℕ)
session_at text = do
  rest ← after_word (codes "session ") text
  chan ← field_at (2 ^ 8) rest
  n ← field_at (2 ^ 32) chan.1
  len ← field_at (2 ^ 32) n.1
  begin ← field_at (2 ^ 64) len.1
  bytes ← field_at (2 ^ 32) begin.1
  end ← field_at (2 ^ 64) bytes.1
  opened ← opened_at end.1
  ended ← session_result_at opened.1
  Some (Session (record { chan = record { 0 = chan.0 }; n = n.0; len = len.0; begin = record { 0 = begin.0 }; bytes = bytes.0; end = record { 0 = end.0 }; opened = opened.0; result = ended.0 }), ended.1)

unfoldable pub dest_at : List ℕ → Option (Line × List ℕ)
dest_at text = do
  rest ← after_word (codes "dest ") text
  path ← field_at (2 ^ 8) rest
  dest ← field_at (2 ^ 8) path.1
  seq ← field_at (2 ^ 32) dest.1
  begin ← field_at (2 ^ 64) seq.1
  sent ← field_at (2 ^ 32) begin.1
  end ← field_at (2 ^ 64) sent.1
  ended ← dest_result_at end.1
  Some (Dest (record { path = record { 0 = path.0 }; dest = record { 0 = dest.0 }; seq = seq.0; begin = record { 0 = begin.0 }; sent = sent.0; end = record { 0 = end.0 }; result = ended.0 }), ended.1)

-- units of an interface path, one at least
unfoldable pub interface_at : (version : ℕ) → List ℕ → Option (Line × List ℕ)
interface_at version text = do
  rest ← after_word (codes "iface ") text
  path ← field_at (2 ^ 8) rest
  first ← field_at (2 ^ 64) path.1
  last ← field_at (2 ^ 64) first.1
  kind ← kind_at version last.1
  if nat_le first.0 last.0 then Some (Interface (record { path = record { 0 = path.0 }; from = first.0; to = last.0; kind = kind.0 }), kind.1) else None

unfoldable pub move_at : (version : ℕ) → List ℕ → Option (Line × List ℕ)
move_at version text = do
  rest ← after_word (codes "move ") text
  group ← group_at version rest
  change ← field_at (2 ^ 32) group.1
  took ← deed_at change.1
  buf ← last_at (2 ^ 8) took.1
  Some (Move (record { group = group.0; made = record { change = change.0; took = took.0; buf = record { 0 = buf.0 } } }), buf.1)

unfoldable pub pool_at : (version : ℕ) → List ℕ → Option (Line × List ℕ)
pool_at version text = do
  rest ← after_word (codes "pool ") text
  group ← group_at version rest
  buffers ← field_at (2 ^ 32) group.1
  changes ← field_at (2 ^ 32) buffers.1
  free ← set_at changes.1
  after ← after_word (codes "\n") free.1
  Some (Pool (record { group = group.0; pool = record { buffers = buffers.0; changes = changes.0; free = free.0 } }), after)

-- a line of a report after its first two
unfoldable pub line_at : (version : ℕ) → List ℕ → Option (Line × List ℕ)
line_at version text =
    session_at text <|> dest_at text <|> interface_at version text <|> move_at version text <|> pool_at version text

-- the first line
unfoldable pub version_at : List ℕ → Option (ℕ × List ℕ)
version_at text = word_at (codes "report 1\n") 1 text <|> word_at (codes "report 2\n") 2 text

-- the second line: a start, and a period that isn't 0
unfoldable pub clock_at : List ℕ → Option ((ℕ × ℕ) × List ℕ)
clock_at text = do
  rest ← after_word (codes "clock ") text
  start ← field_at (2 ^ 64) rest
  period ← last_at (2 ^ 32) start.1
  if period.0 == 0 then None else Some ((start.0, period.0), period.1)

-- ---- the lines after the first two

-- the last of these lines, or the one before them
abbrev pub last_from : Option Line → List Line → Option Line
last_from last [] = last
last_from last (line ∷ more) = last_from (Some line) more

-- the pool lines that the parts hold
abbrev pub pools_in : Option PoolLine → List GroupPool → List Line
pools_in None others = map Pool others
pools_in (Some pool) others = Pool (record { group = 0; pool = pool }) ∷ map Pool others

-- the lines that the parts hold
abbrev pub lines_in : Parts → List Line
lines_in p =
    map Session p.sessions ++ (map Dest p.dests ++ (map Interface p.ifs
    ++ (map (λ m. Move (record { group = 0; made = m })) p.moves ++ (map Move p.other_moves ++ pools_in p.pool p.other_pools))))

-- no lines
abbrev pub no_parts : Parts
no_parts = record { sessions = []; dests = []; ifs = []; moves = []; pool = None; other_moves = []; other_pools = [] }

-- the parts with a line more
abbrev pub added : Parts → Line → Parts
added p (Session r) = record p { sessions = p.sessions ++ r ∷ [] }
added p (Dest r) = record p { dests = p.dests ++ r ∷ [] }
added p (Interface r) = record p { ifs = p.ifs ++ r ∷ [] }
added p (Move m) = if m.group == 0 then record p { moves = p.moves ++ m.made ∷ [] } else record p { other_moves = p.other_moves ++ m ∷ [] }
added p (Pool g) = if g.group == 0 then record p { pool = Some g.pool } else record p { other_pools = p.other_pools ++ g ∷ [] }

-- the place of a line's part, from 1 on; 0 is before all lines
abbrev pub place_of : Option Line → ℕ
place_of None = 0
place_of (Some (Session r)) = 1
place_of (Some (Dest r)) = 2
place_of (Some (Interface r)) = 3
place_of (Some (Move m)) = if m.group == 0 then 4 else 5
place_of (Some (Pool g)) = if g.group == 0 then 6 else 7

-- no part beyond the last line's has a line yet
pub record AreUpTo (parts : Parts) (place : ℕ) : Type 0 where
  pub dests : place < 2 → parts.dests ≡ []
  pub ifs : place < 3 → parts.ifs ≡ []
  pub moves : place < 4 → parts.moves ≡ []
  pub other_moves : place < 5 → parts.other_moves ≡ []
  pub no_pool : place < 6 → parts.pool ≡ None
  pub a_pool : 6 ≤ place → is_some parts.pool ≡ true
  pub other_pools : place < 7 → parts.other_pools ≡ []
  pub groups : All (λ m. 0 < m.group) parts.other_moves

-- the parts hold the lines of the text up to the rest
pub record AreRead (version : ℕ) (text : List ℕ) (parts : Parts) (last : Option Line) (rest : List ℕ) : Type 0 where
  pub in_order : AreInOrder version None (lines_in parts)
  pub begins : text ≡ lines_before version (lines_in parts) rest
  pub last_is : last_from None (lines_in parts) ≡ last
  pub up_to : AreUpTo parts (place_of last)

-- the parts hold the lines of the whole text, and a pool
abbrev pub AreAll : (version : ℕ) → List ℕ → Parts → Type 0
AreAll version text parts = (last : Option Line) × AreRead version text parts last [] × (is_some parts.pool ≡ true)

-- the line is the first that can't stand where it stands; two lines stand before the text
pub record StopsAt (version : ℕ) (text : List ℕ) (line : ℕ) : Type 0 where
  pub lines : List Line
  pub rest : List ℕ
  pub counted : line ≡ length lines + 3
  pub in_order : AreInOrder version None lines
  pub begins : text ≡ lines_before version lines rest
  pub stuck : (next : Line) (after : List ℕ) → LineFits version next → follows (last_from None lines) next ≡ true →
      rest ≡ line_before (fields_of version next) after → ⊥
  pub unfinished : rest ≡ [] → place_of (last_from None lines) < 6

-- the same of a fault; want of memory says nothing
abbrev pub StopsFor : (version : ℕ) → List ℕ → ReportFault → Type 0
StopsFor version text Memory = Unit {0}
StopsFor version text (Bad line) = StopsAt version text line
