-- What a receiver's calls and records say of its sessions: what is fixed of each as it is entered, and what became of each start's need.
use Rattle.std.proofs.Common.{◌≡◌, ℕ, ◌+◌, ◌<◌, Option, Some, None, option_map, if◌then◌else◌, List, [], ◌∷◌, ◌++◌, length, map, refl, ap, sym, ◌∙◌, arith, append-nil, append_assoc}
use Rattle.std.specs.Prelude.{option_to_list}
use Rattle.std.specs.List.{flat_map}
use Rattle.std.proofs.lemmas.List.{length-append, map-append}
use Rattle.std.proofs.lemmas.Grind.{flat_map-append}
use Rattle.hub_core.specs.View.{Event, Session, Took, Refused, Entered, Asked, Put, Published, Joining, Missed, Saw, Read, Closed, Parted}
use Rattle.hub_core.specs.declared.record.OpenedAt.{OpenedAt}
use Rattle.hub_core.specs.declared.record.SessionRecord.{SessionRecord}
use Rattle.hub_core.specs.declared.record.SessionResult.{SessionResult}
use Rattle.hub_core.specs.declared.record.SessionResult.TheVariants.{Whole, Overflow, WrongSn, RxTimeout, Restarted, NoRoom, WaitOver, NoReaders, Cancelled, RunEnd as EndOfRun}
use Rattle.tp_attempts.specs.Seen.{bytes_of, is_start, len_of}
use Rattle.tp_receiver.specs.Grant.{need_of}
use Rattle.tp_receiver.specs.Runs.{cell_in}
use Rattle.tp_receiver.specs.State.{Reception, RxEvent, Came, Timer, FcLeft, RunEnd, RxTurn}
use Rattle.tp_receiver.specs.declared.set.RxSet.{RxSet}
use Rattle.tp_unit.specs.Unit.{Meaning}
use Rattle.hub_core.proofs.Sides.{Fill, Side, added, fill-join, fill-none}

-- what is fixed of a session as it is entered: its length in bytes, its buffer, and the change that took the buffer
pub record Entry : Type 0 where
  pub len : ℕ
  pub change : ℕ
  pub buf : ℕ

abbrev pub entry_by : Event → List Entry
entry_by (Entered path seq buf number size len readers) = record { len = len; change = number; buf = buf } ∷ []
entry_by (Took group number buf size need) = []
entry_by (Refused group number free need) = []
entry_by (Asked path seq cells readers) = []
entry_by (Put path seq cell) = []
entry_by (Published path seq bytes) = []
entry_by (Joining path dest seq buf len) = []
entry_by (Missed group path dest seq) = []
entry_by (Saw path dest seq cells bytes writer) = []
entry_by (Read path dest seq cell) = []
entry_by (Closed path seq freed) = []
entry_by (Parted path dest seq freed) = []

-- the sessions of a path
abbrev pub writing : ℕ → Side Session Entry
writing path = record { items = λ v. v.sessions path; fixed = λ s. record { len = s.len; change = s.number; buf = s.buf }; cells = λ s. s.cells; fixed_by = entry_by; cells_by = cell_in path }

-- the sessions that were opened
abbrev pub entry_told : SessionRecord → OpenedAt → Entry
entry_told told opened = record { len = told.len; change = opened.change; buf = opened.buf.0 }

abbrev pub entry_in : SessionRecord → List Entry
entry_in told = option_to_list (option_map (entry_told told) told.opened)

abbrev pub entries_told : List SessionRecord → List Entry
entries_told records = flat_map entry_in records

abbrev pub entry_going : Option Reception → List Entry
entry_going None = []
entry_going (Some busy) = record { len = busy.len; change = busy.opened.change; buf = busy.opened.buf.0 } ∷ []

-- what became of a start's need: a buffer, or none
pub data Outcome : Type 0 where
  Granted : (change buf : ℕ) → Outcome
  Denied : (change free need : ℕ) → Outcome

abbrev pub outcome_by : Event → List Outcome
outcome_by (Took group number buf size need) = Granted number buf ∷ []
outcome_by (Refused group number free need) = Denied number free need ∷ []
outcome_by (Entered path seq buf number size len readers) = []
outcome_by (Asked path seq cells readers) = []
outcome_by (Put path seq cell) = []
outcome_by (Published path seq bytes) = []
outcome_by (Joining path dest seq buf len) = []
outcome_by (Missed group path dest seq) = []
outcome_by (Saw path dest seq cells bytes writer) = []
outcome_by (Read path dest seq cell) = []
outcome_by (Closed path seq freed) = []
outcome_by (Parted path dest seq freed) = []

-- the need, in cells, that a call asked for
abbrev pub need_by : Event → List ℕ
need_by (Took group number buf size need) = need ∷ []
need_by (Refused group number free need) = need ∷ []
need_by (Entered path seq buf number size len readers) = []
need_by (Asked path seq cells readers) = []
need_by (Put path seq cell) = []
need_by (Published path seq bytes) = []
need_by (Joining path dest seq buf len) = []
need_by (Missed group path dest seq) = []
need_by (Saw path dest seq cells bytes writer) = []
need_by (Read path dest seq cell) = []
need_by (Closed path seq freed) = []
need_by (Parted path dest seq freed) = []

abbrev pub denied_by : SessionResult → Outcome
denied_by Whole = Denied 0 0 0
denied_by (Overflow change free need) = Denied change free need
denied_by (WrongSn want got) = Denied 0 0 0
denied_by (RxTimeout limit) = Denied 0 0 0
denied_by Restarted = Denied 0 0 0
denied_by (NoRoom room need) = Denied 0 0 0
denied_by WaitOver = Denied 0 0 0
denied_by NoReaders = Denied 0 0 0
denied_by Cancelled = Denied 0 0 0
denied_by (EndOfRun wait since) = Denied 0 0 0

abbrev pub outcome_told : SessionResult → Option OpenedAt → Outcome
outcome_told result None = denied_by result
outcome_told result (Some opened) = Granted opened.change opened.buf.0

abbrev pub outcome_of : SessionRecord → Outcome
outcome_of told = outcome_told told.result told.opened

abbrev pub outcome_going : Option Reception → List Outcome
outcome_going None = []
outcome_going (Some busy) = Granted busy.opened.change busy.opened.buf.0 ∷ []

-- the need of a start that comes in a frame of so many bytes
abbrev pub need_at : RxSet → (size : ℕ) → Meaning → ℕ
need_at set size meaning = need_of set size (len_of meaning) (length (bytes_of meaning))

abbrev pub need_in : RxSet → RxEvent → List ℕ
need_in set (Came size meaning) = if is_start set.functional meaning then need_at set size meaning ∷ [] else []
need_in set Timer = []
need_in set FcLeft = []
need_in set RunEnd = []

abbrev pub needs_by : RxSet → List RxTurn → List ℕ
needs_by set [] = []
needs_by set (turn ∷ earlier) = needs_by set earlier ++ need_in set turn.event

-- the reception in progress is of one of the sessions
abbrev pub IsBelow : ℕ → Option Reception → Type 0
IsBelow n None = Unit {0}
IsBelow n (Some busy) = busy.opened.seq < n

-- calls of a receiver with so many sessions: they fill the path's sessions, each session is told or going on, and so is what
-- became of the needs of the starts
pub record Enters (path n : ℕ) (needs : List ℕ) (busy : Option Reception) (calls : List Event) (records : List SessionRecord) (m : ℕ) (new : Option Reception) : Type 0 where
  pub fill : Fill (writing path) n calls
  pub count : m ≡ n + added (writing path) calls
  pub entries : entry_going busy ++ flat_map entry_by calls ≡ entries_told records ++ entry_going new
  pub outcomes : outcome_going busy ++ flat_map outcome_by calls ≡ map outcome_of records ++ outcome_going new
  pub needs_are : flat_map need_by calls ≡ needs
  pub below : IsBelow m new

pub enters-none : (path n : ℕ) (busy : Option Reception) → IsBelow n busy → Enters path n [] busy [] [] n busy
enters-none path n busy below = record { fill = fill-none (writing path) n; count = omega arith; entries = append-nil (entry_going busy); outcomes = append-nil (outcome_going busy); needs_are = refl; below = below }

-- what was going on, and what is added, is told or going on
pub join-lists : {A : Type 0} (a b c x y told later : List A) → a ++ x ≡ told ++ b → b ++ y ≡ later ++ c → a ++ (x ++ y) ≡ (told ++ later) ++ c
join-lists a b c x y told later first second =
    sym (append_assoc a x y) ∙ ap (λ l. l ++ y) first ∙ append_assoc told b y ∙ ap (λ l. told ++ l) second ∙ sym (append_assoc told later c)

pub enters-join : (path n m k : ℕ) (needs after : List ℕ) (a b c : Option Reception) (calls more : List Event) (records later : List SessionRecord) → Enters path n needs a calls records m b → Enters path m after b more later k c → Enters path n (needs ++ after) a (calls ++ more) (records ++ later) k c
enters-join path n m k needs after a b c calls more records later first second = record {
  fill = fill-join (writing path) n m calls more first.count first.fill second.fill;
  count = omega (arith, first.count, second.count, ap length (flat_map-append entry_by calls more), length-append (flat_map entry_by calls) (flat_map entry_by more));
  entries = rw (flat_map-append entry_by calls more, flat_map-append entry_in records later) (join-lists (entry_going a) (entry_going b) (entry_going c) (flat_map entry_by calls) (flat_map entry_by more) (entries_told records) (entries_told later) first.entries second.entries);
  outcomes = rw (flat_map-append outcome_by calls more, map-append outcome_of records later) (join-lists (outcome_going a) (outcome_going b) (outcome_going c) (flat_map outcome_by calls) (flat_map outcome_by more) (map outcome_of records) (map outcome_of later) first.outcomes second.outcomes);
  needs_are = rw (flat_map-append need_by calls more, first.needs_are, second.needs_are) refl;
  below = second.below;
}
