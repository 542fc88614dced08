-- What the records of a source channel say of the frames that came on it (ISO 15765-2, segmentation and reassembly).
use Rattle.std.specs.Prelude.{◌≡◌, ℕ, ◌<◌, ◌≤◌, ◌↔◌, Bool, true, false, Some, option_map, option_to_list, is_some, not, List, [], ◌++◌, length, map, take}
use Rattle.std.specs.List.{AllByRecursion, AllZip, flat_map}
pub use Rattle.hub_core.specs.Journal.{CountsFrom}
use Rattle.hub_core.specs.declared.record.OpenedAt.{OpenedAt}
use Rattle.hub_core.specs.declared.record.SessionRecord.{SessionRecord}
use Rattle.hub_core.specs.declared.record.SessionResult.{SessionResult}
use Rattle.hub_core.specs.declared.record.SessionResult.TheVariants.{Whole, Overflow, WrongSn, RxTimeout, Restarted, NoRoom, WaitOver, NoReaders, Cancelled, RunEnd}
use Rattle.tp_attempts.specs.Attempts.{attempts_in}
use Rattle.tp_attempts.specs.Cuts.{Cut}
use Rattle.tp_attempts.specs.Seen.{Seen, len_of}
use Rattle.tp_attempts.specs.Walk.{Piece, Wrong, joined, walk_of, reassembled}

-- no buffer was free
abbrev pub is_overflow : SessionResult → Bool
is_overflow Whole = false
is_overflow (Overflow change free need) = true
is_overflow (WrongSn want got) = false
is_overflow (RxTimeout limit) = false
is_overflow Restarted = false
is_overflow (NoRoom room need) = false
is_overflow WaitOver = false
is_overflow NoReaders = false
is_overflow Cancelled = false
is_overflow (RunEnd wait since) = false

-- the run's end ended it
abbrev pub is_run_end : SessionResult → Bool
is_run_end Whole = false
is_run_end (Overflow change free need) = false
is_run_end (WrongSn want got) = false
is_run_end (RxTimeout limit) = false
is_run_end Restarted = false
is_run_end (NoRoom room need) = false
is_run_end WaitOver = false
is_run_end NoReaders = false
is_run_end Cancelled = false
is_run_end (RunEnd wait since) = true

-- so many bytes are those of the start and of the first counted frames, the start's at least: all that stand below that tick are among
-- them, and none above it
pub record Covers (pieces : List Piece) (bytes end : ℕ) : Type 0 where
  pub first : List Piece
  pub rest : List Piece
  pub all : pieces ≡ first ++ rest
  pub some : 0 < length first
  pub sum : bytes ≡ length (joined first)
  pub none_above : AllByRecursion (λ (piece : Piece). piece.at ≤ end) first
  pub all_below : AllByRecursion (λ (piece : Piece). end ≤ piece.at) rest

-- what the record of an attempt says
pub record Tells (chan address : ℕ) (attempt : Cut Seen) (told : SessionRecord) : Type 0 where
  pub chan_is : told.chan.0 ≡ chan
  pub len : told.len ≡ len_of attempt.start.meaning
  pub begin : told.begin.0 ≡ attempt.start.at
  pub order : told.begin.0 ≤ told.end.0
  -- a session is opened exactly where no overflow is told, and an overflow has no bytes and takes no time
  pub opens : is_some told.opened ≡ not (is_overflow told.result)
  pub overflow : is_overflow told.result ≡ true → (told.bytes ≡ 0) × (told.end.0 ≡ told.begin.0)
  pub covers : is_overflow told.result ≡ false → Covers (walk_of address attempt).pieces told.bytes told.end.0
  pub whole : is_overflow told.result ≡ false → (told.result ≡ Whole) ↔ (told.bytes ≡ told.len)
  -- no more bytes are told than the attempt has
  pub within : told.bytes ≤ length (reassembled address attempt)
  -- a wrong number is told only where all counted frames are told and the next one has it in the tick of the end; and the end comes no later than the first wrong number
  pub wrong : (want got : ℕ) → told.result ≡ WrongSn want got →
      (told.bytes ≡ length (reassembled address attempt)) × ((walk_of address attempt).wrong ≡ Some (record { at = told.end.0; want = want; got = got }))
  pub none_passed : (wrong : Wrong) → (walk_of address attempt).wrong ≡ Some wrong → told.end.0 ≤ wrong.at

-- the numbers of the sessions that were opened
abbrev pub opened_by : SessionRecord → List ℕ
opened_by told = option_to_list (option_map (λ (opened : OpenedAt). opened.seq) told.opened)

abbrev pub sessions_in : List SessionRecord → List ℕ
sessions_in records = flat_map opened_by records

-- the records of a channel: numbered from 0, one for each start among its frames, and their sessions numbered from 0
pub record SourceLaw (chan address : ℕ) (functional : Bool) (seen : List Seen) (records : List SessionRecord) : Type 0 where
  pub numbered : CountsFrom 0 (map (λ (told : SessionRecord). told.n) records)
  pub sessions : CountsFrom 0 (sessions_in records)
  pub tells : AllZip (Tells chan address) (attempts_in functional seen) records

-- an attempt's first bytes, as many as its record tells, were put into its session; `stored` are the bytes of the session of a number
abbrev pub Puts : (address : ℕ) → (stored : ℕ → List ℕ) → Cut Seen → SessionRecord → Type 0
Puts address stored attempt told = (opened : OpenedAt) → told.opened ≡ Some opened → stored opened.seq ≡ take told.bytes (reassembled address attempt)

-- what was put into the sessions of a channel is what its records tell, and no other session has bytes
pub record StoredLaw (address : ℕ) (functional : Bool) (stored : ℕ → List ℕ) (seen : List Seen) (records : List SessionRecord) : Type 0 where
  pub puts : AllZip (Puts address stored) (attempts_in functional seen) records
  pub no_more : (seq : ℕ) → length (sessions_in records) ≤ seq → stored seq ≡ []
