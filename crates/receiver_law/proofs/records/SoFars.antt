-- What a receiver's records say so far, and that what changes nothing of them leaves it.
use Rattle.std.proofs.Common.{◌≡◌, ℕ, ◌+◌, ◌<◌, ◌≤◌, false, Some, None, List, [], ◌∷◌, ◌++◌, length, map, sym, ◌∙◌, subst, arith}
use Rattle.tp_receiver.specs.State.{Reception}
use Rattle.std.specs.List.{AllByRecursion, AllZip}
use Rattle.hub_core.specs.View.{Event}
use Rattle.hub_core.specs.declared.record.OpenedAt.{OpenedAt}
use Rattle.hub_core.specs.declared.record.SessionRecord.{SessionRecord}
use Rattle.tp_attempts.specs.Attempts.{attempts_in}
use Rattle.tp_attempts.specs.Cuts.{Cut}
use Rattle.tp_attempts.specs.Seen.{Seen, is_start, len_of}
use Rattle.tp_attempts.specs.Walk.{Piece, due_number, look, walk_of, reassembled}
use Rattle.tp_attempts.proofs.Cuts.{cuts-grow, cuts-more}
use Rattle.tp_attempts.proofs.Walks.{walk_of-more}
use Rattle.tp_receiver.specs.declared.set.RxSet.{RxSet}
use Rattle.receiver_law.specs.Source.{CountsFrom, sessions_in}
use Rattle.receiver_law.proofs.sessions.Stores.{store}
use Rattle.receiver_law.proofs.records.Tellings.{TellsPut, with_frame, zip-grow, zip-stored}
use Rattle.gw_base.proofs.Lists.{all-weaker}

-- a record ended by that tick, and its session is one of the first ones
pub record IsOver (now seq : ℕ) (told : SessionRecord) : Type 0 where
  pub ended : told.end.0 ≤ now
  pub below : (opened : OpenedAt) → told.opened ≡ Some opened → opened.seq < seq

-- the records of the attempts whose receptions are over
pub record AreTold (set : RxSet) (calls : List Event) (now : ℕ) (attempts : List (Cut Seen)) (records : List SessionRecord) : Type 0 where
  pub tells : AllZip (TellsPut set.chan.0 set.a (store set.path.0 calls)) attempts records
  pub numbers : CountsFrom 0 (map (λ (told : SessionRecord). told.n) records)
  pub sessions : CountsFrom 0 (sessions_in records)
  pub over : AllByRecursion (IsOver now (length (sessions_in records))) records

-- no reception is in progress
pub record IsIdle (set : RxSet) (next seq : ℕ) (calls : List Event) (now : ℕ) (seen : List Seen) (records : List SessionRecord) : Type 0 where
  pub told : AreTold set calls now (attempts_in set.functional seen) records
  pub next_is : next ≡ length records
  pub seq_is : seq ≡ length (sessions_in records)
  pub fresh : (number : ℕ) → seq ≤ number → store set.path.0 calls number ≡ []

-- a reception is what its attempt has so far
pub record IsUnderway (set : RxSet) (busy : Reception) (calls : List Event) (now : ℕ) (attempt : Cut Seen) : Type 0 where
  pub len : busy.len ≡ len_of attempt.start.meaning
  pub begin : busy.begin ≡ attempt.start.at
  pub by : busy.begin ≤ now
  pub size : busy.size ≡ (walk_of set.a attempt).size
  pub bytes : busy.bytes ≡ length (reassembled set.a attempt)
  pub number : busy.number ≡ due_number (walk_of set.a attempt)
  pub right : (walk_of set.a attempt).wrong ≡ None
  pub early : AllByRecursion (λ (piece : Piece). piece.at ≤ now) (walk_of set.a attempt).pieces
  pub puts : store set.path.0 calls busy.opened.seq ≡ reassembled set.a attempt

-- a reception is in progress
pub record IsBusy (set : RxSet) (next seq : ℕ) (busy : Reception) (calls : List Event) (now : ℕ) (seen : List Seen) (records : List SessionRecord) : Type 0 where
  pub earlier : List (Cut Seen)
  pub attempt : Cut Seen
  pub cut : attempts_in set.functional seen ≡ earlier ++ attempt ∷ []
  pub told : AreTold set calls now earlier records
  pub n_is : busy.n ≡ length records
  pub next_is : next ≡ length records + 1
  pub at_is : busy.opened.seq ≡ length (sessions_in records)
  pub seq_is : seq ≡ length (sessions_in records) + 1
  pub fresh : (number : ℕ) → seq ≤ number → store set.path.0 calls number ≡ []
  pub underway : IsUnderway set busy calls now attempt

-- calls that put nothing
abbrev pub Same : ℕ → List Event → List Event → Type 0
Same path old new = (number : ℕ) → store path new number ≡ store path old number

-- the store of the sessions told stays, and time passes
pub told-later : (set : RxSet) (old new : List Event) (before now : ℕ) (attempts : List (Cut Seen)) (records : List SessionRecord) → before ≤ now → ((number : ℕ) → number < length (sessions_in records) → store set.path.0 new number ≡ store set.path.0 old number) →
    AreTold set old before attempts records → AreTold set new now attempts records
told-later set old new before now attempts records later same told = record {
  tells = zip-stored set.chan.0 set.a (length (sessions_in records)) (store set.path.0 old) (store set.path.0 new) attempts records same (all-weaker (IsOver before (length (sessions_in records))) (λ (r : SessionRecord). (opened : OpenedAt) → r.opened ≡ Some opened → opened.seq < length (sessions_in records)) records (λ r over. over.below) told.over) told.tells;
  numbers = told.numbers;
  sessions = told.sessions;
  over = all-weaker (IsOver before (length (sessions_in records))) (IsOver now (length (sessions_in records))) records (λ r over. record { ended = omega (arith, over.ended, later); below = over.below }) told.over;
}

pub idle-later : (set : RxSet) (next seq : ℕ) (old new : List Event) (before now : ℕ) (seen : List Seen) (records : List SessionRecord) → before ≤ now → Same set.path.0 old new → IsIdle set next seq old before seen records → IsIdle set next seq new now seen records
idle-later set next seq old new before now seen records later same so = record {
  told = told-later set old new before now (attempts_in set.functional seen) records later (λ number below. same number) so.told;
  next_is = so.next_is;
  seq_is = so.seq_is;
  fresh = λ number above. same number ∙ so.fresh number above;
}

pub busy-later : (set : RxSet) (next seq : ℕ) (busy : Reception) (old new : List Event) (before now : ℕ) (seen : List Seen) (records : List SessionRecord) → before ≤ now → Same set.path.0 old new → IsBusy set next seq busy old before seen records → IsBusy set next seq busy new now seen records
busy-later set next seq busy old new before now seen records later same so = record {
  earlier = so.earlier;
  attempt = so.attempt;
  cut = so.cut;
  told = told-later set old new before now so.earlier records later (λ number below. same number) so.told;
  n_is = so.n_is;
  next_is = so.next_is;
  at_is = so.at_is;
  seq_is = so.seq_is;
  fresh = λ number above. same number ∙ so.fresh number above;
  underway = record {
    len = so.underway.len;
    begin = so.underway.begin;
    by = omega (arith, so.underway.by, later);
    size = so.underway.size;
    bytes = so.underway.bytes;
    number = so.underway.number;
    right = so.underway.right;
    early = all-weaker (λ (p : Piece). p.at ≤ before) (λ (p : Piece). p.at ≤ now) (walk_of set.a so.attempt).pieces (λ p early. omega (arith, early, later)) so.underway.early;
    puts = same busy.opened.seq ∙ so.underway.puts;
  };
}

-- a frame of this tick that is no start, where no reception is in progress
pub idle-other : (set : RxSet) (next seq : ℕ) (calls : List Event) (seen : List Seen) (records : List SessionRecord) (frame : Seen) → is_start set.functional frame.meaning ≡ false → IsIdle set next seq calls frame.at seen records →
    IsIdle set next seq calls frame.at (seen ++ frame ∷ []) records
idle-other set next seq calls seen records frame other so =
    let P : List (Cut Seen) → Type 0 = λ attempts. AreTold set calls frame.at attempts records in
    record {
      told = subst P (sym (cuts-grow (λ (s : Seen). is_start set.functional s.meaning) seen frame other)) (record {
        tells = zip-grow set.chan.0 set.a (store set.path.0 calls) frame (attempts_in set.functional seen) records (all-weaker (IsOver frame.at (length (sessions_in records))) (λ (r : SessionRecord). r.end.0 ≤ frame.at) records (λ r over. over.ended) so.told.over) so.told.tells;
        numbers = so.told.numbers;
        sessions = so.told.sessions;
        over = so.told.over;
      });
      next_is = so.next_is;
      seq_is = so.seq_is;
      fresh = so.fresh;
    }

-- a frame of this tick that is no start and that the attempt passes over
pub busy-passed : (set : RxSet) (next seq : ℕ) (busy : Reception) (calls : List Event) (seen : List Seen) (records : List SessionRecord) (frame : Seen) (so : IsBusy set next seq busy calls frame.at seen records) → is_start set.functional frame.meaning ≡ false →
    look set.a (walk_of set.a so.attempt) frame ≡ walk_of set.a so.attempt → IsBusy set next seq busy calls frame.at (seen ++ frame ∷ []) records
busy-passed set next seq busy calls seen records frame so other passed =
    let is : walk_of set.a (with_frame so.attempt frame) ≡ walk_of set.a so.attempt = walk_of-more set.a so.attempt frame ∙ passed in
    record {
      earlier = so.earlier;
      attempt = with_frame so.attempt frame;
      cut = cuts-more (λ (s : Seen). is_start set.functional s.meaning) seen frame so.earlier so.attempt other so.cut;
      told = so.told;
      n_is = so.n_is;
      next_is = so.next_is;
      at_is = so.at_is;
      seq_is = so.seq_is;
      fresh = so.fresh;
      underway = record {
        len = so.underway.len;
        begin = so.underway.begin;
        by = so.underway.by;
        size = rw is so.underway.size;
        bytes = rw is so.underway.bytes;
        number = rw is so.underway.number;
        right = rw is so.underway.right;
        early = rw is so.underway.early;
        puts = rw is so.underway.puts;
      };
    }
