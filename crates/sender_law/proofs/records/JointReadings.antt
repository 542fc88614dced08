-- What a view has of the readings that a destination's records tell: the destination left them, with what it saw and read.
use Rattle.std.proofs.Common.{◌≡◌, ◌≢◌, ℕ, ◌+◌, ◌<◌, ◌≤◌, Bool, true, false, Option, Some, None, List, [], ◌∷◌, ◌++◌, length, refl, ap, sym, ◌∙◌, arith, inl, inr}
use Rattle.tp_sender.specs.State.{Transmission}
use Rattle.tp_sender.specs.declared.transmission.Phase.{Phase}
use Rattle.tp_sender.specs.declared.transmission.Phase.TheVariants.{Start, Bytes, Box, Fc, Gap}
use Rattle.std.specs.Prelude.{slice_get}
use Rattle.std.specs.List.{AllByRecursion}
use Rattle.std.proofs.lemmas.Bool.{cases_eq}
use Rattle.std.proofs.lemmas.List.{length-append}
use Rattle.gw_base.specs.Cell.{counted}
use Rattle.hub_core.proofs.Growing.{length-change_at, slice_get-change_at, slice_get-pushed}
use Rattle.hub_core.specs.View.{Reading, change_at, reading_new}
use Rattle.hub_core.specs.declared.port.Seen.{Seen as Look}
use Rattle.hub_core.specs.declared.record.DestRecord.{DestRecord}
use Rattle.hub_core.specs.declared.record.DestResult.{DestResult}
use Rattle.hub_core.specs.declared.record.DestResult.TheVariants.{Sent, SourceEnded, BsTimeout, FcOverflow, InvalidFs, CsTimeout, AsTimeout, Cancelled, RunEnd as EndOfRun}
use Rattle.tp_sender.specs.Frame.{part_after}
use Rattle.tp_sender.specs.Table.{next_part}
use Rattle.tp_sender.specs.declared.set.TxSet.{TxSet}
use Rattle.hub_core.proofs.Changed.{Before, Has, Last, Pushed, has-last, has-more, other-place, pushed}
use Rattle.gw_base.proofs.Lists.{all-push, all-weaker, slice_get-more}

-- all that was seen is read, and it is fewer bytes than the next frame takes
pub record IsScant (set : TxSet) (sent : ℕ) (r : Reading) : Type 0 where
  pub all : r.seen ≡ length r.cells
  pub least : sent ≤ counted r.cells
  pub few : counted r.cells < sent + part_after set.shape r.len sent

-- what was seen last is too little for the next frame, or to begin with
pub data IsWant (set : TxSet) (sent : ℕ) (r : Reading) : Type 0 where
  WantsNext : IsScant set sent r → IsWant set sent r
  WantsStart : sent ≡ 0 → r.bytes ≢ r.len → (set.store ≡ false → r.seen < set.threshold) → IsWant set sent r

-- what a reading shows of each result; the run's end comes only once it is told
abbrev pub ShowsBy : TxSet → (ended : Bool) → (sent : ℕ) → Reading → DestResult → Type 0
ShowsBy set ended sent r Sent = (sent ≡ r.len) × (sent ≤ counted r.cells)
ShowsBy set ended sent r SourceEnded = (r.writer ≡ false) × IsWant set sent r
ShowsBy set ended sent r BsTimeout = Unit {0}
ShowsBy set ended sent r FcOverflow = Unit {0}
ShowsBy set ended sent r (InvalidFs status) = Unit {0}
ShowsBy set ended sent r (CsTimeout seen) = (r.bytes ≡ seen) × IsScant set sent r
ShowsBy set ended sent r AsTimeout = Unit {0}
ShowsBy set ended sent r Cancelled = Unit {0}
ShowsBy set ended sent r (EndOfRun wait since) = ended ≡ true

-- the reading of a record's session: its destination left
pub record IsParted (set : TxSet) (ended : Bool) (readings : List Reading) (told : DestRecord) : Type 0 where
  pub reading : Reading
  pub there : slice_get readings told.seq ≡ Some reading
  pub stands : reading.stands ≡ false
  pub shows : ShowsBy set ended told.sent reading told.result

-- the bytes that lie in the box
abbrev pub boxed : Phase → ℕ → ℕ
boxed Start part = 0
boxed Bytes part = 0
boxed Box part = part
boxed Fc part = 0
boxed (Gap until) part = 0

-- the reading of the session that is being sent: what was read left, lies in the box or is carried
pub record IsReading (set : TxSet) (readings : List Reading) (s : Transmission) (P : Reading → Type 0) : Type 0 where
  pub reading : Reading
  pub there : slice_get readings s.seq ≡ Some reading
  pub stands : reading.stands ≡ true
  pub len_is : reading.len ≡ s.len
  pub at_is : length reading.cells ≡ s.at
  pub held : s.sent + boxed s.phase (next_part set s) + length s.carried ≡ counted reading.cells
  pub early : s.phase ≡ Start → s.sent ≡ 0
  pub so : P reading

abbrev pub IsReadingBy : TxSet → List Reading → Option Transmission → (Reading → Type 0) → Type 0
IsReadingBy set readings None P = Unit {0}
IsReadingBy set readings (Some s) P = IsReading set readings s P

abbrev pub IsToldOf : ℕ → DestRecord → Type 0
IsToldOf seq told = told.seq ≡ seq

-- the destination's readings are those of its records and the one of the session that is being sent
pub record Reads (set : TxSet) (ended : Bool) (readings : List Reading) (records : List DestRecord) (next : ℕ) (live : Option Transmission) (P : Reading → Type 0) : Type 0 where
  pub number : length readings ≡ next
  pub told : AllByRecursion (IsParted set ended readings) records
  pub left : (k : ℕ) (r : Reading) → slice_get readings k ≡ Some r → r.stands ≡ false → Has (IsToldOf k) records
  pub going : IsReadingBy set readings live P

abbrev pub NoMore : Reading → Type 0
NoMore r = Unit {0}

-- what the last look showed
abbrev pub Looked : Look → Reading → Type 0
Looked look r = (r.seen ≡ look.cells) × (r.bytes ≡ look.bytes) × (r.writer ≡ look.writer)

stands-both : (r t : Reading) → r ≡ t → r.stands ≡ false → t.stands ≡ true → ⊥
stands-both r t same left stands = let no : false ≡ true = sym left ∙ ap (λ (x : Reading). x.stands) same ∙ stands in cc

-- the run's end is told
shows-ended : (set : TxSet) (ended : Bool) (sent : ℕ) (r : Reading) (how : DestResult) → ShowsBy set ended sent r how → ShowsBy set true sent r how
shows-ended set ended sent r Sent shows = shows
shows-ended set ended sent r SourceEnded shows = shows
shows-ended set ended sent r BsTimeout shows = shows
shows-ended set ended sent r FcOverflow shows = shows
shows-ended set ended sent r (InvalidFs status) shows = shows
shows-ended set ended sent r (CsTimeout seen) shows = shows
shows-ended set ended sent r AsTimeout shows = shows
shows-ended set ended sent r Cancelled shows = shows
shows-ended set ended sent r (EndOfRun wait since) shows = refl

pub reads-ended : (set : TxSet) (ended : Bool) (readings : List Reading) (records : List DestRecord) (next : ℕ) (live : Option Transmission) (P : Reading → Type 0) → Reads set ended readings records next live P → Reads set true readings records next live P
reads-ended set ended readings records next live P reads = record {
  number = reads.number;
  told = all-weaker (IsParted set ended readings) (IsParted set true readings) records (λ told is. record { reading = is.reading; there = is.there; stands = is.stands; shows = shows-ended set ended told.sent is.reading told.result is.shows }) reads.told;
  left = reads.left;
  going = reads.going;
}

-- a session is joined
joined-left : (records : List DestRecord) (readings : List Reading) (new : Reading) (k : ℕ) (r : Reading) → new.stands ≡ true → r.stands ≡ false → ((k : ℕ) (r : Reading) → slice_get readings k ≡ Some r → r.stands ≡ false → Has (IsToldOf k) records) →
    Pushed readings new k r → Has (IsToldOf k) records
joined-left records readings new k r stands left known (Before is) = known k r is left
joined-left records readings new k r stands left known (Last same) = absurd (stands-both r new same left stands)

pub reads-joined : (set : TxSet) (ended : Bool) (readings : List Reading) (records : List DestRecord) (next buf len : ℕ) (s : Transmission) → s.seq ≡ next → s.len ≡ len → s.at ≡ 0 → s.sent ≡ 0 → s.phase ≡ Start → s.carried ≡ [] →
    Reads set ended readings records next None NoMore → Reads set ended (readings ++ reading_new buf len ∷ []) records (next + 1) (Some s) NoMore
reads-joined set ended readings records next buf len s seq len_is at sent phase carried reads =
    let new : Reading = reading_new buf len in
    record {
      number = omega (arith, length-append readings (new ∷ []), reads.number);
      told = all-weaker (IsParted set ended readings) (IsParted set ended (readings ++ new ∷ [])) records
          (λ told is. record { reading = is.reading; there = slice_get-more readings (new ∷ []) told.seq is.reading is.there; stands = is.stands; shows = is.shows }) reads.told;
      left = λ k r is left. joined-left records readings new k r refl left reads.left (pushed k readings new r is);
      going = record {
        reading = new;
        there = slice_get-pushed readings new s.seq (reads.number ∙ sym seq);
        stands = refl;
        len_is = sym len_is;
        at_is = sym at;
        held = omega (arith, sent, ap (λ p. boxed p (next_part set s)) phase, ap length carried);
        early = λ is. sent;
        so = tt;
      };
    }

-- the reading changes
changed-told : (set : TxSet) (ended : Bool) (readings : List Reading) (s : Transmission) (P : Reading → Type 0) (change : Reading → Reading) (records : List DestRecord) → IsReading set readings s P → AllByRecursion (IsParted set ended readings) records →
    AllByRecursion (IsParted set ended (change_at s.seq change readings)) records
changed-told set ended readings s P change records going told =
    all-weaker (IsParted set ended readings) (IsParted set ended (change_at s.seq change readings)) records (λ told is. record {
      reading = is.reading;
      there = other-place told.seq s.seq change readings (λ same. stands-both is.reading going.reading (let both : Some is.reading ≡ Some going.reading = sym is.there ∙ ap (slice_get readings) same ∙ going.there in cc) is.stands going.stands) ∙ is.there;
      stands = is.stands;
      shows = is.shows;
    }) told

pub reads-changed : (set : TxSet) (ended : Bool) (readings : List Reading) (records : List DestRecord) (next : ℕ) (s t : Transmission) (P Q : Reading → Type 0) (change : Reading → Reading) → t.seq ≡ s.seq → t.len ≡ s.len → ((r : Reading) → (change r).stands ≡ r.stands) →
    ((r : Reading) → (change r).len ≡ r.len) → ((r : Reading) → length r.cells ≡ s.at → length (change r).cells ≡ t.at) →
    ((r : Reading) → s.sent + boxed s.phase (next_part set s) + length s.carried ≡ counted r.cells → t.sent + boxed t.phase (next_part set t) + length t.carried ≡ counted (change r).cells) → ((s.phase ≡ Start → s.sent ≡ 0) → t.phase ≡ Start → t.sent ≡ 0) → ((r : Reading) → P r → Q (change r)) →
    Reads set ended readings records next (Some s) P → Reads set ended (change_at s.seq change readings) records next (Some t) Q
reads-changed set ended readings records next s t P Q change seq len_is keeps lens ats helds starts on reads =
    let r : Reading = reads.going.reading in
    record {
      number = length-change_at s.seq change readings ∙ reads.number;
      told = changed-told set ended readings s P change records reads.going reads.told;
      left = λ k x is left. elim (cases_eq k s.seq) [
        | inl same ↦ absurd (stands-both x (change r) (let both : Some x ≡ Some (change r) = sym is ∙ ap (slice_get (change_at s.seq change readings)) same ∙ slice_get-change_at s.seq change readings r reads.going.there in cc) left (keeps r ∙ reads.going.stands))
        | inr ne ↦ reads.left k x (sym (other-place k s.seq change readings ne) ∙ is) left
      ];
      going = record {
        reading = change r;
        there = ap (slice_get (change_at s.seq change readings)) seq ∙ slice_get-change_at s.seq change readings r reads.going.there;
        stands = keeps r ∙ reads.going.stands;
        len_is = lens r ∙ reads.going.len_is ∙ sym len_is;
        at_is = ats r reads.going.at_is;
        held = helds r reads.going.held;
        early = starts reads.going.early;
        so = on r reads.going.so;
      };
    }

-- the session goes on as another one of the same reading
pub reads-like : (set : TxSet) (ended : Bool) (readings : List Reading) (records : List DestRecord) (next : ℕ) (s t : Transmission) (P Q : Reading → Type 0) → t.seq ≡ s.seq → t.len ≡ s.len → t.at ≡ s.at →
    t.sent + boxed t.phase (next_part set t) + length t.carried ≡ s.sent + boxed s.phase (next_part set s) + length s.carried → ((s.phase ≡ Start → s.sent ≡ 0) → t.phase ≡ Start → t.sent ≡ 0) → ((r : Reading) → P r → Q r) →
    Reads set ended readings records next (Some s) P → Reads set ended readings records next (Some t) Q
reads-like set ended readings records next s t P Q seq len_is at held starts on reads = record {
  number = reads.number;
  told = reads.told;
  left = reads.left;
  going = record {
    reading = reads.going.reading;
    there = ap (slice_get readings) seq ∙ reads.going.there;
    stands = reads.going.stands;
    len_is = reads.going.len_is ∙ sym len_is;
    at_is = reads.going.at_is ∙ sym at;
    held = held ∙ reads.going.held;
    early = starts reads.going.early;
    so = on reads.going.reading reads.going.so;
  };
}

-- the destination leaves, and it is told
pub reads-parted : (set : TxSet) (ended : Bool) (readings : List Reading) (records : List DestRecord) (next : ℕ) (s : Transmission) (P : Reading → Type 0) (told : DestRecord) → told.seq ≡ s.seq →
    ((r : Reading) → r.len ≡ s.len → length r.cells ≡ s.at → s.sent + boxed s.phase (next_part set s) + length s.carried ≡ counted r.cells → (s.phase ≡ Start → s.sent ≡ 0) → P r → ShowsBy set ended told.sent (record r { stands = false }) told.result) →
    Reads set ended readings records next (Some s) P → Reads set ended (change_at s.seq (λ r. record r { stands = false }) readings) (records ++ told ∷ []) next None NoMore
reads-parted set ended readings records next s P told seq shows reads =
    let change : Reading → Reading = λ r. record r { stands = false } in
    let r : Reading = reads.going.reading in
    record {
      number = length-change_at s.seq change readings ∙ reads.number;
      told = all-push (IsParted set ended (change_at s.seq change readings)) records told (changed-told set ended readings s P change records reads.going reads.told) (record {
        reading = change r;
        there = ap (slice_get (change_at s.seq change readings)) seq ∙ slice_get-change_at s.seq change readings r reads.going.there;
        stands = refl;
        shows = shows r reads.going.len_is reads.going.at_is reads.going.held reads.going.early reads.going.so;
      });
      left = λ k x is left. elim (cases_eq k s.seq) [
        | inl same ↦ has-last (IsToldOf k) records told (seq ∙ sym same)
        | inr ne ↦ has-more (IsToldOf k) records (told ∷ []) (reads.left k x (sym (other-place k s.seq change readings ne) ∙ is) left)
      ];
      going = tt;
    }
