-- Which record a session has that a destination saw gone, and which record a destination has that its writer saw gone.
use Rattle.std.proofs.Common.{◌≡◌, ℕ, ◌+◌, ◌<◌, ◌≤◌, zero, suc, Bool, true, false, Option, Some, None, option_map, List, [], ◌∷◌, ◌++◌, length, refl, ap, sym, ◌∙◌, subst, arith, append-nil, append_assoc}
use Rattle.std.specs.Prelude.{option_to_list, slice_get}
use Rattle.std.specs.List.{AllByRecursion}
use Rattle.gw_base.proofs.Lists.{all-at, all-weaker, same-some}
use Rattle.hub_core.proofs.Changed.{Has, InFirst, InNext, has-more, joined}
use Rattle.hub_core.proofs.Turns.{happened-front, records-append}
use Rattle.hub_core.specs.Turns.{calls_by, came_by, now_of, records_by, state_after, turns_of}
use Rattle.hub_core.specs.View.{Reading, View, empty_view, grows}
use Rattle.hub_core.specs.declared.record.DestRecord.{DestRecord}
use Rattle.hub_core.specs.declared.record.DestResult.{DestResult}
use Rattle.hub_core.specs.declared.record.DestResult.TheVariants.{Sent, SourceEnded, BsTimeout, FcOverflow, InvalidFs, CsTimeout, AsTimeout, Cancelled, RunEnd}
use Rattle.hub_core.specs.declared.record.OpenedAt.{OpenedAt}
use Rattle.hub_core.specs.declared.record.SessionRecord.{SessionRecord}
use Rattle.hub_core.specs.declared.record.SessionResult.TheVariants.{NoReaders}
use Rattle.receiver_law.proofs.records.JointReceivers.{known-sessions}
use Rattle.receiver_law.proofs.records.JointSessions.{IsLeft, IsOpenedAs}
use Rattle.receiver_law.proofs.records.SoFars.{IsOver}
use Rattle.receiver_law.proofs.records.SourceLaws.{HoldsBy, holds}
use Rattle.receiver_law.specs.Source.{CountsFrom, sessions_in}
use Rattle.sender_law.proofs.TxParts.{parts-front}
use Rattle.sender_law.proofs.records.JointReadings.{IsParted, ShowsBy}
use Rattle.sender_law.proofs.records.JointSenders.{has_ended, known-readings}
use Rattle.sender_law.proofs.records.Origins.{InTicks}
use Rattle.sender_law.specs.Runs.{AreTxParts}
use Rattle.tp_receiver.specs.Runs.{HasReceived, frames_in}
use Rattle.tp_receiver.specs.State.{Reception, RxTurn, rx_new}
use Rattle.tp_receiver.specs.declared.set.RxSet.{RxSet}
use Rattle.tp_sender.specs.Runs.{HasSent}
use Rattle.tp_sender.specs.State.{TxTurn}
use Rattle.tp_sender.specs.declared.set.TxSet.{TxSet}
use Rattle.gw_law.specs.Deeds.{before}
use Rattle.gw_law.proofs.causes.JointTicks.{moments-told, turns-told}
use Rattle.gw_law.proofs.runs.Barriers.{Barrier, barrier}
use Rattle.gw_law.proofs.runs.Before.{Cut, cut, timed-front, turns-append, turns-in}
use Rattle.gw_law.proofs.runs.Fronts.{TurnIn}
use Rattle.gw_law.proofs.runs.Meetings.{AsFar}
use Rattle.gw_law.proofs.runs.Moments.{Moment, Whole, moment, received, sent}
use Rattle.gw_law.proofs.runs.Parts.{parts-go, rx-rising, rx-timed, tx-rising, tx-timed}

-- numbers that count up stand once
counts-none : (first : ℕ) (opened : Option OpenedAt) (rest : List ℕ) (o : OpenedAt) → opened ≡ Some o → CountsFrom first (option_to_list (option_map (λ (x : OpenedAt). x.seq) opened) ++ rest) → (o.seq ≡ first) × CountsFrom (first + 1) rest
counts-none first None rest o is counts = cc
counts-none first (Some opened) rest o is counts = (let same : opened ≡ o = cc in sym (ap (λ (x : OpenedAt). x.seq) same) ∙ counts.0, counts.1)

counts-rest : (first : ℕ) (opened : Option OpenedAt) (rest : List ℕ) → CountsFrom first (option_to_list (option_map (λ (x : OpenedAt). x.seq) opened) ++ rest) → (k : ℕ) × (first ≤ k) × CountsFrom k rest
counts-rest first None rest counts = (first, omega arith, counts)
counts-rest first (Some opened) rest counts = (first + 1, omega arith, counts.1)

at-least : (first : ℕ) (records : List SessionRecord) (i : ℕ) (a : SessionRecord) (o : OpenedAt) → CountsFrom first (sessions_in records) → slice_get records i ≡ Some a → a.opened ≡ Some o → first ≤ o.seq
at-least first [] i a o counts is opened = cc
at-least first (told ∷ records) zero a o counts is opened =
    let same : told ≡ a = cc in
    omega (arith, (counts-none first told.opened (sessions_in records) o (ap (λ (t : SessionRecord). t.opened) same ∙ opened) counts).0)
at-least first (told ∷ records) (suc i) a o counts is opened =
    let rest = counts-rest first told.opened (sessions_in records) counts in
    omega (arith, rest.1, at-least rest.0 records i a o rest.2 is opened)

pub once : (first : ℕ) (records : List SessionRecord) (i j : ℕ) (a b : SessionRecord) (o p : OpenedAt) → CountsFrom first (sessions_in records) → slice_get records i ≡ Some a → slice_get records j ≡ Some b → a.opened ≡ Some o → b.opened ≡ Some p → o.seq ≡ p.seq → i ≡ j
once first [] i j a b o p counts is other opened also same = cc
once first (told ∷ records) zero zero a b o p counts is other opened also same = refl
once first (told ∷ records) zero (suc j) a b o p counts is other opened also same =
    let first_is : told ≡ a = cc in
    let rest = counts-none first told.opened (sessions_in records) o (ap (λ (t : SessionRecord). t.opened) first_is ∙ opened) counts in
    absurd (omega (arith, rest.0, same, at-least (first + 1) records j b p rest.1 other also))
once first (told ∷ records) (suc i) zero a b o p counts is other opened also same =
    let first_is : told ≡ b = cc in
    let rest = counts-none first told.opened (sessions_in records) p (ap (λ (t : SessionRecord). t.opened) first_is ∙ also) counts in
    absurd (omega (arith, rest.0, same, at-least (first + 1) records i a o rest.1 is opened))
once first (told ∷ records) (suc i) (suc j) a b o p counts is other opened also same =
    let rest = counts-rest first told.opened (sessions_in records) counts in
    ap suc (once rest.0 records i j a b o p rest.2 is other opened also same)

-- the sessions of a receiver's records are numbered from 0, and the records end by its last tick
sessions-by : (set : RxSet) (next seq now : ℕ) (busy : Option Reception) (turns : List RxTurn) (records : List SessionRecord) → HoldsBy set next seq busy (calls_by turns) now (came_by frames_in turns) records → CountsFrom 0 (sessions_in records) × AllByRecursion (IsOver now (length (sessions_in records))) records
sessions-by set next seq now None turns records so = (so.told.sessions, so.told.over)
sessions-by set next seq now (Some busy) turns records so = (so.0.told.sessions, so.0.told.over)

pub sessions-so : (set : RxSet) (turns : List RxTurn) → HasReceived set turns → CountsFrom 0 (sessions_in (records_by turns)) × AllByRecursion (IsOver (now_of turns) (length (sessions_in (records_by turns)))) (records_by turns)
sessions-so set turns happened = sessions-by set (state_after rx_new turns).next (state_after rx_new turns).seq (now_of turns) (state_after rx_new turns).busy turns (records_by turns) (holds set turns happened)

now-by : (P : ℕ → Type 0) (turns : List RxTurn) → P 0 → AllByRecursion (TurnIn P) turns → P (now_of turns)
now-by P [] none all = none
now-by P (turn ∷ turns) none all = all.0

-- a record that ends by a tick is among those of the turns up to then
pub in-front : {R : Type 0} (ends : R → ℕ) (past : ℕ) (front more whole : List R) (place : ℕ) (told : R) → whole ≡ front ++ more → AllByRecursion (λ (r : R). past < ends r) more → slice_get whole place ≡ Some told → ends told ≤ past → slice_get front place ≡ Some told
in-front {R = R} ends past front more whole place told is late there early = elim (joined front more place told (ap (λ l. slice_get l place) (sym is) ∙ there)) [
  | InFirst here ↦ here
  | InNext j after beyond ↦ absurd (omega (arith, early, all-at (λ (r : R). past < ends r) more j told late after))
]

-- a session whose writer a destination saw gone is told by then
source-gone : (rx : RxSet) (tx : TxSet) (turns : List RxTurn) (moments : List TxTurn) (v : View) (k : ℕ) (told : DestRecord) → AsFar rx tx turns moments v → slice_get (records_by moments) k ≡ Some told → told.result ≡ SourceEnded → Has (IsOpenedAs told.seq) (records_by turns)
source-gone rx tx turns moments v k told far is ended =
    let reads = known-readings tx moments far.sent in
    let parted : IsParted tx (has_ended moments) _ told = all-at (IsParted tx (has_ended moments) _) (records_by moments) k told reads.told is in
    let P : DestResult → Type 0 = λ how. ShowsBy tx (has_ended moments) told.sent parted.reading how in
    let gone : parted.reading.writer ≡ false = (subst P ended parted.shows).0 in
    let stream = far.met.streams.joined tx.path.0 tx.dest.0 told.seq parted.reading (ap (λ l. slice_get l told.seq) far.readings ∙ parted.there) in
    let session : slice_get ((grows (calls_by turns) empty_view).sessions rx.path.0) told.seq ≡ Some stream.0 =
    sym (ap (λ l. slice_get l told.seq) far.sessions) ∙ ap (λ (p : ℕ). slice_get (v.sessions p) told.seq) (sym (ap (λ p. p.0) far.path)) ∙ stream.1 in
    (known-sessions rx turns far.received).left told.seq stream.0 session (stream.2.gone gone).0

-- a destination that ended with its source: the session's record ended less than so many ticks later
abbrev pub IsOpenedBy : (most : ℕ) → DestRecord → SessionRecord → Type 0
IsOpenedBy most told session = IsOpenedAs told.seq session × (session.end.0 < told.end.0 + most)

pub source-ended : (o : Whole) (k : ℕ) (told : DestRecord) → slice_get (records_by (sent o)) k ≡ Some told → told.result ≡ SourceEnded → Has (IsOpenedBy o.pair.most told) (records_by (received o))
source-ended o k told is how =
    let rx : RxSet = o.pair.rx.set in
    let tx : TxSet = o.pair.tx.set in
    let m : Moment o told.end.0 = moment o told.end.0 in
    let H : List TxTurn → Type 0 = λ l. HasSent tx l in
    let R : List RxTurn → Type 0 = λ l. HasReceived rx l in
    let grown = moments-told (λ (t : ℕ). m.past < t) tx m.tx_later m.tx_front (subst H (sym m.tx_is) o.far.sent) m.tx_late in
    let here : slice_get (records_by m.tx_front) k ≡ Some told = in-front (λ (d : DestRecord). d.end.0) m.past (records_by m.tx_front) grown.more (records_by (sent o)) k told (ap records_by (sym m.tx_is) ∙ grown.is) grown.all is m.above in
    let has = source-gone rx tx m.rx_front m.tx_front m.view k told m.far here how in
    let now : now_of m.rx_front ≤ m.past = now-by (λ (t : ℕ). t ≤ m.past) m.rx_front (omega arith) m.rx_early in
    let over : IsOver _ _ has.item = all-at (IsOver _ _) (records_by m.rx_front) has.place has.item (sessions-so rx m.rx_front m.far.received).1 has.there in
    let past = turns-told (λ (t : ℕ). m.past < t) rx m.rx_later m.rx_front (subst R (sym m.rx_is) o.far.received) m.rx_late in
    let P : List SessionRecord → Type 0 = λ l. Has (IsOpenedBy o.pair.most told) l in
    subst P (sym (ap records_by (sym m.rx_is) ∙ past.is))
    (has-more (IsOpenedBy o.pair.most told) (records_by m.rx_front) past.more (record { place = has.place; item = has.item; there = has.there; holds = (has.holds, omega (arith, over.ended, now, m.near)) }))

-- a destination ended neither with its source nor with the run
abbrev pub IsOther : DestResult → Type 0
IsOther Sent = Unit {0}
IsOther SourceEnded = ⊥
IsOther BsTimeout = Unit {0}
IsOther FcOverflow = Unit {0}
IsOther (InvalidFs status) = Unit {0}
IsOther (CsTimeout seen) = Unit {0}
IsOther AsTimeout = Unit {0}
IsOther Cancelled = Unit {0}
IsOther (RunEnd wait since) = ⊥

is-other : (tx : TxSet) (ended : Bool) (sent : ℕ) (r : Reading) (how : DestResult) → ended ≡ false → r.writer ≡ true → ShowsBy tx ended sent r how → IsOther how
is-other tx ended sent r Sent none writes shows = tt
is-other tx ended sent r SourceEnded none writes shows = let no : false ≡ true = sym shows.0 ∙ writes in cc
is-other tx ended sent r BsTimeout none writes shows = tt
is-other tx ended sent r FcOverflow none writes shows = tt
is-other tx ended sent r (InvalidFs status) none writes shows = tt
is-other tx ended sent r (CsTimeout seen) none writes shows = tt
is-other tx ended sent r AsTimeout none writes shows = tt
is-other tx ended sent r Cancelled none writes shows = tt
is-other tx ended sent r (RunEnd wait since) none writes shows = let no : true ≡ false = sym shows ∙ none in cc

-- the destination's record of a session that no destination reads: it ended less than so many ticks later, by itself
pub record HasLeftBy (most : ℕ) (session : SessionRecord) (opened : OpenedAt) (told : DestRecord) : Type 0 where
  pub seq_is : told.seq ≡ opened.seq
  pub before : told.end.0 < session.end.0 + most
  pub other : IsOther told.result

-- at the barrier soon after the session's end
pub left-by : (o : Whole) (k : ℕ) (session : SessionRecord) (opened : OpenedAt) → o.pair.tx.set.dest.0 < o.pair.rx.set.readers → slice_get (records_by (turns_of o.pair.rx.parts)) k ≡ Some session → session.result ≡ NoReaders → session.opened ≡ Some opened →
    Has (HasLeftBy o.pair.most session opened) (records_by (sent o))
left-by o k session opened below is how opened_is =
    let rx : RxSet = o.pair.rx.set in
    let tx : TxSet = o.pair.tx.set in
    let b : Barrier o.pair session.end.0 = barrier o.pair session.end.0 in
    let rx_cut : Cut (b.past + 1) o.pair.rx.parts = cut (b.past + 1) o.pair.rx.parts (rx-rising o.pair.rx.full o.pair.rx.parts o.pair.rx_run.parts_are) in
    let tx_cut : Cut (b.past + 1) o.pair.tx.parts = cut (b.past + 1) o.pair.tx.parts (tx-rising o.pair.tx.full o.pair.tx.parts o.pair.tx_run.parts_are) in
    let turns : List RxTurn = turns_of (before (b.past + 1) o.pair.rx.parts) in
    let moments : List TxTurn = turns_of (before (b.past + 1) o.pair.tx.parts) in
    let R : List _ → Type 0 = λ l. AllByRecursion (λ part. AllByRecursion (λ turn. turn.did.tick ≡ part.tick) part.turns) l in
    let rx_timed = timed-front rx_cut.later (before (b.past + 1) o.pair.rx.parts) (subst R (sym rx_cut.is) (rx-timed o.pair.rx.full o.pair.rx.parts o.pair.rx_run.parts_are)) in
    let S : List _ → Type 0 = λ l. AllByRecursion (λ part. AllByRecursion (λ turn. turn.did.tick ≡ part.tick) part.turns) l in
    let tx_timed = timed-front tx_cut.later (before (b.past + 1) o.pair.tx.parts) (subst S (sym tx_cut.is) (tx-timed o.pair.tx.full o.pair.tx.parts o.pair.tx_run.parts_are)) in
    let rx_all : turns_of o.pair.rx.parts ≡ turns_of rx_cut.later ++ turns = ap turns_of (sym rx_cut.is) ∙ turns-append rx_cut.later (before (b.past + 1) o.pair.rx.parts) in
    let tx_all : turns_of o.pair.tx.parts ≡ turns_of tx_cut.later ++ moments = ap turns_of (sym tx_cut.is) ∙ turns-append tx_cut.later (before (b.past + 1) o.pair.tx.parts) in
    let H : List RxTurn → Type 0 = λ l. HasReceived rx l in
    let grown = turns-told (λ (t : ℕ). b.past + 1 ≤ t) rx (turns_of rx_cut.later) turns (subst H rx_all (happened-front _ o.pair.rx.end (turns_of o.pair.rx.parts) o.pair.rx_run.happened)) (turns-in (λ (t : ℕ). b.past + 1 ≤ t) rx_cut.later rx_timed.0 rx_cut.late) in
    let here : slice_get (records_by turns) k ≡ Some session =
    in-front (λ (s : SessionRecord). s.end.0) b.past (records_by turns) grown.more (records_by (turns_of o.pair.rx.parts)) k session (ap records_by rx_all ∙ grown.is) (all-weaker (λ (s : SessionRecord). b.past + 1 ≤ s.end.0) (λ (s : SessionRecord). b.past < s.end.0) grown.more (λ s le. omega (arith, le)) grown.all) is b.above in
    let known = known-sessions rx turns b.far.received in
    let left : IsLeft rx ((grows (calls_by turns) empty_view).sessions rx.path.0) session opened = all-at _ (records_by turns) k session known.told here opened opened_is in
    let path : tx.path.0 ≡ rx.path.0 = ap (λ p. p.0) b.far.path in
    let there : slice_get (b.view.sessions rx.path.0) opened.seq ≡ Some left.session = ap (λ l. slice_get l opened.seq) b.far.sessions ∙ left.there in
    let gone = b.far.met.no_readers rx.path.0 opened.seq left.session there (left.none how) tx.dest.0 (omega (arith, below, left.put.dests)) in
    let reads = known-readings tx moments b.far.sent in
    let reading : slice_get ((grows (calls_by moments) empty_view).readings tx.path.0 tx.dest.0) opened.seq ≡ Some gone.0 =
    sym (ap (λ l. slice_get l opened.seq) b.far.readings) ∙ ap (λ p. slice_get (b.view.readings p tx.dest.0) opened.seq) path ∙ gone.1 in
    let has = reads.left opened.seq gone.0 reading gone.2 in
    let parted : IsParted tx (has_ended moments) _ has.item = all-at (IsParted tx (has_ended moments) _) (records_by moments) has.place has.item reads.told has.there in
    let same : parted.reading ≡ gone.0 = same-some parted.there (ap (λ n. slice_get ((grows (calls_by moments) empty_view).readings tx.path.0 tx.dest.0) n) has.holds ∙ reading) in
    let writes : parted.reading.writer ≡ true = ap (λ (r : Reading). r.writer) same ∙ gone.3 in
    let A : List _ → Type 0 = λ l. AreTxParts o.pair.tx.full l in
    let none : has_ended moments ≡ false = parts-go o.pair.tx.full (before (b.past + 1) o.pair.tx.parts) (parts-front o.pair.tx.full tx_cut.later (before (b.past + 1) o.pair.tx.parts) (subst A (sym tx_cut.is) o.pair.tx_run.parts_are)) in
    let T : List TxTurn → Type 0 = λ l. HasSent tx l in
    let told = moments-told (λ (t : ℕ). t ≤ b.past) tx moments [] (subst T (sym (append-nil moments)) b.far.sent) (all-weaker (InTicks (λ (t : ℕ). t < b.past + 1)) (InTicks (λ (t : ℕ). t ≤ b.past)) moments (λ turn lt. omega (arith, lt)) (turns-in (λ (t : ℕ). t < b.past + 1) (before (b.past + 1) o.pair.tx.parts) tx_timed.1 tx_cut.early)) in
    let Q : List DestRecord → Type 0 = λ l. AllByRecursion (λ (d : DestRecord). d.end.0 ≤ b.past) l in
    let ends : AllByRecursion (λ (d : DestRecord). d.end.0 ≤ b.past) (records_by moments) = subst Q (sym told.is ∙ ap records_by (append-nil moments)) told.all in
    let whole : records_by (sent o) ≡ records_by moments ++ records_by (o.pair.tx.end ++ turns_of tx_cut.later) =
    ap (λ l. records_by (o.pair.tx.end ++ l)) tx_all ∙ ap records_by (sym (append_assoc o.pair.tx.end (turns_of tx_cut.later) moments)) ∙ records-append (o.pair.tx.end ++ turns_of tx_cut.later) moments in
    let P : List DestRecord → Type 0 = λ l. Has (HasLeftBy o.pair.most session opened) l in
    subst P (sym whole)
    (has-more (HasLeftBy o.pair.most session opened) (records_by moments) (records_by (o.pair.tx.end ++ turns_of tx_cut.later)) (record {
      place = has.place;
      item = has.item;
      there = has.there;
      holds = record {
        seq_is = has.holds;
        before = omega (arith, all-at (λ (d : DestRecord). d.end.0 ≤ b.past) (records_by moments) has.place has.item ends has.there, b.near);
        other = is-other tx (has_ended moments) has.item.sent parted.reading has.item.result none writes parted.shows;
      };
    }))
