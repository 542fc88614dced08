-- The causes of records that need both parties, of a receiver and a sender of its path.
use Rattle.std.proofs.Common.{◌≡◌, ◌≢◌, ℕ, ◌+◌, ◌*◌, ◌<◌, ◌≤◌, Bool, true, false, Option, Some, None, List, [], ◌∷◌, ◌++◌, length, take, get_or, zero, suc, refl, ap, sym, ◌∙◌, subst, arith, take_all}
use Rattle.std.specs.Prelude.{not, is_some, slice_get}
use Rattle.std.specs.List.{AllByRecursion}
use Rattle.std.proofs.lemmas.Bool.Decides.{nat_tests}
use Rattle.std.proofs.lemmas.List.Sums.{sum_by-take-le}
use Rattle.std.proofs.lemmas.Option.{slice_get-get_or, slice_get_within}
use Rattle.flow_plan.specs.Cells.{cells_for}
use Rattle.gw_base.specs.Cell.{count_of, counted}
use Rattle.gw_base.proofs.Lists.{all-at, same-some, zip-back}
use Rattle.hub_core.proofs.Changed.{Has, InFirst, InNext, Joined, all-by, joined}
use Rattle.hub_core.specs.Joint.{IsStream, IsWritten}
use Rattle.hub_core.specs.Turns.{calls_by, records_by, state_after, turns_of}
use Rattle.hub_core.specs.View.{Reading, Session, View, empty_view, grows, reading_new}
use Rattle.hub_core.specs.declared.record.DestRecord.{DestRecord}
use Rattle.hub_core.specs.declared.record.DestResult.{DestResult}
use Rattle.hub_core.specs.declared.record.DestResult.TheVariants.{Sent, SourceEnded, BsTimeout, FcOverflow, InvalidFs, CsTimeout, AsTimeout, Cancelled, RunEnd}
use Rattle.hub_core.specs.declared.record.OpenedAt.{OpenedAt}
use Rattle.hub_core.specs.declared.record.SessionRecord.{SessionRecord}
use Rattle.hub_core.specs.declared.record.SessionResult.TheVariants.{Whole as IsWhole, NoReaders}
use Rattle.receiver_law.proofs.records.JointReceivers.{known-sessions}
use Rattle.receiver_law.proofs.records.JointSessions.{IsLeft, IsPut}
use Rattle.receiver_law.specs.Parts.{EndsReceiving}
use Rattle.receiver_law.specs.Source.{SourceLaw, Tells, is_overflow}
use Rattle.sender_law.proofs.records.JointReadings.{IsParted, IsScant, IsWant, ShowsBy, WantsNext, WantsStart}
use Rattle.sender_law.proofs.records.JointSenders.{has_ended, known-readings}
use Rattle.sender_law.specs.Transfer.{NumberedFrom}
use Rattle.tp_attempts.specs.Attempts.{attempts_in}
use Rattle.tp_attempts.specs.Cuts.{Cut}
use Rattle.tp_attempts.specs.Seen.{Seen}
use Rattle.tp_receiver.specs.Runs.{HasReceived}
use Rattle.tp_receiver.specs.State.{RxTurn, rx_new}
use Rattle.tp_receiver.specs.Table.{RxStep}
use Rattle.tp_receiver.specs.declared.set.RxSet.{RxSet}
use Rattle.tp_sender.specs.Frame.{part_after}
use Rattle.tp_sender.specs.State.{TxTurn, tx_new}
use Rattle.tp_sender.specs.declared.set.TxSet.{TxSet}
use Rattle.tp_unit.proofs.Sizes.{length-address, size_of}
use Rattle.tp_unit.specs.Shape.{IsShape}
use Rattle.tp_unit.specs.declared.shape.Shape.{Shape}
use Rattle.gw_law.specs.Account.{Route}
use Rattle.gw_law.specs.Delivery.{DeliveryLaw, IsNamed, Names}
use Rattle.gw_law.specs.JointCauses.{AreShort, AreUnread, HasLostSource, HasSeenFew, IsOwnEnd, IsShortBy, IsUnread, Lacks, LacksNext, LacksStart}
use Rattle.gw_law.specs.Timely.{delivery_of_route}
use Rattle.gw_law.proofs.causes.JointEnds.{HasLeftBy, IsOpenedBy, IsOther, left-by, source-ended}
use Rattle.gw_law.proofs.causes.JointTicks.{end-tells}
use Rattle.gw_law.proofs.runs.Meetings.{AsFar}
use Rattle.gw_law.proofs.runs.Moments.{Whole, received, sent}

-- a destination's reading of a session, once both ended
record Meets (tx : TxSet) (session : SessionRecord) (sent : ℕ) (how : DestResult) (ended : Bool) : Type 0 where
  reading : Reading
  shows : ShowsBy tx ended sent reading how
  len : reading.len ≡ session.len
  read : counted reading.cells ≤ session.bytes
  seen : reading.bytes ≤ session.bytes
  within : session.bytes ≤ session.len
  all : reading.seen ≡ length reading.cells → reading.bytes ≡ counted reading.cells
  gone : reading.writer ≡ false → reading.bytes ≡ session.bytes
  cells : reading.writer ≡ false → session.bytes ≤ 7 * reading.seen

streams-so : (tx : TxSet) (session : SessionRecord) (sent : ℕ) (how : DestResult) (ended : Bool) (readers : RxSet) (s : Session) (r : Reading) → IsWritten s → IsStream s r → IsPut readers session.len session.bytes s → ShowsBy tx ended sent r how → Meets tx session sent how ended
streams-so tx session sent how ended readers s r written stream put shows =
    let bytes : counted s.cells ≡ session.bytes = ap counted (sym (take_all (length s.cells) s.cells (omega arith))) ∙ ap (λ n. counted (take n s.cells)) (sym put.shown) ∙ sym written.told ∙ put.told in
    record {
      reading = r;
      shows = shows;
      len = stream.len ∙ put.len_is;
      read = omega (arith, ap counted stream.prefix, sum_by-take-le count_of s.cells (length r.cells), bytes);
      seen = omega (arith, stream.bytes, sum_by-take-le count_of s.cells r.seen, bytes);
      within = omega (arith, bytes, written.within, put.len_is);
      all = λ same. stream.bytes ∙ ap (λ n. counted (take n s.cells)) same ∙ ap counted (sym stream.prefix);
      gone = λ left. stream.bytes ∙ ap (λ n. counted (take n s.cells)) (stream.gone left).1 ∙ sym written.told ∙ put.told;
      cells = λ left. omega (arith, put.told, put.full, put.shown, (stream.gone left).1);
    }

meets : (rx : RxSet) (tx : TxSet) (turns : List RxTurn) (moments : List TxTurn) (v : View) (p k : ℕ) (session : SessionRecord) (opened : OpenedAt) (told : DestRecord) → AsFar rx tx turns moments v → slice_get (records_by turns) p ≡ Some session → session.opened ≡ Some opened →
    slice_get (records_by moments) k ≡ Some told → told.seq ≡ opened.seq → Meets tx session told.sent told.result (has_ended moments)
meets rx tx turns moments v p k session opened told far is opened_is told_is seq =
    let known = known-sessions rx turns far.received in
    let reads = known-readings tx moments far.sent in
    let left : IsLeft rx ((grows (calls_by turns) empty_view).sessions rx.path.0) session opened = all-at _ (records_by turns) p session known.told is opened opened_is in
    let parted : IsParted tx (has_ended moments) _ told = all-at (IsParted tx (has_ended moments) _) (records_by moments) k told reads.told told_is in
    let path : tx.path.0 ≡ rx.path.0 = ap (λ p. p.0) far.path in
    let stream = far.met.streams.joined tx.path.0 tx.dest.0 told.seq parted.reading (ap (λ l. slice_get l told.seq) far.readings ∙ parted.there) in
    let here : slice_get (v.sessions rx.path.0) opened.seq ≡ Some left.session = ap (λ l. slice_get l opened.seq) far.sessions ∙ left.there in
    let same : stream.0 ≡ left.session = same-some stream.1 (ap (λ n. slice_get (v.sessions tx.path.0) n) seq ∙ ap (λ p. slice_get (v.sessions p) opened.seq) path ∙ here) in
    let P : Session → Type 0 = λ s. IsStream s parted.reading in
    streams-so tx session told.sent told.result (has_ended moments) rx left.session parted.reading (far.met.streams.written rx.path.0 opened.seq left.session here) (subst P same stream.2) left.put parted.shows

-- a frame carries no more than remains
part-most : (shape : Shape) (len sent : ℕ) → IsShape shape → sent ≤ len → sent + part_after shape len sent ≤ len
part-most shape len sent sound le = grind (arith, nat_tests, size_of shape sound, length-address shape.address)

cells-most : (bytes cells : ℕ) → bytes ≤ 7 * cells → cells_for bytes ≤ cells
cells-most bytes cells le = omega (arith, le)

-- a session is opened by no overflow
opens-so : (refused : Bool) (was : Option OpenedAt) (opened : OpenedAt) → is_some was ≡ not refused → was ≡ Some opened → refused ≡ false
opens-so true was opened is same = let no : true ≡ false = sym (ap (λ (o : Option OpenedAt). is_some o) same) ∙ is in cc
opens-so false was opened is same = refl

-- the attempt that a record is of, where it opened a session, and that it tells Whole just where all bytes are told
record IsTold (functional : Bool) (seen : List Seen) (p : ℕ) (session : SessionRecord) : Type 0 where
  unit : Cut Seen
  unit_is : slice_get (attempts_in functional seen) p ≡ Some unit
  whole : session.bytes ≡ session.len → session.result ≡ IsWhole
  all : session.result ≡ IsWhole → session.bytes ≡ session.len

told-so : (chan address : ℕ) (functional : Bool) (seen : List Seen) (records : List SessionRecord) (p : ℕ) (session : SessionRecord) (opened : OpenedAt) → SourceLaw chan address functional seen records → slice_get records p ≡ Some session →
    session.opened ≡ Some opened → IsTold functional seen p session
told-so chan address functional seen records p session opened law is opened_is =
    let at = zip-back (Tells chan address) (attempts_in functional seen) records p session law.tells is in
    let no : is_overflow session.result ≡ false = opens-so (is_overflow session.result) session.opened opened at.2.opens opened_is in
    record { unit = at.0; unit_is = at.1; whole = (at.2.whole no).1; all = (at.2.whole no).0 }

-- what a session lacks whose source ended
lost-by : (r : Route) (session : SessionRecord) (sent : ℕ) (ended : Bool) (m : Meets r.leg.tx session sent SourceEnded ended) → IsShape r.leg.tx.shape → m.reading.writer ≡ false → IsWant r.leg.tx sent m.reading → Lacks r session sent × (session.bytes ≢ session.len)
lost-by r session sent ended m sound gone (WantsNext scant) =
    let bytes : session.bytes ≡ counted m.reading.cells = sym (m.gone gone) ∙ m.all scant.all in
    let few : counted m.reading.cells < sent + part_after r.leg.tx.shape session.len sent = subst (λ n. counted m.reading.cells < sent + part_after r.leg.tx.shape n sent) m.len scant.few in
    let most : sent + part_after r.leg.tx.shape session.len sent ≤ session.len = part-most r.leg.tx.shape session.len sent sound (omega (arith, scant.least, m.read, m.within)) in
    let next : ℕ = part_after r.leg.tx.shape session.len sent in
    (LacksNext (omega (arith, bytes, few)), λ all. omega (arith, bytes, few, most, all))
lost-by r session sent ended m sound gone (WantsStart none_sent other few) =
    let less : session.bytes ≢ session.len = λ all. other (m.gone gone ∙ all ∙ sym m.len) in
    (LacksStart none_sent less (λ none. omega (arith, few none, cells-most session.bytes m.reading.seen (m.cells gone))), less)

-- what the laws of both parties say of a route
pub record Known (o : Whole) (r : Route) : Type 0 where
  pub rx : r.source.rx ≡ o.pair.rx.set
  pub tx : r.leg.tx ≡ o.pair.tx.set
  pub window : r.window ≡ o.pair.most
  pub sessions : r.source.sessions ≡ records_by (received o)
  pub dests : r.leg.dests ≡ records_by (sent o)
  pub source : SourceLaw r.source.rx.chan.0 r.source.rx.a r.source.rx.functional r.source.seen r.source.sessions
  pub delivers : DeliveryLaw (delivery_of_route r)
  pub served : length (o.view.sessions o.pair.rx.set.path.0) ≤ (state_after tx_new (sent o)).next

-- the record of a place
session-at : (o : Whole) (r : Route) (place : ℕ) (session : SessionRecord) → Known o r → slice_get (records_by (received o)) place ≡ Some session → slice_get r.source.sessions place ≡ Some session
session-at o r place session known is = ap (λ l. slice_get l place) known.sessions ∙ is

source-lost : (o : Whole) (r : Route) (k : ℕ) (told : DestRecord) → Known o r → slice_get (records_by (sent o)) k ≡ Some told → told.result ≡ SourceEnded → HasLostSource r told
source-lost o r k told known is how =
    let tx : TxSet = r.leg.tx in
    let has : Has (IsOpenedBy o.pair.most told) (records_by (received o)) = source-ended o k told is how in
    let opened : OpenedAt = has.holds.0.0 in
    let P : DestResult → Type 0 = λ h. Meets o.pair.tx.set has.item told.sent h (has_ended (sent o)) in
    let Q : TxSet → Type 0 = λ t. Meets t has.item told.sent SourceEnded (has_ended (sent o)) in
    let m : Meets r.leg.tx has.item told.sent SourceEnded (has_ended (sent o)) =
    subst Q (sym known.tx) (subst P how (meets o.pair.rx.set o.pair.tx.set (received o) (sent o) o.view has.place k has.item opened told o.far has.there has.holds.0.1 is (sym has.holds.0.2))) in
    let S : TxSet → Type 0 = λ t. IsShape t.shape in
    let so : IsTold r.source.rx.functional r.source.seen has.place has.item =
    told-so r.source.rx.chan.0 r.source.rx.a r.source.rx.functional r.source.seen r.source.sessions has.place has.item opened known.source (session-at o r has.place has.item known has.there) has.holds.0.1 in
    let lacks : Lacks r has.item told.sent × (has.item.bytes ≢ has.item.len) = lost-by r has.item told.sent (has_ended (sent o)) m (subst S (sym known.tx) o.far.shape) m.shows.0 m.shows.1 in
    record {
      unit = so.unit;
      session = has.item;
      named = record { place = has.place; unit_is = so.unit_is; session_is = session-at o r has.place has.item known has.there; opened = opened; opened_is = has.holds.0.1; seq_is = has.holds.0.2 };
      broken = λ whole. lacks.1 (so.all whole);
      ended = omega (arith, has.holds.1, known.window);
      lacks = lacks.0;
    }

seen-few : (o : Whole) (r : Route) (k : ℕ) (told : DestRecord) (seen : ℕ) → Known o r → slice_get (records_by (sent o)) k ≡ Some told → told.result ≡ CsTimeout seen → HasSeenFew r told seen
seen-few o r k told seen known is how =
    let names : Names (delivery_of_route r) told = all-at (Names (delivery_of_route r)) r.leg.dests k told known.delivers.names (ap (λ l. slice_get l k) known.dests ∙ is) in
    let named : IsNamed (delivery_of_route r) told.seq names.unit names.session = names.named in
    let P : DestResult → Type 0 = λ h. Meets o.pair.tx.set names.session told.sent h (has_ended (sent o)) in
    let Q : TxSet → Type 0 = λ t. Meets t names.session told.sent (CsTimeout seen) (has_ended (sent o)) in
    let m : Meets r.leg.tx names.session told.sent (CsTimeout seen) (has_ended (sent o)) =
    subst Q (sym known.tx) (subst P how (meets o.pair.rx.set o.pair.tx.set (received o) (sent o) o.view named.place k names.session named.opened told o.far (ap (λ l. slice_get l named.place) (sym known.sessions) ∙ named.session_is) named.opened_is is (sym named.seq_is))) in
    let scant : IsScant r.leg.tx told.sent m.reading = m.shows.1 in
    let all : counted m.reading.cells ≡ seen = sym (m.all scant.all) ∙ m.shows.0 in
    record {
      unit = names.unit;
      session = names.session;
      named = named;
      least = omega (arith, scant.least, all);
      most = omega (arith, m.read, all);
      few = subst (λ n. n < told.sent + part_after r.leg.tx.shape names.session.len told.sent) all (subst (λ n. counted m.reading.cells < told.sent + part_after r.leg.tx.shape n told.sent) m.len scant.few);
    }

short-by : (o : Whole) (r : Route) (k : ℕ) (told : DestRecord) (how : DestResult) → Known o r → slice_get (records_by (sent o)) k ≡ Some told → told.result ≡ how → IsShortBy r told how
short-by o r k told Sent known is how = tt
short-by o r k told SourceEnded known is how = source-lost o r k told known is how
short-by o r k told BsTimeout known is how = tt
short-by o r k told FcOverflow known is how = tt
short-by o r k told (InvalidFs status) known is how = tt
short-by o r k told (CsTimeout seen) known is how = seen-few o r k told seen known is how
short-by o r k told AsTimeout known is how = tt
short-by o r k told Cancelled known is how = tt
short-by o r k told (RunEnd wait since) known is how = tt

-- each record that tells that bytes were lacking
pub all-short : (o : Whole) (r : Route) → Known o r → AreShort r
all-short o r known =
    all-by (λ (told : DestRecord). IsShortBy r told told.result) r.leg.dests (λ k told is. short-by o r k told told.result known (ap (λ l. slice_get l k) (sym known.dests) ∙ is) refl)

-- a record stands in the place of its session's number
pub numbered-at : (first : ℕ) (records : List DestRecord) (p : ℕ) (told : DestRecord) → NumberedFrom first records → slice_get records p ≡ Some told → told.seq ≡ first + p
numbered-at first [] p told numbered is = cc
numbered-at first (one ∷ records) zero told numbered is = let same : one ≡ told = cc in omega (arith, ap (λ (t : DestRecord). t.seq) (sym same), numbered.0)
numbered-at first (one ∷ records) (suc p) told numbered is = omega (arith, numbered-at (first + 1) records p told numbered.1 is)

-- at the run's end no record tells that no destination reads
record EndsSo (earlier : List RxTurn) (whole : List SessionRecord) : Type 0 where
  more : List SessionRecord
  is : whole ≡ records_by earlier ++ more
  none : AllByRecursion (λ (session : SessionRecord). session.result ≡ NoReaders → ⊥) more

end-so : (rx : RxSet) (last : ℕ) (turns earlier : List RxTurn) → EndsReceiving last turns → HasReceived rx (turns ++ earlier) → EndsSo earlier (records_by (turns ++ earlier))
end-so rx last [] earlier is happened = absurd is
end-so rx last (turn ∷ []) earlier is happened =
    record { more = turn.did.records; is = refl; none = end-tells rx (state_after rx_new earlier) turn.did (subst (λ e. RxStep rx (state_after rx_new earlier) e turn.did) is.0 happened.1) }
end-so rx last (turn ∷ next ∷ more) earlier is happened = let no : next ∷ more ≡ [] = is.2 in cc

in-ticks : (turns : List RxTurn) (more : List SessionRecord) (k : ℕ) (session : SessionRecord) → session.result ≡ NoReaders → AllByRecursion (λ (s : SessionRecord). s.result ≡ NoReaders → ⊥) more → Joined (records_by turns) more k session → slice_get (records_by turns) k ≡ Some session
in-ticks turns more k session how none (InFirst there) = there
in-ticks turns more k session how none (InNext j there past) = absurd (all-at (λ (s : SessionRecord). s.result ≡ NoReaders → ⊥) more j session none there how)

-- no destination of a session without readers sent it whole
own-end : (tx : TxSet) (session : SessionRecord) (sent : ℕ) (how : DestResult) (ended : Bool) → Meets tx session sent how ended → (session.bytes ≡ session.len → ⊥) → IsOther how → IsOwnEnd how
own-end tx session sent Sent ended m other is = other (omega (arith, m.shows.0, m.shows.1, m.len, m.read, m.within))
own-end tx session sent SourceEnded ended m other is = is
own-end tx session sent BsTimeout ended m other is = tt
own-end tx session sent FcOverflow ended m other is = tt
own-end tx session sent (InvalidFs status) ended m other is = tt
own-end tx session sent (CsTimeout seen) ended m other is = tt
own-end tx session sent AsTimeout ended m other is = tt
own-end tx session sent Cancelled ended m other is = tt
own-end tx session sent (RunEnd wait since) ended m other is = is

-- a destination of a run is one of its path's
has-dest : (o : Whole) (r : Route) (k : ℕ) (session : SessionRecord) (opened : OpenedAt) → Known o r → slice_get (records_by (received o)) k ≡ Some session → session.opened ≡ Some opened → o.pair.tx.set.dest.0 < o.pair.rx.set.readers
has-dest o r k session opened known is opened_is =
    let rx : RxSet = o.pair.rx.set in
    let tx : TxSet = o.pair.tx.set in
    let sessions = known-sessions rx (received o) o.far.received in
    let reads = known-readings tx (sent o) o.far.sent in
    let left : IsLeft rx ((grows (calls_by (received o)) empty_view).sessions rx.path.0) session opened = all-at _ (records_by (received o)) k session sessions.told is opened opened_is in
    let path : tx.path.0 ≡ rx.path.0 = ap (λ p. p.0) o.far.path in
    let readings : List Reading = (grows (calls_by (sent o)) empty_view).readings tx.path.0 tx.dest.0 in
    let inside : opened.seq < length readings =
    omega (arith, slice_get_within ((grows (calls_by (received o)) empty_view).sessions rx.path.0) opened.seq left.session left.there, known.served, ap length o.far.sessions, reads.number) in
    let r : Reading = get_or readings opened.seq (reading_new 0 0) in
    let there : slice_get readings opened.seq ≡ Some r = slice_get-get_or readings opened.seq (reading_new 0 0) inside in
    let reading = ap (λ p. slice_get (o.view.readings p tx.dest.0) opened.seq) (sym path) ∙ ap (λ l. slice_get l opened.seq) o.far.readings ∙ there in
    omega (arith, o.far.met.joined rx.path.0 tx.dest.0 opened.seq left.session r (ap (λ l. slice_get l opened.seq) o.far.sessions ∙ left.there) reading, left.put.dests)

unread-opened : (o : Whole) (r : Route) (k : ℕ) (session : SessionRecord) (opened : OpenedAt) → Known o r → slice_get (records_by (received o)) k ≡ Some session → session.result ≡ NoReaders → session.opened ≡ Some opened → IsUnread r session
unread-opened o r k session opened known is how opened_is =
    let rx : RxSet = o.pair.rx.set in
    let tx : TxSet = o.pair.tx.set in
    let ends : EndsSo (turns_of o.pair.rx.parts) (records_by (received o)) = end-so rx o.pair.rx.last o.pair.rx.end (turns_of o.pair.rx.parts) o.pair.rx_run.ends o.far.received in
    let there : slice_get (records_by (turns_of o.pair.rx.parts)) k ≡ Some session =
    in-ticks (turns_of o.pair.rx.parts) ends.more k session how ends.none (joined (records_by (turns_of o.pair.rx.parts)) ends.more k session (ap (λ l. slice_get l k) (sym ends.is) ∙ is)) in
    let has : Has (HasLeftBy o.pair.most session opened) (records_by (sent o)) = left-by o k session opened (has-dest o r k session opened known is opened_is) there how opened_is in
    let told_is : slice_get r.leg.dests has.place ≡ Some has.item = ap (λ l. slice_get l has.place) known.dests ∙ has.there in
    let place : has.item.seq ≡ 0 + has.place = numbered-at 0 r.leg.dests has.place has.item known.delivers.numbered told_is in
    let here : has.place ≡ opened.seq = omega (arith, place, has.holds.seq_is) in
    let so : IsTold r.source.rx.functional r.source.seen k session = told-so r.source.rx.chan.0 r.source.rx.a r.source.rx.functional r.source.seen r.source.sessions k session opened known.source (session-at o r k session known is) opened_is in
    record {
      opened = opened;
      opened_is = opened_is;
      told = has.item;
      told_is = ap (slice_get r.leg.dests) (sym here) ∙ told_is;
      seq_is = has.holds.seq_is;
      before = omega (arith, has.holds.before, known.window);
      cause = own-end tx session has.item.sent has.item.result (has_ended (sent o)) (meets rx tx (received o) (sent o) o.view k has.place session opened has.item o.far is opened_is has.there has.holds.seq_is)
          (λ all. let no : NoReaders ≡ IsWhole = sym how ∙ so.whole all in cc) has.holds.other;
    }

unread-by : (o : Whole) (r : Route) (k : ℕ) (session : SessionRecord) (was : Option OpenedAt) → Known o r → slice_get (records_by (received o)) k ≡ Some session → session.result ≡ NoReaders → session.opened ≡ was → is_some was ≡ true → IsUnread r session
unread-by o r k session None known is how opened_is some = cc
unread-by o r k session (Some opened) known is how opened_is some = unread-opened o r k session opened known is how opened_is

-- each record that tells that no destination reads
pub all-unread : (o : Whole) (r : Route) → Known o r → AreUnread r
all-unread o r known =
    all-by (λ (session : SessionRecord). session.result ≡ NoReaders → IsUnread r session) r.source.sessions
    (λ k session is how.
    let at = zip-back (Tells r.source.rx.chan.0 r.source.rx.a) (attempts_in r.source.rx.functional r.source.seen) r.source.sessions k session known.source.tells is in
    unread-by o r k session session.opened known (ap (λ l. slice_get l k) (sym known.sessions) ∙ is) how refl (at.2.opens ∙ ap (λ h. not (is_overflow h)) how))
