-- The law of time, of a receiver and a sender of its path: what leaves is less than a window earlier than what came.
use Rattle.std.proofs.Common.{◌≡◌, ℕ, ◌+◌, ◌<◌, ◌≤◌, zero, suc, Bool, true, false, nat_le, cond, Option, Some, None, List, [], ◌∷◌, ◌++◌, length, take, get_or, refl, ap, sym, ◌∙◌, subst, arith, append-nil}
use Rattle.std.specs.Prelude.{filter, nat_lt, slice_get}
use Rattle.std.specs.List.{AllByRecursion, AllZip}
use Rattle.std.proofs.lemmas.Bool.Decides.{nat_tests}
use Rattle.std.proofs.lemmas.List.{length-append, length-map}
use Rattle.std.proofs.lemmas.Option.{slice_get-get_or}
use Rattle.gw_base.specs.Cell.{bytes_of}
use Rattle.gw_base.proofs.Lists.{all-at, slice_get-more, zip-index}
use Rattle.hub_core.proofs.Changed.{all-by}
use Rattle.hub_core.proofs.Sides.{cells_at, cells_at-there}
use Rattle.hub_core.specs.Turns.{calls_by, came_by, records_by, state_after}
use Rattle.hub_core.specs.View.{Reading, Session, View, empty_view, grows}
use Rattle.hub_core.specs.declared.record.DestRecord.{DestRecord}
use Rattle.tp_attempts.specs.Attempts.{attempts_in}
use Rattle.tp_attempts.specs.Cuts.{Cut}
use Rattle.tp_attempts.specs.Seen.{Seen}
use Rattle.tp_attempts.specs.Walk.{Piece, joined, walk_of}
use Rattle.tp_receiver.specs.Runs.{HasReceived, frames_in, put_in}
use Rattle.tp_receiver.specs.State.{RxTurn, rx_new}
use Rattle.tp_receiver.specs.declared.set.RxSet.{RxSet}
use Rattle.tp_sender.specs.Runs.{HasSent, cells_in as cells_read, left_by}
use Rattle.tp_sender.specs.State.{Transmission, TxTurn, tx_new}
use Rattle.tp_sender.specs.declared.set.TxSet.{TxSet}
use Rattle.receiver_law.proofs.records.SourceLaws.{source_law_of}
use Rattle.receiver_law.proofs.sessions.Begins.{Split, begin-at, begin_going, begins-are, begins-in, begins-long, begins-more, begins_by, begins_told, splits}
use Rattle.receiver_law.proofs.sessions.Entries.{writing}
use Rattle.receiver_law.proofs.sessions.Openings.{openings}
use Rattle.receiver_law.proofs.sessions.Stores.{store}
use Rattle.receiver_law.specs.RxRun.{source_of}
use Rattle.receiver_law.specs.Source.{CountsFrom, sessions_in}
use Rattle.sender_law.proofs.records.Origins.{InTicks, OfTold}
use Rattle.sender_law.proofs.transfers.TxLaw.{law, so-far, world_of}
use Rattle.sender_law.proofs.transfers.TxReadings.{readings}
use Rattle.sender_law.proofs.transfers.TxWorld.{SoFar}
use Rattle.sender_law.proofs.transfers.TxWritten.{AreWritten, written}
use Rattle.sender_law.specs.Runs.{leg_of}
use Rattle.sender_law.specs.Transfer.{GoesOnWith, SendsFor, Transfer, TransferLaw, has_sent, transfer_of}
use Rattle.gw_law.specs.Account.{Route}
use Rattle.gw_law.specs.Delivery.{Delivery, delivery_of}
use Rattle.gw_law.specs.Timely.{BeginsAfter, IsTimely, bytes_below, bytes_to}
use Rattle.gw_law.proofs.deliveries.Deliveries.{front-bytes}
use Rattle.gw_law.proofs.deliveries.EachSession.{at-most}
use Rattle.gw_law.proofs.runs.Meetings.{AsFar}
use Rattle.gw_law.proofs.runs.Moments.{Moment, Whole, moment, received, sent}
use Rattle.gw_law.proofs.times.RxUpTo.{put-up-to}
use Rattle.gw_law.proofs.times.TxUpTo.{IsJoinedAfter, before-next, joined-by, sent-up-to}

-- what is joined is entered
joined-entered : (rx : RxSet) (tx : TxSet) (turns : List RxTurn) (moments : List TxTurn) (v : View) → AsFar rx tx turns moments v → (state_after tx_new moments).next ≤ length (begins_by turns)
joined-entered rx tx turns moments v far =
    let so : SoFar tx.shape (world_of tx moments) = so-far tx moments far.shape far.sent in
    let read = readings tx moments far.sent empty_view refl in
    let known : List Reading = (grows (calls_by moments) empty_view).readings tx.path.0 tx.dest.0 in
    let joins : length known ≡ (state_after tx_new moments).next = sym (length-map known (λ (r : Reading). r.len)) ∙ ap length read.fixed ∙ so.lens in
    let most : (state_after tx_new moments).next ≤ length (v.sessions tx.path.0) =
    at-most tx v known (state_after tx_new moments).next far.readings joins (λ seq r is. let s = far.met.streams.joined tx.path.0 tx.dest.0 seq r is in (s.0, s.1)) in
    let put = (openings rx turns far.received).fill empty_view refl in
    let entered : length (v.sessions rx.path.0) ≡ length (begins_by turns) =
    ap length far.sessions ∙ sym (length-map ((grows (calls_by turns) empty_view).sessions rx.path.0) (writing rx.path.0).fixed) ∙ ap length put.fixed ∙ sym (begins-long turns) in
    omega (arith, most, ap (λ p. length (v.sessions p)) (ap (λ p. p.0) far.path), entered)

cells-none : (seq : ℕ) (known : List Reading) → slice_get known seq ≡ None → cells_at (λ (x : Reading). x.cells) seq known ≡ []
cells-none seq [] is = refl
cells-none zero (r ∷ known) is = cc
cells-none (suc seq) (r ∷ known) is = cells-none seq known is

-- what is read of a session is a front of what is put into it
pub read-put : (rx : RxSet) (tx : TxSet) (turns : List RxTurn) (moments : List TxTurn) (v : View) (seq : ℕ) (known : Option Reading) → AsFar rx tx turns moments v → slice_get ((grows (calls_by moments) empty_view).readings tx.path.0 tx.dest.0) seq ≡ known →
    length (bytes_of (cells_read seq (calls_by moments))) ≤ length (bytes_of (put_in rx turns seq))
read-put rx tx turns moments v seq None far is =
    let read = readings tx moments far.sent empty_view refl in
    omega (arith, ap (λ c. length (bytes_of c)) (sym (read.cells seq) ∙ cells-none seq ((grows (calls_by moments) empty_view).readings tx.path.0 tx.dest.0) is))
read-put rx tx turns moments v seq (Some r) far is =
    let read = readings tx moments far.sent empty_view refl in
    let put = (openings rx turns far.received).fill empty_view refl in
    let known = far.met.streams.joined tx.path.0 tx.dest.0 seq r (ap (λ l. slice_get l seq) far.readings ∙ is) in
    let s : Session = known.0 in
    let session : slice_get ((grows (calls_by turns) empty_view).sessions rx.path.0) seq ≡ Some s = sym (ap (λ l. slice_get l seq) far.sessions) ∙ ap (λ (p : ℕ). slice_get (v.sessions p) seq) (sym (ap (λ p. p.0) far.path)) ∙ known.1 in
    let cells : s.cells ≡ put_in rx turns seq = sym (cells_at-there (λ (x : Session). x.cells) seq ((grows (calls_by turns) empty_view).sessions rx.path.0) s session) ∙ put.cells seq in
    let cells_were : r.cells ≡ cells_read seq (calls_by moments) = sym (cells_at-there (λ (x : Reading). x.cells) seq ((grows (calls_by moments) empty_view).readings tx.path.0 tx.dest.0) r is) ∙ read.cells seq in
    (front-bytes (put_in rx turns seq) (bytes_of (cells_read seq (calls_by moments))) (length r.cells) 0 (ap bytes_of (sym cells_were ∙ known.2.prefix) ∙ ap (λ c. bytes_of (take (length r.cells) c)) cells) (omega arith)).0

-- bytes up to a later tick are no fewer
more-by : (one : Piece) (low high : List Piece) (early late : Bool) → (early ≡ true → late ≡ true) → length (joined low) ≤ length (joined high) → length (joined (cond early (one ∷ low) low)) ≤ length (joined (cond late (one ∷ high) high))
more-by one low high true true on le = rw (length-append one.bytes (joined low), length-append one.bytes (joined high)) (omega (arith, le))
more-by one low high true false on le = let no : false ≡ true = on refl in cc
more-by one low high false true on le = rw length-append (omega (arith, le))
more-by one low high false false on le = le

le-on : (at low high : ℕ) → low ≤ high → nat_le at low ≡ true → nat_le at high ≡ true
le-on at low high le is = grind (arith, nat_tests, is, le)

lt-on : (at low high : ℕ) → low < high → nat_le at low ≡ true → nat_lt at high ≡ true
lt-on at low high lt is = grind (arith, nat_tests, is, lt)

to-later : (low high : ℕ) (pieces : List Piece) → low ≤ high → bytes_to low pieces ≤ bytes_to high pieces
to-later low high [] le = omega arith
to-later low high (piece ∷ pieces) le = more-by piece _ _ (nat_le piece.at low) (nat_le piece.at high) (le-on piece.at low high le) (to-later low high pieces le)

pub to-below : (low high : ℕ) (pieces : List Piece) → low < high → bytes_to low pieces ≤ bytes_below high pieces
to-below low high [] lt = omega arith
to-below low high (piece ∷ pieces) lt = more-by piece _ _ (nat_le piece.at low) (nat_lt piece.at high) (lt-on piece.at low high lt) (to-below low high pieces lt)

-- what both tell
abbrev pub route_told : (source_budget budget : ℕ) → Whole → Route
route_told source_budget budget o = record { source = source_of source_budget o.pair.rx; leg = leg_of budget o.pair.tx; window = o.pair.most }

abbrev pub told : Whole → Delivery
told o = delivery_of o.pair.rx.set (received o) o.pair.tx.set (sent o)

-- the receiver is idle at the end, and the sender too
pub record AreIdle (o : Whole) : Type 0 where
  pub rx : (state_after rx_new (received o)).busy ≡ None
  pub tx : (state_after tx_new (sent o)).live ≡ None

-- the k-th transmission has sent no more bytes up to a tick than come below a window later
is-timely : (o : Whole) (k : ℕ) (cut : Cut Seen) (record_k : DestRecord) → AreIdle o → slice_get (attempts_in false (transfer_of o.pair.tx.set (sent o)).frames) k ≡ Some cut → slice_get (filter has_sent (records_by (sent o))) k ≡ Some record_k →
    SendsFor (transfer_of o.pair.tx.set (sent o)) cut record_k → IsTimely o.pair.most (told o) cut record_k
is-timely o k cut record_k idle cut_is told_is sends unit session named tick =
    let rx : RxSet = o.pair.rx.set in
    let tx : TxSet = o.pair.tx.set in
    let m : Moment o tick = moment o tick in
    let H : List TxTurn → Type 0 = λ l. HasSent tx l in
    let K : List TxTurn → Type 0 = λ l. slice_get (attempts_in false (transfer_of tx l).frames) k ≡ Some cut in
    let T : List TxTurn → Type 0 = λ l. slice_get (filter has_sent (records_by l)) k ≡ Some record_k in
    let S : List TxTurn → Type 0 = λ l. SendsFor (transfer_of tx l) cut record_k in
    let R : List RxTurn → Type 0 = λ l. HasReceived rx l in
    let I : List RxTurn → Type 0 = λ l. (state_after rx_new l).busy ≡ None in
    let U : List RxTurn → Type 0 = λ l. slice_get (attempts_in rx.functional (came_by frames_in l)) named.place ≡ Some unit in
    let V : List RxTurn → Type 0 = λ l. slice_get (records_by l) named.place ≡ Some session in
    let gone = sent-up-to tx m.tx_later m.tx_front m.past k cut record_k o.far.shape (subst H (sym m.tx_is) o.far.sent) m.tx_late m.tx_early (subst K (sym m.tx_is) cut_is) (subst T (sym m.tx_is) told_is) (subst S (sym m.tx_is) sends) in
    let put = put-up-to rx m.rx_later m.rx_front m.past named.place unit session named.opened (subst R (sym m.rx_is) o.far.received) (subst I (sym m.rx_is) idle.rx) m.rx_late m.rx_early (subst U (sym m.rx_is) named.unit_is) (subst V (sym m.rx_is) named.session_is) named.opened_is in
    omega (
      arith,
      to-later tick m.past (walk_of (told o).address cut).pieces m.above,
      gone,
      read-put rx tx m.rx_front m.tx_front m.view record_k.seq _ m.far refl,
      ap (λ n. length (store rx.path.0 (calls_by m.rx_front) n)) named.seq_is,
      put,
      to-below m.past (tick + o.pair.most) (walk_of (told o).source unit).pieces m.near,
    )

-- the session of a record that begins in a tick was entered by less than a window later
begins-after : (o : Whole) (one : DestRecord) (place : ℕ) → AreIdle o → slice_get (records_by (sent o)) place ≡ Some one → BeginsAfter o.pair.most (told o) one
begins-after o one place idle there unit session named =
    let rx : RxSet = o.pair.rx.set in
    let tx : TxSet = o.pair.tx.set in
    let m : Moment o one.begin.0 = moment o one.begin.0 in
    let H : List TxTurn → Type 0 = λ l. HasSent tx l in
    let T : List TxTurn → Type 0 = λ l. slice_get (records_by l) place ≡ Some one in
    let joins : (state_after tx_new m.tx_front).next ≤ one.seq → m.past < one.begin.0 =
    all-at (OfTold (IsJoinedAfter (state_after tx_new m.tx_front).next m.past)) (records_by (m.tx_later ++ m.tx_front)) place one (joined-by tx m.tx_later m.tx_front m.past o.far.shape (subst H (sym m.tx_is) o.far.sent) m.tx_late) (subst T (sym m.tx_is) there) in
    let below : one.seq < (state_after tx_new m.tx_front).next = before-next (state_after tx_new m.tx_front).next one.seq m.past one.begin.0 joins m.above in
    let entered = joined-entered rx tx m.rx_front m.tx_front m.view m.far in
    let first : ℕ = get_or (begins_by m.rx_front) one.seq 0 in
    let begun : slice_get (begins_by m.rx_front) one.seq ≡ Some first = slice_get-get_or (begins_by m.rx_front) one.seq 0 (omega (arith, below, entered)) in
    let early = all-at (λ (b : ℕ). b ≤ m.past) (begins_by m.rx_front) one.seq first (begins-in (λ (t : ℕ). t ≤ m.past) m.rx_front m.rx_early) begun in
    let more = begins-more m.rx_later m.rx_front in
    let all : begins_by (received o) ≡ begins_told (records_by (received o)) =
    begins-are rx (received o) o.far.received ∙ ap (λ b. begins_told (records_by (received o)) ++ begin_going b) idle.rx ∙ append-nil (begins_told (records_by (received o))) in
    let counts : CountsFrom 0 (sessions_in (records_by (received o))) = (source_law_of rx (received o) o.far.received idle.rx).sessions in
    let sp : Split (records_by (received o)) named.place session = splits (records_by (received o)) named.place session named.session_is in
    let at : slice_get (begins_told (records_by (received o))) named.opened.seq ≡ Some session.begin.0 = begin-at (records_by (received o)) sp.before sp.after session named.opened sp.is counts named.opened_is in
    let found : slice_get (begins_told (records_by (received o))) one.seq ≡ Some first = ap (λ l. slice_get l one.seq) (sym all ∙ ap begins_by (sym m.rx_is) ∙ more.1) ∙ slice_get-more (begins_by m.rx_front) more.0 one.seq first begun in
    let both : Some session.begin.0 ≡ Some first = sym at ∙ ap (slice_get (begins_told (records_by (received o)))) named.seq_is ∙ found in
    let same : session.begin.0 ≡ first = cc in
    omega (arith, same, early, m.near)

-- where no transmission goes on, all have ended
all-ended : (t : Transfer) (now : ℕ) (live : Option Transmission) (ended going : List (Cut Seen)) → live ≡ None → GoesOnWith t now live going → ended ++ going ≡ ended
all-ended t now None ended going is goes = ap (λ l. ended ++ l) goes ∙ append-nil ended
all-ended t now (Some s) ended going is goes = cc

-- each transmission, with its record
pub sends-all : (o : Whole) → AreIdle o → AllZip (SendsFor (transfer_of o.pair.tx.set (sent o))) (attempts_in false (transfer_of o.pair.tx.set (sent o)).frames) (filter has_sent (records_by (sent o)))
sends-all o idle =
    let t : Transfer = transfer_of o.pair.tx.set (sent o) in
    let transfer : TransferLaw t = law o.pair.tx.set (sent o) o.far.shape o.far.sent in
    let ended : attempts_in false t.frames ≡ transfer.ended = transfer.cut ∙ all-ended t t.now t.live transfer.ended transfer.going idle.tx transfer.goes_on in
    rw ended transfer.sends

pub timely-all : (o : Whole) → AreIdle o → AllZip (IsTimely o.pair.most (told o)) (attempts_in false (transfer_of o.pair.tx.set (sent o)).frames) (filter has_sent (records_by (sent o)))
timely-all o idle =
    zip-index (SendsFor (transfer_of o.pair.tx.set (sent o))) (IsTimely o.pair.most (told o)) (attempts_in false (transfer_of o.pair.tx.set (sent o)).frames) (filter has_sent (records_by (sent o)))
    (λ k cut one cut_is told_is sends. is-timely o k cut one idle cut_is told_is sends) (sends-all o idle)

pub begins-all : (o : Whole) → AreIdle o → AllByRecursion (BeginsAfter o.pair.most (told o)) (records_by (sent o))
begins-all o idle = all-by (BeginsAfter o.pair.most (told o)) (records_by (sent o)) (λ place one there. begins-after o one place idle there)

any-turn : (turns : List TxTurn) → AllByRecursion (InTicks (λ (t : ℕ). Unit {0})) turns
any-turn [] = tt
any-turn (turn ∷ turns) = (tt, any-turn turns)

-- the frames that a sender wrote are its channel's
pub frames-of : (o : Whole) → AreWritten o.pair.tx.set.shape (left_by o.pair.tx.set.shape (sent o))
frames-of o = written (λ (n : ℕ). Unit {0}) o.pair.tx.set (sent o) o.far.shape o.far.sent (any-turn (sent o))
