-- Where a sender's next frame waits for its bus, the bytes of that frame had come less than a window later.
use Rattle.std.proofs.Common.{◌≡◌, ℕ, ◌+◌, ◌<◌, ◌≤◌, false, Some, None, List, [], ◌∷◌, ◌++◌, length, refl, ap, sym, ◌∙◌, subst, arith}
use Rattle.std.specs.Prelude.{filter, slice_get}
use Rattle.std.specs.List.{AllByRecursion, AllZip}
use Rattle.std.proofs.lemmas.List.{length-append, length-take}
use Rattle.std.proofs.lemmas.Grind.{flat_map-append}
use Rattle.gw_base.specs.Cell.{bytes_of, cell_bytes}
use Rattle.gw_base.proofs.Lists.{all-at, all-join, all-weaker, zip-index, zip-pair}
use Rattle.hub_core.proofs.Turns.{calls-append}
use Rattle.hub_core.specs.Turns.{Part, calls_by, came_by, now_of, records_by, state_after, turns_of}
use Rattle.hub_core.specs.declared.record.DestRecord.{DestRecord}
use Rattle.hub_core.specs.declared.record.SessionRecord.{SessionRecord}
use Rattle.receiver_law.proofs.records.SourceLaws.{stored_law_of}
use Rattle.receiver_law.proofs.sessions.Stores.{store}
use Rattle.receiver_law.specs.Source.{Puts}
use Rattle.sender_law.proofs.records.DestRecords.{dest_records}
use Rattle.sender_law.proofs.records.Origins.{InTicks}
use Rattle.sender_law.specs.Emission.{IsOfDestination}
use Rattle.sender_law.specs.Runs.{TxRun, leg_of}
use Rattle.sender_law.specs.Transfer.{SendsFor, has_sent, transfer_of}
use Rattle.tp_attempts.specs.Attempts.{attempts_in}
use Rattle.tp_attempts.specs.Cuts.{Cut}
use Rattle.tp_attempts.specs.Seen.{Seen}
use Rattle.tp_attempts.specs.Walk.{reassembled, walk_of}
use Rattle.tp_receiver.specs.Runs.{HasReceived, frames_in, put_in}
use Rattle.tp_receiver.specs.State.{RxTurn, rx_new}
use Rattle.tp_receiver.specs.declared.set.RxSet.{RxSet}
use Rattle.tp_sender.specs.Runs.{HasSent, box_after, cell_read, cells_in}
use Rattle.tp_sender.specs.State.{TxTurn}
use Rattle.tp_sender.specs.declared.set.TxSet.{TxSet}
use Rattle.gw_law.specs.Deeds.{before}
use Rattle.gw_law.specs.Delivery.{IsNamed}
use Rattle.gw_law.specs.Timely.{bytes_below, delivery_of_route}
use Rattle.gw_law.proofs.causes.Held.{held_at, lies-some}
use Rattle.gw_law.proofs.causes.JointWaits.{HoldsNext}
use Rattle.gw_law.proofs.deliveries.Deliveries.{all-sent}
use Rattle.gw_law.proofs.runs.Before.{AreTimed, Cut as PartsCut, cut as cut-parts, timed-front, turns-in}
use Rattle.gw_law.proofs.runs.Moments.{IsFront, Moment, Whole, moment, received, sent, split-turns}
use Rattle.gw_law.proofs.runs.Parts.{tx-end, tx-rising, tx-timed}
use Rattle.gw_law.proofs.times.RxUpTo.{put-up-to}
use Rattle.gw_law.proofs.times.Timely.{AreIdle, read-put, route_told, sends-all, to-below}
use Rattle.gw_law.proofs.times.TxHeld.{held-up-to}

-- a sender's turns up to a tick, and those after it
pub record Front (run : TxRun) (tick : ℕ) (front : List TxTurn) : Type 0 where
  pub later : List TxTurn
  pub is : later ++ front ≡ run.end ++ turns_of run.parts
  pub late : AllByRecursion (InTicks (λ (t : ℕ). tick < t)) later
  pub early : AllByRecursion (InTicks (λ (t : ℕ). t ≤ tick)) front
  pub now : now_of front ≤ tick

now-by : (tick : ℕ) (turns : List TxTurn) → AllByRecursion (InTicks (λ (t : ℕ). t ≤ tick)) turns → now_of turns ≤ tick
now-by tick [] all = omega arith
now-by tick (turn ∷ turns) all = all.0

pub front-at : (o : Whole) (tick : ℕ) → tick < o.pair.tx.last → Front o.pair.tx tick (turns_of (before (tick + 1) o.pair.tx.parts))
front-at o tick below =
    let tx : TxRun = o.pair.tx in
    let c : PartsCut (tick + 1) tx.parts = cut-parts (tick + 1) tx.parts (tx-rising tx.full tx.parts o.pair.tx_run.parts_are) in
    let S : List (Part TxTurn) → Type 0 = λ l. AreTimed l in
    let timed = timed-front c.later (before (tick + 1) tx.parts) (subst S (sym c.is) (tx-timed tx.full tx.parts o.pair.tx_run.parts_are)) in
    let early : AllByRecursion (InTicks (λ (t : ℕ). t ≤ tick)) (turns_of (before (tick + 1) tx.parts)) =
    turns-in (λ (t : ℕ). t ≤ tick) (before (tick + 1) tx.parts) timed.1 (all-weaker (λ (part : Part TxTurn). part.tick < tick + 1) (λ (part : Part TxTurn). part.tick ≤ tick) (before (tick + 1) tx.parts) (λ part lt. omega (arith, lt)) c.early) in
    record {
      later = tx.end ++ turns_of c.later;
      is = split-turns tx.end c.later (before (tick + 1) tx.parts) tx.parts c.is;
      late = all-join (InTicks (λ (t : ℕ). tick < t)) tx.end (turns_of c.later)
          (all-weaker (InTicks (λ (t : ℕ). t ≡ tx.last)) (InTicks (λ (t : ℕ). tick < t)) tx.end (λ turn is. omega (arith, is, below)) (tx-end tx.last tx.end o.pair.tx_run.ends))
          (turns-in (λ (t : ℕ). tick < t) c.later timed.0 (all-weaker (λ (part : Part TxTurn). tick + 1 ≤ part.tick) (λ (part : Part TxTurn). tick < part.tick) c.later (λ part le. omega (arith, le)) c.late));
      early = early;
      now = now-by tick (turns_of (before (tick + 1) tx.parts)) early;
    }

-- further turns read more
read-more : (set : TxSet) (number : ℕ) (front whole : List TxTurn) → IsFront front whole → length ((transfer_of set front).read number) ≤ length ((transfer_of set whole).read number)
read-more set number front whole so =
    let more : cells_in number (calls_by whole) ≡ cells_in number (calls_by front) ++ cells_in number (calls_by so.later) =
    ap (λ l. cells_in number (calls_by l)) so.is ∙ ap (cells_in number) (calls-append so.later front) ∙ flat_map-append (cell_read number) (calls_by front) (calls_by so.later) in
    omega (arith, ap (λ l. length (bytes_of l)) more, ap length (flat_map-append cell_bytes (cells_in number (calls_by front)) (cells_in number (calls_by so.later))), length-append (bytes_of (cells_in number (calls_by front))) (bytes_of (cells_in number (calls_by so.later))))

-- what is read of a session is no more than its record tells
read-told : (o : Whole) (unit : Cut Seen) (session : SessionRecord) (number : ℕ) → AreIdle o → IsNamed (delivery_of_route (route_told 0 0 o)) number unit session → length ((transfer_of o.pair.tx.set (sent o)).read number) ≤ session.bytes
read-told o unit session number idle named =
    let rx : RxSet = o.pair.rx.set in
    let law = stored_law_of rx (received o) o.far.received idle.rx in
    let puts : Puts rx.a (λ seq. bytes_of (put_in rx (received o) seq)) unit session = zip-pair (Puts rx.a (λ seq. bytes_of (put_in rx (received o) seq))) (attempts_in rx.functional (came_by frames_in (received o))) (records_by (received o)) named.place unit session law.puts named.unit_is named.session_is in
    omega (
      arith,
      read-put rx o.pair.tx.set (received o) (sent o) o.view number _ o.far refl,
      ap (λ n. length (bytes_of (put_in rx (received o) n))) named.seq_is,
      ap length (puts named.opened named.opened_is),
      length-take session.bytes (reassembled rx.a unit),
    )

holds-next : (o : Whole) (source_budget budget k : ℕ) (cut : Cut Seen) (one : DestRecord) → AreIdle o → slice_get (attempts_in false (transfer_of o.pair.tx.set (sent o)).frames) k ≡ Some cut → slice_get (filter has_sent (records_by (sent o))) k ≡ Some one →
    SendsFor (transfer_of o.pair.tx.set (sent o)) cut one → HoldsNext (route_told source_budget budget o) (held_at o.pair.tx.parts) cut one
holds-next o source_budget budget k cut one idle cut_is told_is sends unit session named tick below busy begun =
    let rx : RxSet = o.pair.rx.set in
    let tx : TxSet = o.pair.tx.set in
    let m : Moment o tick = moment o tick in
    let front : List TxTurn = turns_of (before (tick + 1) o.pair.tx.parts) in
    let own : IsOfDestination (leg_of budget o.pair.tx) one =
    all-at (IsOfDestination (leg_of budget o.pair.tx)) (filter has_sent (records_by (sent o))) k one (all-sent (IsOfDestination (leg_of budget o.pair.tx)) (records_by (sent o)) (dest_records o.pair.tx budget o.pair.tx_run).own) told_is in
    let f : Front o.pair.tx tick front = front-at o tick (omega (arith, below, own.end)) in
    let H : List TxTurn → Type 0 = λ l. HasSent tx l in
    let K : List TxTurn → Type 0 = λ l. slice_get (attempts_in false (transfer_of tx l).frames) k ≡ Some cut in
    let T : List TxTurn → Type 0 = λ l. slice_get (filter has_sent (records_by l)) k ≡ Some one in
    let S : List TxTurn → Type 0 = λ l. SendsFor (transfer_of tx l) cut one in
    let R : List RxTurn → Type 0 = λ l. HasReceived rx l in
    let I : List RxTurn → Type 0 = λ l. (state_after rx_new l).busy ≡ None in
    let U : List RxTurn → Type 0 = λ l. slice_get (attempts_in rx.functional (came_by frames_in l)) named.place ≡ Some unit in
    let V : List RxTurn → Type 0 = λ l. slice_get (records_by l) named.place ≡ Some session in
    let lies = lies-some (box_after front) busy in
    let held = held-up-to tx f.later front tick k cut one lies.0 o.far.shape (subst H (sym f.is) o.far.sent) f.late f.early f.now (subst K (sym f.is) cut_is) (subst T (sym f.is) told_is) (subst S (sym f.is) sends) below begun lies.1 in
    let put = put-up-to rx m.rx_later m.rx_front m.past named.place unit session named.opened (subst R (sym m.rx_is) o.far.received) (subst I (sym m.rx_is) idle.rx) m.rx_late m.rx_early (subst U (sym m.rx_is) named.unit_is) (subst V (sym m.rx_is) named.session_is) named.opened_is in
    let came : length ((transfer_of tx front).read one.seq) ≤ bytes_below (tick + o.pair.most) (walk_of rx.a unit).pieces = omega (
      arith,
      read-more tx one.seq front m.tx_front (m.tx_reach (tick + 1) (omega (arith, m.above))),
      read-put rx tx m.rx_front m.tx_front m.view one.seq _ m.far refl,
      ap (λ n. length (store rx.path.0 (calls_by m.rx_front) n)) named.seq_is,
      put,
      to-below m.past (tick + o.pair.most) (walk_of rx.a unit).pieces m.near,
    ) in
    let all : length ((transfer_of tx front).read one.seq) ≤ session.bytes = omega (arith, read-more tx one.seq front (sent o) (record { later = f.later; is = sym f.is }), read-told o unit session one.seq idle named) in
    omega (arith, held, came, all)

-- each transmission
pub holds-all : (o : Whole) (source_budget budget : ℕ) → AreIdle o → AllZip (HoldsNext (route_told source_budget budget o) (held_at o.pair.tx.parts)) (attempts_in false (transfer_of o.pair.tx.set (sent o)).frames) (filter has_sent (records_by (sent o)))
holds-all o source_budget budget idle =
    zip-index (SendsFor (transfer_of o.pair.tx.set (sent o))) (HoldsNext (route_told source_budget budget o) (held_at o.pair.tx.parts)) (attempts_in false (transfer_of o.pair.tx.set (sent o)).frames) (filter has_sent (records_by (sent o)))
    (λ k cut one cut_is told_is so. holds-next o source_budget budget k cut one idle cut_is told_is so) (sends-all o idle)
