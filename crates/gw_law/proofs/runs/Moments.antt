-- For each tick of a run: all turns of both parties up to some tick less than a window later, with a view of what they did, and the
-- turns after it.
use Rattle.std.proofs.Common.{◌≡◌, ℕ, ◌+◌, ◌<◌, ◌≤◌, inl, inr, List, [], ◌++◌, refl, ap, sym, ◌∙◌, subst, arith, append_assoc}
use Rattle.std.specs.List.{AllByRecursion}
use Rattle.std.proofs.lemmas.Bool.{cases_lt}
use Rattle.gw_base.proofs.Lists.{all-join, all-weaker}
use Rattle.hub_core.specs.Turns.{Part, turns_of}
use Rattle.hub_core.specs.View.{View}
use Rattle.receiver_law.specs.RxRun.{IsRxRun, RxRun, turns_in as received_in}
use Rattle.sender_law.specs.Runs.{IsTxRun, TxRun, turns_in as sent_in}
use Rattle.sender_law.proofs.records.Origins.{InTicks as MomentIn}
use Rattle.tp_receiver.specs.State.{RxTurn}
use Rattle.tp_sender.specs.State.{TxTurn}
use Rattle.gw_law.specs.Deeds.{before}
use Rattle.gw_law.proofs.runs.Barriers.{Barrier, Pair, barrier}
use Rattle.gw_law.proofs.runs.Before.{AreTimed, Cut, below-last, cut, front-of, front-within, timed-front, turns-append, turns-in}
use Rattle.gw_law.proofs.runs.Fronts.{TurnIn}
use Rattle.gw_law.proofs.runs.Meetings.{AsFar}
use Rattle.gw_law.proofs.runs.Parts.{rx-end, rx-rising, rx-timed, tx-end, tx-rising, tx-timed}

-- a receiver and a sender of its path in a whole run
pub record Whole : Type 0 where
  pub pair : Pair
  pub last : ℕ
  pub rx_last : pair.rx.last ≡ last
  pub tx_last : pair.tx.last ≡ last
  pub view : View
  pub far : AsFar pair.rx.set pair.tx.set (received_in pair.rx) (sent_in pair.tx) view

abbrev pub received : Whole → List RxTurn
received o = received_in o.pair.rx

abbrev pub sent : Whole → List TxTurn
sent o = sent_in o.pair.tx

-- a list is some later turns and then these
pub record IsFront {T : Type 0} (front whole : List T) : Type 0 where
  pub later : List T
  pub is : whole ≡ later ++ front

pub front-all : {T : Type 0} (end : List T) (bound : ℕ) (parts : List (Part T)) → IsFront (turns_of (before bound parts)) (end ++ turns_of parts)
front-all end bound parts =
    let so = front-of bound parts in
    record { later = end ++ turns_of so.0; is = ap (λ l. end ++ turns_of l) so.1 ∙ ap (λ l. end ++ l) (turns-append so.0 (before bound parts)) ∙ sym (append_assoc end (turns_of so.0) (turns_of (before bound parts))) }

pub front-below : {T : Type 0} (low high : ℕ) (parts : List (Part T)) → low ≤ high → IsFront (turns_of (before low parts)) (turns_of (before high parts))
front-below low high parts le =
    let so = front-within low high parts le in
    record { later = turns_of so.0; is = ap turns_of so.1 ∙ turns-append so.0 (before low parts) }

pub record Moment (o : Whole) (tick : ℕ) : Type 0 where
  pub past : ℕ
  pub above : tick ≤ past
  pub near : past < tick + o.pair.most
  pub rx_later : List RxTurn
  pub rx_front : List RxTurn
  pub rx_is : rx_later ++ rx_front ≡ received o
  pub rx_late : AllByRecursion (TurnIn (λ (t : ℕ). past < t)) rx_later
  pub rx_early : AllByRecursion (TurnIn (λ (t : ℕ). t ≤ past)) rx_front
  pub tx_later : List TxTurn
  pub tx_front : List TxTurn
  pub tx_is : tx_later ++ tx_front ≡ sent o
  pub tx_late : AllByRecursion (MomentIn (λ (t : ℕ). past < t)) tx_later
  pub tx_early : AllByRecursion (MomentIn (λ (t : ℕ). t ≤ past)) tx_front
  -- the sender's turns below each tick up to then are among them
  pub tx_reach : (bound : ℕ) → bound ≤ past + 1 → IsFront (turns_of (before bound o.pair.tx.parts)) tx_front
  pub view : View
  pub far : AsFar o.pair.rx.set o.pair.tx.set rx_front tx_front view

-- a list of parts, and the turns after them
pub split-turns : {T : Type 0} (end : List T) (later front parts : List (Part T)) → later ++ front ≡ parts → (end ++ turns_of later) ++ turns_of front ≡ end ++ turns_of parts
split-turns end later front parts is = append_assoc end (turns_of later) (turns_of front) ∙ ap (λ l. end ++ l) (sym (turns-append later front)) ∙ ap (λ l. end ++ turns_of l) is

-- all turns of a run are of ticks up to the last one
pub rx-within : (run : RxRun) → IsRxRun run → AllByRecursion (TurnIn (λ (t : ℕ). t ≤ run.last)) (received_in run)
rx-within run is =
    all-join (TurnIn (λ (t : ℕ). t ≤ run.last)) run.end (turns_of run.parts)
    (all-weaker (TurnIn (λ (t : ℕ). t ≡ run.last)) (TurnIn (λ (t : ℕ). t ≤ run.last)) run.end (λ turn at. omega (arith, at)) (rx-end run.last run.end is.ends))
    (turns-in (λ (t : ℕ). t ≤ run.last) run.parts (rx-timed run.full run.parts is.parts_are)
    (all-weaker (λ (part : Part RxTurn). part.tick < run.last + 1) (λ (part : Part RxTurn). part.tick ≤ run.last) run.parts (λ part lt. omega (arith, lt)) (below-last (run.last + 1) run.parts is.in_time (rx-rising run.full run.parts is.parts_are))))

pub tx-within : (run : TxRun) → IsTxRun run → AllByRecursion (MomentIn (λ (t : ℕ). t ≤ run.last)) (sent_in run)
tx-within run is =
    all-join (MomentIn (λ (t : ℕ). t ≤ run.last)) run.end (turns_of run.parts)
    (all-weaker (MomentIn (λ (t : ℕ). t ≡ run.last)) (MomentIn (λ (t : ℕ). t ≤ run.last)) run.end (λ turn at. omega (arith, at)) (tx-end run.last run.end is.ends))
    (turns-in (λ (t : ℕ). t ≤ run.last) run.parts (tx-timed run.full run.parts is.parts_are)
    (all-weaker (λ (part : Part TxTurn). part.tick < run.last + 1) (λ (part : Part TxTurn). part.tick ≤ run.last) run.parts (λ part lt. omega (arith, lt)) (below-last (run.last + 1) run.parts is.in_time (tx-rising run.full run.parts is.parts_are))))

rx-by : (o : Whole) (past : ℕ) → o.last ≤ past → AllByRecursion (TurnIn (λ (t : ℕ). t ≤ past)) (received o)
rx-by o past le = all-weaker (TurnIn (λ (t : ℕ). t ≤ o.pair.rx.last)) (TurnIn (λ (t : ℕ). t ≤ past)) (received o) (λ turn at. omega (arith, at, o.rx_last, le)) (rx-within o.pair.rx o.pair.rx_run)

tx-by : (o : Whole) (past : ℕ) → o.last ≤ past → AllByRecursion (MomentIn (λ (t : ℕ). t ≤ past)) (sent o)
tx-by o past le = all-weaker (MomentIn (λ (t : ℕ). t ≤ o.pair.tx.last)) (MomentIn (λ (t : ℕ). t ≤ past)) (sent o) (λ turn at. omega (arith, at, o.tx_last, le)) (tx-within o.pair.tx o.pair.tx_run)

moment-by : (o : Whole) (tick : ℕ) → Barrier o.pair tick → Moment o tick
moment-by o tick b = elim (cases_lt b.past o.last) [
  | inl before_end ↦
      let rx : RxRun = o.pair.rx in
      let tx : TxRun = o.pair.tx in
      let rx_cut : Cut (b.past + 1) rx.parts = cut (b.past + 1) rx.parts (rx-rising rx.full rx.parts o.pair.rx_run.parts_are) in
      let tx_cut : Cut (b.past + 1) tx.parts = cut (b.past + 1) tx.parts (tx-rising tx.full tx.parts o.pair.tx_run.parts_are) in
      let R : List (Part RxTurn) → Type 0 = λ l. AreTimed l in
      let S : List (Part TxTurn) → Type 0 = λ l. AreTimed l in
      let rx_timed = timed-front rx_cut.later (before (b.past + 1) rx.parts) (subst R (sym rx_cut.is) (rx-timed rx.full rx.parts o.pair.rx_run.parts_are)) in
      let tx_timed = timed-front tx_cut.later (before (b.past + 1) tx.parts) (subst S (sym tx_cut.is) (tx-timed tx.full tx.parts o.pair.tx_run.parts_are)) in
      record {
        past = b.past;
        above = b.above;
        near = b.near;
        rx_later = rx.end ++ turns_of rx_cut.later;
        rx_front = turns_of (before (b.past + 1) rx.parts);
        rx_is = split-turns rx.end rx_cut.later (before (b.past + 1) rx.parts) rx.parts rx_cut.is;
        rx_late = all-join (TurnIn (λ (t : ℕ). b.past < t)) rx.end (turns_of rx_cut.later)
            (all-weaker (TurnIn (λ (t : ℕ). t ≡ rx.last)) (TurnIn (λ (t : ℕ). b.past < t)) rx.end (λ turn is. omega (arith, is, o.rx_last, before_end)) (rx-end rx.last rx.end o.pair.rx_run.ends))
            (turns-in (λ (t : ℕ). b.past < t) rx_cut.later rx_timed.0 (all-weaker (λ (part : Part RxTurn). b.past + 1 ≤ part.tick) (λ (part : Part RxTurn). b.past < part.tick) rx_cut.later (λ part le. omega (arith, le)) rx_cut.late));
        rx_early = turns-in (λ (t : ℕ). t ≤ b.past) (before (b.past + 1) rx.parts) rx_timed.1 (all-weaker (λ (part : Part RxTurn). part.tick < b.past + 1) (λ (part : Part RxTurn). part.tick ≤ b.past) (before (b.past + 1) rx.parts) (λ part lt. omega (arith, lt)) rx_cut.early);
        tx_reach = λ bound le. front-below bound (b.past + 1) tx.parts le;
        tx_later = tx.end ++ turns_of tx_cut.later;
        tx_front = turns_of (before (b.past + 1) tx.parts);
        tx_is = split-turns tx.end tx_cut.later (before (b.past + 1) tx.parts) tx.parts tx_cut.is;
        tx_late = all-join (MomentIn (λ (t : ℕ). b.past < t)) tx.end (turns_of tx_cut.later)
            (all-weaker (MomentIn (λ (t : ℕ). t ≡ tx.last)) (MomentIn (λ (t : ℕ). b.past < t)) tx.end (λ turn is. omega (arith, is, o.tx_last, before_end)) (tx-end tx.last tx.end o.pair.tx_run.ends))
            (turns-in (λ (t : ℕ). b.past < t) tx_cut.later tx_timed.0 (all-weaker (λ (part : Part TxTurn). b.past + 1 ≤ part.tick) (λ (part : Part TxTurn). b.past < part.tick) tx_cut.later (λ part le. omega (arith, le)) tx_cut.late));
        tx_early = turns-in (λ (t : ℕ). t ≤ b.past) (before (b.past + 1) tx.parts) tx_timed.1 (all-weaker (λ (part : Part TxTurn). part.tick < b.past + 1) (λ (part : Part TxTurn). part.tick ≤ b.past) (before (b.past + 1) tx.parts) (λ part lt. omega (arith, lt)) tx_cut.early);
        view = b.view;
        far = b.far;
      }
  | inr at_end ↦ record {
    past = b.past;
    above = b.above;
    near = b.near;
    rx_later = [];
    rx_front = received o;
    rx_is = refl;
    rx_late = tt;
    rx_early = rx-by o b.past at_end;
    tx_later = [];
    tx_front = sent o;
    tx_is = refl;
    tx_late = tt;
    tx_early = tx-by o b.past at_end;
    tx_reach = λ bound le. front-all o.pair.tx.end bound o.pair.tx.parts;
    view = o.view;
    far = o.far;
  }
]

pub moment : (o : Whole) (tick : ℕ) → Moment o tick
moment o tick = moment-by o tick (barrier o.pair tick)
