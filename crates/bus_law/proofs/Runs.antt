-- What each machine of a bus did in a run is a run of that machine.
use Rattle.std.proofs.Common.{◌≡◌, inl, inr, ℕ, Bool, None, Some, List, [], ◌∷◌, ◌++◌, refl, ap, sym, subst, ◌∙◌, arith}
use Rattle.hub_core.specs.Turns.{state_after, turns_of}
use Rattle.receiver_law.specs.Parts.{EndsReceiving}
use Rattle.receiver_law.specs.RxRun.{AreRxParts, IsRxIdle, IsRxPart}
use Rattle.sender_law.specs.Parts.{IsTxPart}
use Rattle.sender_law.specs.Runs.{AreTxParts, IsTxIdle}
use Rattle.tp_receiver.specs.Runs.{HasReceived}
use Rattle.tp_receiver.specs.State.{RunEnd, RxTurn}
use Rattle.tp_receiver.specs.declared.set.RxSet.{RxSet}
use Rattle.tp_sender.specs.Runs.{HasSent}
use Rattle.tp_sender.specs.State.{TxTurn, tx_new}
use Rattle.tp_sender.specs.declared.set.TxSet.{TxSet}
use Rattle.tp_unit.specs.Box.{Written}
use Rattle.tp_unit.specs.declared.shape.Shape.{Shape}
use Rattle.gw_law.specs.Account.{is_full_for}
use Rattle.bus_worker.proofs.ActLists.{received-append, sent-append}
use Rattle.bus_worker.specs.Acts.{received_at, sent_at}
use Rattle.bus_worker.specs.History.{AreBusTicks, BusTick, Follow, acts_in, left_in as left_on}
use Rattle.bus_worker.specs.Phases.{OneReceived}
use Rattle.bus_worker.specs.Stands.{receives_at, sends_at}
use Rattle.bus_worker.specs.declared.channel.Channel.{Channel}
use Rattle.bus_worker.specs.declared.comes.Comes.{Comes}
use Rattle.bus_law.proofs.LeftIn.{Agree, agree}
use Rattle.bus_law.proofs.RxParts.{rx-part}
use Rattle.bus_law.proofs.Turns.{received-after, sent-after, turns-received, turns-sent}
use Rattle.bus_law.proofs.TxParts.{tx-part}
use Rattle.bus_law.specs.Laws.{ReceiversRun, SendersRun}
use Rattle.bus_law.specs.Runs.{received_parts, sent_parts, tick_acts}

-- a receiver's parts, tick by tick
rx-parts : (budget : ℕ) (routes : List Comes) (channels : List Channel) (left : List Written) (ticks : List BusTick) (place : ℕ) (one : RxSet × Shape) → receives_at channels place ≡ Some one →
    Agree left ticks → AreBusTicks budget routes channels [] ticks → Follow channels ticks → AreRxParts (is_full_for budget left one.1.id) (received_parts place ticks)
rx-parts budget routes channels left [] place one there agrees are follow = tt
rx-parts budget routes channels left (t ∷ earlier) place one there agrees are follow =
    let full : ℕ → Bool = is_full_for budget left one.1.id in
    let after = received-after place earlier in
    let I : List RxTurn → Type 0 = λ l. IsRxIdle l in
    let P : List RxTurn → Type 0 = λ l. IsRxPart full l (record { tick = t.tick; turns = received_at place (tick_acts t) }) in (
      record {
        later = (let low = follow.0 in omega (arith, low, after));
        next = elim follow.1 [
          | inl idle ↦ inl (subst I (sym (turns-received place earlier)) (idle.receivers place one there))
          | inr row ↦ inr (row ∙ sym after)
        ];
        part_is = subst P (sym (turns-received place earlier)) (rx-part budget routes channels (acts_in earlier) t are.0 place one there left agrees.0);
      },
      rx-parts budget routes channels left earlier place one there agrees.1 are.1 follow.2,
    )

ends-receiving : (last : ℕ) (turns : List RxTurn) → OneReceived last RunEnd turns → EndsReceiving last turns
ends-receiving last turns one = subst (λ (l : List RxTurn). EndsReceiving last l) (sym one.turns_are) (one.event_is, one.tick_is, refl)

pub receivers-run : ReceiversRun
receivers-run budget last routes channels ticks end run tables place one there =
    let turns : received_at place (end ++ acts_in ticks) ≡ received_at place end ++ turns_of (received_parts place ticks) = received-append place end (acts_in ticks) ∙ ap (λ l. received_at place end ++ l) (sym (turns-received place ticks)) in
    let H : List RxTurn → Type 0 = λ l. HasReceived one.0 l in
    let I : List RxTurn → Type 0 = λ l. IsRxIdle l in
    let after = received-after place ticks in
    record {
      happened = subst H turns (tables.receivers place one there).0;
      parts_are = rx-parts budget routes channels (left_on ticks) ticks place one there (agree channels ticks run.follow) run.ticks_are run.follow;
      in_time = (let t = run.in_time in omega (arith, t, after));
      reached = elim run.reached [
        | inl idle ↦ inl (subst I (sym (turns-received place ticks)) (idle.receivers place one there))
        | inr row ↦ inr (after ∙ row)
      ];
      ends = ends-receiving last (received_at place end) (run.ends.receivers place one there);
    }

-- a sender's parts
tx-parts : (budget : ℕ) (routes : List Comes) (channels : List Channel) (left : List Written) (ticks : List BusTick) (place : ℕ) (set : TxSet) → sends_at channels place ≡ Some set →
    Agree left ticks → AreBusTicks budget routes channels [] ticks → Follow channels ticks → AreTxParts (is_full_for budget left set.shape.id) (sent_parts place ticks)
tx-parts budget routes channels left [] place set there agrees are follow = tt
tx-parts budget routes channels left (t ∷ earlier) place set there agrees are follow =
    let full : ℕ → Bool = is_full_for budget left set.shape.id in
    let after = sent-after place earlier in
    let I : List TxTurn → Type 0 = λ l. IsTxIdle l in
    let P : List TxTurn → Type 0 = λ l. IsTxPart full l (record { tick = t.tick; turns = sent_at place (tick_acts t) }) in (
      record {
        later = (let low = follow.0 in omega (arith, low, after));
        next = elim follow.1 [
          | inl idle ↦ inl (subst I (sym (turns-sent place earlier)) (idle.senders place set there))
          | inr row ↦ inr (row ∙ sym after)
        ];
        part_is = subst P (sym (turns-sent place earlier)) (tx-part budget routes channels (acts_in earlier) t are.0 place set there left agrees.0);
      },
      tx-parts budget routes channels left earlier place set there agrees.1 are.1 follow.2,
    )

pub senders-run : SendersRun
senders-run budget last routes channels ticks end run tables place set there =
    let turns : sent_at place (end ++ acts_in ticks) ≡ sent_at place end ++ turns_of (sent_parts place ticks) = sent-append place end (acts_in ticks) ∙ ap (λ l. sent_at place end ++ l) (sym (turns-sent place ticks)) in
    let H : List TxTurn → Type 0 = λ l. HasSent set l in
    let L : List TxTurn → Type 0 = λ l. (state_after tx_new l).live ≡ None in
    let I : List TxTurn → Type 0 = λ l. IsTxIdle l in
    let after = sent-after place ticks in
    record {
      shape = (tables.senders place set there).1;
      happened = subst H turns (tables.senders place set there).0;
      parts_are = tx-parts budget routes channels (left_on ticks) ticks place set there (agree channels ticks run.follow) run.ticks_are run.follow;
      in_time = (let t = run.in_time in omega (arith, t, after));
      reached = elim run.reached [
        | inl idle ↦ inl (subst I (sym (turns-sent place ticks)) (idle.senders place set there))
        | inr row ↦ inr (after ∙ row)
      ];
      ends = run.ends.senders place;
      idle = subst L turns (tables.idle place set there);
    }
