-- The phases of a tick, one after another.
use Rattle.std.proofs.Common.{inl, inr, ℕ, ◌+◌, ◌*◌, ◌≤◌, List, [], ◌∷◌, ◌++◌, length, ap, sym, subst, ◌∙◌, arith, append_assoc}
use Rattle.std.proofs.lemmas.Bool.{cases_eq}
use Rattle.can_frame.specs.Frame.{CanFrame}
use Rattle.hub_core.specs.Stays.{PortState}
use Rattle.tp_sender.specs.Runs.{after_left, clear_from}
use Rattle.tp_sender.specs.State.{TxTurn}
use Rattle.tp_sender.specs.declared.event.TxEvent.{TxEvent}
use Rattle.tx_mailbox.specs.Boxes.{IsEmitted, Pending, content}
use Rattle.bus_worker.proofs.ActLists.{sent-other, sent-own}
use Rattle.bus_worker.proofs.Configured.{lies-as-configured}
use Rattle.bus_worker.proofs.Counted.{timers-clear, turns-clear}
use Rattle.bus_worker.proofs.Doing.{did-then}
use Rattle.bus_worker.proofs.HeardAll.{are-heard-clear}
use Rattle.bus_worker.specs.Acts.{Act, Sent, sent_at}
use Rattle.bus_worker.specs.Did.{Did}
use Rattle.bus_worker.specs.Emission.{AreLeaving, Control, Data, EmitsAfter, IsLeaving, all_sent_in}
use Rattle.bus_worker.specs.Hearing.{HearsAll}
use Rattle.bus_worker.specs.Phases.{AreTimers, AreTurns, TimesAll, TurnsAll}
use Rattle.bus_worker.specs.Stands.{SameChannels}
use Rattle.bus_worker.specs.Tick.{WorksTick}
use Rattle.bus_worker.specs.declared.channel.Channel.{Channel}
use Rattle.bus_worker.specs.declared.worker.Worker.{Worker}

-- timers and turns don't hang on how the machines went on
pub timers-same : (tick count : ℕ) (old new : List Channel) (done : List Act) → SameChannels old new → AreTimers tick count new done → AreTimers tick count old done
timers-same tick count old new done same timers = record {
  each = λ place one below is. timers.each place one below (same.receives place ∙ is);
  later = timers.later;
  none = λ place is. timers.none place (same.receives place ∙ is);
  senders = timers.senders;
}

pub turns-same : (tick count : ℕ) (old new : List Channel) (done : List Act) → SameChannels old new → AreTurns tick count new done → AreTurns tick count old done
turns-same tick count old new done same turns = record {
  each = λ place one below is. turns.each place one below (same.sends place ∙ is);
  later = turns.later;
  none = λ place is. turns.none place (same.sends place ∙ is);
  receivers = turns.receivers;
}

-- a frame that left is clear in the next tick
act-clear : (tick number place : ℕ) (act : Act) (acts : List Act) → IsLeaving tick number act → clear_from (sent_at place acts) ≤ tick + 1 → clear_from (sent_at place (act ∷ acts)) ≤ tick + 1
act-clear tick number place act acts (Control other turn number_is is event tick_is) clear = subst (λ (a : Act). clear_from (sent_at place (a ∷ acts)) ≤ tick + 1) (sym is) clear
act-clear tick number place act acts (Data other turn number_is is event tick_is) clear =
    let A : Act → Type 0 = λ a. clear_from (sent_at place (a ∷ acts)) ≤ tick + 1 in
    let L : List TxTurn → Type 0 = λ l. clear_from l ≤ tick + 1 in
    let E : TxEvent → Type 0 = λ e. after_left e turn.did.tick (clear_from (sent_at place acts)) ≤ tick + 1 in
    subst A (sym is) (elim (cases_eq place other) [
      | inl here ↦ subst (λ (p : ℕ). clear_from (sent_at place (Sent p turn ∷ acts)) ≤ tick + 1) here (subst L (sym (sent-own place turn acts)) (subst E (sym event) (omega (arith, tick_is))))
      | inr ne ↦ subst L (sym (sent-other other place turn acts ne)) clear
    ])

leaving-clear : (tick place : ℕ) (out : List Pending) (done acts : List Act) → AreLeaving tick out done → clear_from (sent_at place acts) ≤ tick + 1 → clear_from (sent_at place (done ++ acts)) ≤ tick + 1
leaving-clear tick place [] done acts none clear = subst (λ (l : List Act). clear_from (sent_at place (l ++ acts)) ≤ tick + 1) (sym none) clear
leaving-clear tick place (entry ∷ later) done acts so clear =
    let P : List Act → Type 0 = λ l. clear_from (sent_at place l) ≤ tick + 1 in
    subst P (sym (ap (λ l. l ++ acts) so.2 ∙ append_assoc so.1 (so.0 ∷ []) acts)) (leaving-clear tick place later so.1 (so.0 ∷ acts) so.4 (act-clear tick entry.0 place so.0 acts so.3 clear))

pub ticks : {Home : Type 0} (tick : ℕ) (frames : List CanFrame) (u a b c d : Worker) (pu pa pb pc pd : PortState Home) → HearsAll tick frames u a pu pa → TimesAll tick (length a.channels.items) a b pa pb → TurnsAll tick (length b.channels.items) b c pb pc → EmitsAfter tick c d pc pd → WorksTick tick frames u d pu pd
ticks {Home = Home} tick frames u a b c d pu pa pb pc pd hears times turns_all emits since acts by at clear =
    let one = hears since acts by at clear in
    let two = times tick (one.done ++ acts) (omega arith) one.at in
    let three = turns_all tick (two.done ++ (one.done ++ acts)) (omega arith) two.at in
    let four = emits tick (three.done ++ (two.done ++ (one.done ++ acts))) (omega arith) three.at in
    let n : ℕ = length frames in
    let first = did-then n (9 * n) 0 0 one.done two.done u a b pu pa pb one.did two.did in
    let second = did-then (n + 0) (9 * n + 0) 0 0 (two.done ++ one.done) three.done u b c pu pb pc first three.did in
    let third = did-then (n + 0 + 0) (9 * n + 0 + 0) 0 0 (three.done ++ (two.done ++ one.done)) four.done u c d pu pc pd second four.did in
    let N : ℕ → Type 0 = λ k. Did {Home = Home} k (9 * n + 0 + 0 + 0) (four.done ++ (three.done ++ (two.done ++ one.done))) u d pu pd in
    let M : ℕ → Type 0 = λ k. Did {Home = Home} n k (four.done ++ (three.done ++ (two.done ++ one.done))) u d pu pd in
    let T : ℕ → Type 0 = λ k. AreTimers tick k u.channels.items two.done in
    let S : ℕ → Type 0 = λ k. AreTurns tick k u.channels.items three.done in
    let B : ℕ → Type 0 = λ k. IsEmitted k c.boxes four.out four.after in
    record {
      came = one.done;
      timers = two.done;
      turns = three.done;
      left = four.done;
      at = four.at;
      did = subst M (omega arith) (subst N (omega arith) third);
      heard = one.are;
      timed = subst T one.did.channels.count (timers-same tick (length a.channels.items) u.channels.items a.channels.items two.done one.did.channels two.are);
      turned = subst S (two.did.channels.count ∙ one.did.channels.count) (turns-same tick (length b.channels.items) u.channels.items b.channels.items three.done first.channels three.are);
      before = c.boxes;
      lay = lies-as-configured (three.done ++ (two.done ++ (one.done ++ acts))) u.channels.items c.channels.items (λ number. content number c.boxes) second.channels three.at.lie;
      out = four.out;
      after = four.after;
      emitted = subst B second.budget four.emitted;
      told = four.are;
      sent = four.sent ∙ ap (λ l. l ++ all_sent_in tick four.out) (three.sent ∙ two.sent ∙ one.sent);
      clear = λ place. leaving-clear tick place four.out four.done (three.done ++ (two.done ++ (one.done ++ acts))) four.are
          (let low = turns-clear tick (length b.channels.items) tick place b.channels.items three.done (two.done ++ (one.done ++ acts)) three.are
          (timers-clear tick (length a.channels.items) tick place a.channels.items two.done (one.done ++ acts) two.are
          (are-heard-clear tick tick place u.routes.items u.channels.items frames one.done acts one.are (clear place))) in
          omega (arith, low));
    }
