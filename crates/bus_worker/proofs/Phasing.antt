-- The phases of a tick in which each machine is told once: what they need, and how they go from channel to channel.
use Rattle.std.proofs.Common.{◌≡◌, inl, inr, ℕ, ◌+◌, ◌≤◌, Some, None, List, [], ◌∷◌, ◌++◌, refl, ap, sym, subst, ◌∙◌, arith, append-nil}
use Rattle.std.specs.Prelude.{option_map}
use Rattle.std.proofs.lemmas.Bool.{cases_eq}
use Rattle.gw_base.proofs.Lists.{none-some}
use Rattle.hub_core.specs.Stays.{PortState}
use Rattle.tp_receiver.specs.Port.{CanTake}
use Rattle.tp_receiver.specs.State.{RxEvent, RxTurn}
use Rattle.tp_sender.specs.State.{TxTurn}
use Rattle.tp_sender.specs.declared.event.TxEvent.{TxEvent}
use Rattle.tp_sender.specs.declared.event.TxEvent.TheVariants.{Left, Turn}
use Rattle.bus_worker.proofs.ActLists.{received-append, received-other, received-own, sent-append, sent-other, sent-own}
use Rattle.bus_worker.proofs.Knowing.{waits-later}
use Rattle.bus_worker.proofs.ReceiverSteps.{act-of}
use Rattle.bus_worker.proofs.SenderSteps.{act-of as sent-act}
use Rattle.bus_worker.specs.Acts.{Act, received_at, sent_at}
use Rattle.bus_worker.specs.Phases.{AreReceived, AreTurns, IsReceived, IsSent, IsTurn, OneReceived, OneSent, RestsBy}
use Rattle.bus_worker.specs.Stands.{SameChannels, receiver_at, receives_at, sender_at, sends_at}
use Rattle.bus_worker.specs.Steps.{ReceiverWasTold, SenderWasTold}
use Rattle.bus_worker.specs.Told.{CanTellReceiver, CanTellSender}
use Rattle.bus_worker.specs.declared.channel.Channel.{Channel}
use Rattle.bus_worker.specs.declared.channel.Receiving.{Receiving}
use Rattle.bus_worker.specs.declared.channel.Sending.{Sending}
use Rattle.bus_worker.specs.declared.worker.Worker.{Worker}

-- a receiver can be told of what needs nothing beside
pub can-be-told : {Home : Type 0} (tick place : ℕ) (event : RxEvent) (w : Worker) (port : PortState Home) → ((r : Receiving) → CanTake r.machine.set port.means r.machine.next_n event) → RestsBy tick w port → (r : Receiving) → receiver_at w.channels.items place ≡ Some r → CanTellReceiver r event tick port
can-be-told tick place event w port can rests r is = record {
  acts = rests.at.acts_for.receivers place (r.machine.set, r.shape) (ap (option_map (λ (x : Receiving). (x.machine.set, x.shape))) is);
  knows = (rests.at.stand.receivers place r is).knows;
  waits = waits-later r.machine rests.since tick rests.by (rests.at.stand.receivers place r is).waits;
  can = can r;
}

-- a sender can be told of all but that its frame has left
pub can-be-told-sender : {Home : Type 0} (tick place : ℕ) (event : TxEvent) (w : Worker) (port : PortState Home) → (event ≡ Left → ⊥) → tick ≤ 10000000 → RestsBy tick w port → (s : Sending) → sender_at w.channels.items place ≡ Some s → CanTellSender s event tick port
can-be-told-sender tick place event w port other limit rests s is =
    let stands = rests.at.stand.senders place s is in
    record {
      knows = stands.knows;
      acts = rests.at.acts_for.senders place s.machine.set (ap (option_map (λ (x : Sending). x.machine.set)) is);
      since = (let a = stands.since in let b = rests.by in omega (arith, a, b));
      tick_is = limit;
      left = λ is'. absurd (other is');
    }

receives-there : (place : ℕ) (channels : List Channel) (r : Receiving) → receiver_at channels place ≡ Some r → receives_at channels place ≡ None → ⊥
receives-there place channels r is none = none-some none (ap (option_map (λ (x : Receiving). (x.machine.set, x.shape))) is)

sends-there : (place : ℕ) (channels : List Channel) (s : Sending) → sender_at channels place ≡ Some s → sends_at channels place ≡ None → ⊥
sends-there place channels s is none = none-some none (ap (option_map (λ (x : Sending). x.machine.set)) is)

-- a receiver's step is one turn of it, and where a channel is no source there is none
pub received-is : {Home : Type 0} (place tick : ℕ) (event : RxEvent) (v w : Worker) (old new : PortState Home) (told : ReceiverWasTold place event tick v w old new) (done : List Act) → done ≡ act-of place tick event v w old new told ∷ [] → IsReceived tick event place v.channels.items done
received-is place tick event v w old new told done is = record {
  own = λ one there. record { turn = record { event = event; did = told.tells.did }; turns_are = ap (received_at place) is ∙ received-own place (record { event = event; did = told.tells.did }) []; event_is = refl; tick_is = told.tells.tick_is };
  none = λ none. absurd (receives-there place v.channels.items told.before told.was none);
  others = λ other ne. ap (received_at other) is ∙ received-other place other (record { event = event; did = told.tells.did }) [] ne;
  senders = λ other. ap (sent_at other) is;
}

pub not-received : (tick : ℕ) (event : RxEvent) (place : ℕ) (channels : List Channel) → receiver_at channels place ≡ None → IsReceived tick event place channels []
not-received tick event place channels none = record {
  own = λ one there. absurd (none-some (ap (option_map (λ (x : Receiving). (x.machine.set, x.shape))) none) there);
  none = λ none'. refl;
  others = λ other ne. refl;
  senders = λ other. refl;
}

-- a sender's step is one turn of it, and where a channel is no destination there is none
pub sent-is : {Home : Type 0} (place tick : ℕ) (event : TxEvent) (v w : Worker) (old new : PortState Home) (told : SenderWasTold place event tick v w old new) (done : List Act) → done ≡ sent-act place tick event v w old new told ∷ [] → IsSent tick event place v.channels.items done
sent-is place tick event v w old new told done is = record {
  own = λ one there. record { turn = record { event = event; did = told.tells.did }; turns_are = ap (sent_at place) is ∙ sent-own place (record { event = event; did = told.tells.did }) []; event_is = refl; tick_is = told.tells.tick_is };
  none = λ none. absurd (sends-there place v.channels.items told.before told.was none);
  others = λ other ne. ap (sent_at other) is ∙ sent-other place other (record { event = event; did = told.tells.did }) [] ne;
  receivers = λ other. ap (received_at other) is;
}

pub not-sent : (tick : ℕ) (event : TxEvent) (place : ℕ) (channels : List Channel) → sender_at channels place ≡ None → IsSent tick event place channels []
not-sent tick event place channels none = record {
  own = λ one there. absurd (none-some (ap (option_map (λ (x : Sending). x.machine.set)) none) there);
  none = λ none'. refl;
  others = λ other ne. refl;
  receivers = λ other. refl;
}

-- before the first channel
pub none-received : (tick : ℕ) (event : RxEvent) (channels : List Channel) → AreReceived tick event 0 channels []
none-received tick event channels = record { each = λ place one below there. absurd (omega (arith, below)); later = λ place above. refl; none = λ place is. refl; senders = λ place. refl }

pub no-turns : (tick : ℕ) (channels : List Channel) → AreTurns tick 0 channels []
no-turns tick channels = record { each = λ place one below there. absurd (omega (arith, below)); later = λ place above. refl; none = λ place is. refl; receivers = λ place. refl }

-- turns of which the later ones are none, or the earlier ones
only-earlier : {A : Type 0} (all later earlier : List A) → all ≡ later ++ earlier → later ≡ [] → all ≡ earlier
only-earlier all later earlier is none = is ∙ ap (λ l. l ++ earlier) none

only-later : {A : Type 0} (all later earlier : List A) → all ≡ later ++ earlier → earlier ≡ [] → all ≡ later
only-later all later earlier is none = is ∙ ap (λ l. later ++ l) none ∙ append-nil later

-- one channel further
pub received-next : (tick count : ℕ) (event : RxEvent) (first channels : List Channel) (done more : List Act) → SameChannels first channels → AreReceived tick event count first done → IsReceived tick event count channels more → AreReceived tick event (count + 1) first (more ++ done)
received-next tick count event first channels done more same so one = record {
  each = λ place set below there. elim (cases_eq place count) [
    | inl here ↦
        let O : List RxTurn → Type 0 = λ l. OneReceived tick event l in
        let own = one.own set (same.receives count ∙ ap (receives_at first) (sym here) ∙ there) in
        subst O (sym (only-later (received_at place (more ++ done)) (received_at count more) (received_at place done) (received-append place more done ∙ ap (λ p. received_at p more ++ received_at place done) here) (so.later place (omega (arith, here))))) own
    | inr ne ↦
        let O : List RxTurn → Type 0 = λ l. OneReceived tick event l in
        subst O (sym (only-earlier (received_at place (more ++ done)) (received_at place more) (received_at place done) (received-append place more done) (one.others place ne))) (so.each place set (omega (arith, below, ne)) there)
  ];
  later = λ place above. received-append place more done ∙ ap (λ l. l ++ received_at place done) (one.others place (λ is. omega (arith, is, above))) ∙ so.later place (omega (arith, above));
  none = λ place is. received-append place more done ∙ ap (λ l. received_at place more ++ l) (so.none place is) ∙ append-nil (received_at place more) ∙ elim (cases_eq place count) [
    | inl here ↦ ap (λ p. received_at p more) here ∙ one.none (same.receives count ∙ ap (receives_at first) (sym here) ∙ is)
    | inr ne ↦ one.others place ne
  ];
  senders = λ place. sent-append place more done ∙ ap (λ l. l ++ sent_at place done) (one.senders place) ∙ so.senders place;
}

pub turns-next : (tick count : ℕ) (first channels : List Channel) (done more : List Act) → SameChannels first channels → AreTurns tick count first done → IsTurn tick count channels more → AreTurns tick (count + 1) first (more ++ done)
turns-next tick count first channels done more same so one = record {
  each = λ place set below there. elim (cases_eq place count) [
    | inl here ↦
        let O : List TxTurn → Type 0 = λ l. OneSent tick Turn l in
        let own = one.own set (same.sends count ∙ ap (sends_at first) (sym here) ∙ there) in
        subst O (sym (only-later (sent_at place (more ++ done)) (sent_at count more) (sent_at place done) (sent-append place more done ∙ ap (λ p. sent_at p more ++ sent_at place done) here) (so.later place (omega (arith, here))))) own
    | inr ne ↦
        let O : List TxTurn → Type 0 = λ l. OneSent tick Turn l in
        subst O (sym (only-earlier (sent_at place (more ++ done)) (sent_at place more) (sent_at place done) (sent-append place more done) (one.others place ne))) (so.each place set (omega (arith, below, ne)) there)
  ];
  later = λ place above. sent-append place more done ∙ ap (λ l. l ++ sent_at place done) (one.others place (λ is. omega (arith, is, above))) ∙ so.later place (omega (arith, above));
  none = λ place is. sent-append place more done ∙ ap (λ l. sent_at place more ++ l) (so.none place is) ∙ append-nil (sent_at place more) ∙ elim (cases_eq place count) [
    | inl here ↦ ap (λ p. sent_at p more) here ∙ one.none (same.sends count ∙ ap (sends_at first) (sym here) ∙ is)
    | inr ne ↦ one.others place ne
  ];
  receivers = λ place. received-append place more done ∙ ap (λ l. l ++ received_at place done) (one.receivers place) ∙ so.receivers place;
}
