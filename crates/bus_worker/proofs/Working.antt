-- A machine's step as work of the bus, and works one after another.
use Rattle.std.proofs.Common.{◌≡◌, ℕ, ◌+◌, ◌≤◌, Option, List, [], ◌∷◌, ◌++◌, refl, sym, subst, ◌∙◌, arith, append_assoc}
use Rattle.can_frame.specs.Frame.{CanFrame}
use Rattle.hub_core.specs.Stays.{PortState}
use Rattle.tp_receiver.specs.Port.{spare_for, takes_for}
use Rattle.tp_receiver.specs.State.{RxEvent}
use Rattle.tp_sender.specs.Runs.{InOrder}
use Rattle.tp_sender.specs.declared.event.TxEvent.{TxEvent}
use Rattle.tx_mailbox.specs.Boxes.{content}
use Rattle.bus_worker.proofs.Doing.{did-none, did-then, is-at-same}
use Rattle.bus_worker.proofs.Lying.{control_frame_once, data_frame_once}
use Rattle.bus_worker.proofs.Machines.{receiver-stays, sender-stays}
use Rattle.bus_worker.proofs.ReceiverSteps.{act-of, boxes-are, receiver-at, receiver-did}
use Rattle.bus_worker.proofs.SenderSteps.{act-of as sent-act, boxes-are as frames-are, sender-at, sender-did}
use Rattle.bus_worker.specs.Acts.{Act, sent_at}
use Rattle.bus_worker.specs.Did.{Did, IsAt}
use Rattle.bus_worker.specs.Phases.{Rests, RestsBy, Works, WorksAfter}
use Rattle.bus_worker.specs.Stands.{control_box, frame_box}
use Rattle.bus_worker.specs.Steps.{ReceiverWasTold, SenderWasTold}
use Rattle.bus_worker.specs.declared.worker.Worker.{Worker}

-- all machines stand later too
pub rests-later : {Home : Type 0} (since tick : ℕ) (acts : List Act) (w : Worker) (port : PortState Home) → since ≤ tick → Rests since acts w port → Rests tick acts w port
rests-later since tick acts w port by at = record {
  stand = record {
    receivers = λ place r is. receiver-stays r since tick [] port.view port.view _ (at.stand.receivers place r is) by refl refl;
    senders = λ place s is. sender-stays s since tick [] port.view port.view _ (at.stand.senders place s is) by refl refl;
    apart = at.stand.apart;
    few = at.stand.few;
  };
  acts_for = at.acts_for;
  lie = at.lie;
  routed = at.routed;
}

pub but-later : {Home : Type 0} (since tick : ℕ) (acts : List Act) (lies : ℕ → Option CanFrame) (w : Worker) (port : PortState Home) → since ≤ tick → IsAt since acts lies w port → IsAt tick acts lies w port
but-later since tick acts lies w port by at = record {
  stand = record {
    receivers = λ place r is. receiver-stays r since tick [] port.view port.view _ (at.stand.receivers place r is) by refl refl;
    senders = λ place s is. sender-stays s since tick [] port.view port.view _ (at.stand.senders place s is) by refl refl;
    apart = at.stand.apart;
    few = at.stand.few;
  };
  acts_for = at.acts_for;
  lie = at.lie;
  routed = at.routed;
}

-- a receiver's step that takes nothing out of its box
pub receiver-works : {Home : Type 0} (place tick : ℕ) (event : RxEvent) (v w : Worker) (old new : PortState Home) (told : ReceiverWasTold place event tick v w old new) → ((lies : Option CanFrame) → control_frame_once event lies ≡ lies) →
    WorksAfter tick (takes_for event) (spare_for event) (λ done. done ≡ act-of place tick event v w old new told ∷ []) v w old new
receiver-works place tick event v w old new told keeps since acts by at =
    let lies : ℕ → Option CanFrame = λ number. content number v.boxes in
    let box = sym (keeps (content (control_box place) v.boxes)) in
    record {
      done = act-of place tick event v w old new told ∷ [];
      at = is-at-same tick (act-of place tick event v w old new told ∷ acts) _ (λ number. content number w.boxes) w new (boxes-are place since tick event acts lies v w old new at by told box (λ number. refl)) (receiver-at place since tick event acts lies v w old new at by told box);
      did = receiver-did place since tick event acts lies v w old new at by told box;
      are = refl;
      sent = told.others.sent;
    }

-- a sender's step that takes nothing out of its box
pub sender-works : {Home : Type 0} (place tick : ℕ) (event : TxEvent) (v w : Worker) (old new : PortState Home) (told : SenderWasTold place event tick v w old new) → ((lies : Option CanFrame) → data_frame_once event lies ≡ lies) →
    (since : ℕ) (acts : List Act) → since ≤ tick → Rests since acts v old → InOrder event tick (sent_at place acts) →
    Works tick 0 0 (λ done. done ≡ sent-act place tick event v w old new told ∷ []) acts v w old new
sender-works place tick event v w old new told keeps since acts by at order =
    let lies : ℕ → Option CanFrame = λ number. content number v.boxes in
    let box = sym (keeps (content (frame_box place) v.boxes)) in
    record {
      done = sent-act place tick event v w old new told ∷ [];
      at = is-at-same tick (sent-act place tick event v w old new told ∷ acts) _ (λ number. content number w.boxes) w new (frames-are place since tick event acts lies v w old new at by order told box (λ number. refl)) (sender-at place since tick event acts lies v w old new at by order told box);
      did = sender-did place since tick event acts lies v w old new at by order told box;
      are = refl;
      sent = told.others.sent;
    }

-- what some work came to is said in other words
pub works-so : {Home : Type 0} (tick takes spare : ℕ) (Are So : List Act → Type 0) (acts : List Act) (v w : Worker) (old new : PortState Home) → ((done : List Act) → Are done → So done) → Works tick takes spare Are acts v w old new → Works tick takes spare So acts v w old new
works-so tick takes spare Are So acts v w old new so works = record { done = works.done; at = works.at; did = works.did; are = so works.done works.are; sent = works.sent }

-- no work
pub works-none : {Home : Type 0} (tick : ℕ) (Are : List Act → Type 0) (v : Worker) (port : PortState Home) → Are [] → WorksAfter tick 0 0 Are v v port port
works-none tick Are v port are since acts by at = record { done = []; at = rests-later since tick acts v port by at; did = did-none v v port refl refl refl refl; are = are; sent = refl }

-- one after the other
pub works-then : {Home : Type 0} (tick takes spare more most : ℕ) (Are Also Both : List Act → Type 0) (u v w : Worker) (one two three : PortState Home) →
    ((done later : List Act) → Did takes spare done u v one two → Are done → Also later → Both (later ++ done)) →
    WorksAfter tick takes spare Are u v one two → WorksAfter tick more most Also v w two three → WorksAfter tick (takes + more) (spare + most) Both u w one three
works-then {Home = Home} tick takes spare more most Are Also Both u v w one two three joins first second since acts by at =
    let a = first since acts by at in
    let b = second tick (a.done ++ acts) (omega arith) a.at in
    let R : List Act → Type 0 = λ l. Rests {Home = Home} tick l w three in
    record {
      done = b.done ++ a.done;
      at = subst R (sym (append_assoc b.done a.done acts)) b.at;
      did = did-then takes spare more most a.done b.done u v w one two three a.did b.did;
      are = joins a.done b.done a.did a.are b.are;
      sent = b.sent ∙ a.sent;
    }

-- after some work all machines stand again
pub rests-after : {Home : Type 0} (tick takes spare : ℕ) (Are : List Act → Type 0) (v w : Worker) (old new : PortState Home) → RestsBy tick v old → WorksAfter tick takes spare Are v w old new → RestsBy tick w new
rests-after tick takes spare Are v w old new rests works =
    let a = works rests.since rests.acts rests.by rests.at in
    record { since = tick; acts = a.done ++ rests.acts; by = omega arith; at = a.at }
