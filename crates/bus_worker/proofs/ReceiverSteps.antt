-- A step of one receiver of the bus: all machines stand after it.
use Rattle.std.proofs.Common.{◌≡◌, ◌≢◌, inl, inr, ℕ, ◌≤◌, Option, Some, List, [], ◌∷◌, ap, sym, subst, ◌∙◌, arith}
use Rattle.std.specs.Prelude.{option_map}
use Rattle.std.proofs.lemmas.Bool.{cases_eq}
use Rattle.can_frame.specs.Frame.{CanFrame}
use Rattle.gw_base.proofs.Lists.{none-some, same-some}
use Rattle.hub_core.proofs.Growing.{at_one-other, at_one-same}
use Rattle.hub_core.specs.Stays.{PortState}
use Rattle.hub_core.specs.View.{at_one}
use Rattle.tp_receiver.specs.Port.{spare_for, takes_for}
use Rattle.tp_receiver.specs.Runs.{control_after, control_once}
use Rattle.tp_receiver.specs.State.{RxEvent, RxTurn}
use Rattle.tp_receiver.specs.declared.set.RxSet.{RxSet}
use Rattle.tp_unit.specs.declared.shape.Shape.{Shape}
use Rattle.tx_mailbox.specs.Boxes.{content}
use Rattle.bus_worker.proofs.ActLists.{differs, received-other, received-own}
use Rattle.bus_worker.proofs.Configured.{acts-for-stays, apart-stays, routed-stays}
use Rattle.bus_worker.proofs.Lying.{control_frame_once, framed-control, framed-then}
use Rattle.bus_worker.proofs.Machines.{receiver-stays, receiver-turn, sender-stays, turn-of}
use Rattle.bus_worker.specs.Acts.{Act, Received, received_at, sent_at}
use Rattle.bus_worker.specs.Boxed.{frame_then}
use Rattle.bus_worker.specs.Did.{Did, IsAt}
use Rattle.bus_worker.specs.Stands.{LieThere, ReceiverStands, SameChannels, SenderStands, control_box, frame_box, framed, receiver_at, receives_at, sender_at}
use Rattle.bus_worker.specs.Steps.{ReceiverWasTold}
use Rattle.bus_worker.specs.declared.channel.Receiving.{Receiving}
use Rattle.bus_worker.specs.declared.channel.Sending.{Sending}
use Rattle.bus_worker.specs.declared.worker.Worker.{Worker}

-- the act that the step was
abbrev pub act-of : {Home : Type 0} (place tick : ℕ) (event : RxEvent) (v w : Worker) (old new : PortState Home) → ReceiverWasTold place event tick v w old new → Act
act-of place tick event v w old new told = Received place (turn-of event told.tells.did)

-- where its flow controls lie, and what lies in the boxes then
abbrev pub lies-then : (place : ℕ) → Worker → (ℕ → Option CanFrame) → ℕ → Option CanFrame
lies-then place w lies = at_one (control_box place) (content (control_box place) w.boxes) lies

module _ {Home : Type 0} (place t tick : ℕ) (event : RxEvent) (acts : List Act) (lies : ℕ → Option CanFrame) (v w : Worker) (old new : PortState Home)
    (at : IsAt t acts lies v old) (by : t ≤ tick) (told : ReceiverWasTold place event tick v w old new)
    (box : content (control_box place) v.boxes ≡ control_frame_once event (lies (control_box place))) where
  senders-are : (other : ℕ) → sender_at w.channels.items other ≡ sender_at v.channels.items other
  senders-are other = elim (cases_eq other place) [
    | inl same ↦ ap (sender_at w.channels.items) same ∙ told.sender ∙ ap (sender_at v.channels.items) (sym same)
    | inr ne ↦ told.others.senders other ne
  ]

  same : SameChannels v.channels.items w.channels.items
  same = record {
    count = told.others.count;
    receives = λ other. elim (cases_eq other place) [
      | inl here ↦
          let configured : Receiving → RxSet × Shape = λ r. (r.machine.set, r.shape) in
          let now : receives_at w.channels.items place ≡ Some (told.after.machine.set, told.after.shape) = ap (option_map configured) told.there in
          let was : receives_at v.channels.items place ≡ Some (told.before.machine.set, told.before.shape) = ap (option_map configured) told.was in
          let keeps : (told.after.machine.set, told.after.shape) ≡ (told.before.machine.set, told.before.shape) = ap (λ set. (set, told.after.shape)) told.tells.set ∙ ap (λ shape. (told.before.machine.set, shape)) told.tells.shape in
          ap (receives_at w.channels.items) here ∙ now ∙ ap Some keeps ∙ sym was ∙ ap (receives_at v.channels.items) (sym here)
      | inr ne ↦ ap (option_map (λ (r : Receiving). (r.machine.set, r.shape))) (told.others.receivers other ne)
    ];
    sends = λ other. ap (option_map (λ (s : Sending). s.machine.set)) (senders-are other);
  }

  -- another receiver has another path
  other-path : (other : ℕ) (r : Receiving) → other ≢ place → receiver_at v.channels.items other ≡ Some r → r.machine.set.path.0 ≢ told.before.machine.set.path.0
  other-path other r ne there is =
      ne (at.stand.apart.paths other place (r.machine.set, r.shape) (told.before.machine.set, told.before.shape) (ap (option_map (λ (x : Receiving). (x.machine.set, x.shape))) there) (ap (option_map (λ (x : Receiving). (x.machine.set, x.shape))) told.was) is)

  own-stands : ReceiverStands tick new.view (turn-of event told.tells.did ∷ received_at place acts) told.after
  own-stands = receiver-turn told.before told.after event t tick old new (control_box place) v.boxes w.boxes v.moves w.moves (received_at place acts) (at.stand.receivers place told.before told.was) by told.tells

  receiver-stands : (other : ℕ) (r : Receiving) → receiver_at w.channels.items other ≡ Some r → ReceiverStands tick new.view (received_at other (act-of place tick event v w old new told ∷ acts)) r
  receiver-stands other r is = elim (cases_eq other place) [
    | inl here ↦
        let after-is : told.after ≡ r = same-some told.there (ap (receiver_at w.channels.items) (sym here) ∙ is) in
        let R : Receiving → Type 0 = λ x. ReceiverStands tick new.view (turn-of event told.tells.did ∷ received_at place acts) x in
        let T : List RxTurn → Type 0 = λ l. ReceiverStands tick new.view l r in
        subst T (sym (ap (λ (p : ℕ). received_at p (act-of place tick event v w old new told ∷ acts)) here ∙ received-own place (turn-of event told.tells.did) acts)) (subst R after-is own-stands)
    | inr ne ↦
        let was : receiver_at v.channels.items other ≡ Some r = sym (told.others.receivers other ne) ∙ is in
        let T : List RxTurn → Type 0 = λ l. ReceiverStands tick new.view l r in
        subst T (sym (received-other place other (turn-of event told.tells.did) acts ne))
        (receiver-stays r t tick told.tells.did.calls old.view new.view (received_at other acts) (at.stand.receivers other r was) by told.tells.grown (told.tells.kept.others r.machine.set.path.0 (other-path other r ne was)))
  ]

  sender-stands : (other : ℕ) (s : Sending) → sender_at w.channels.items other ≡ Some s → SenderStands tick new.view (sent_at other acts) s
  sender-stands other s is =
      sender-stays s t tick told.tells.did.calls old.view new.view (sent_at other acts) (at.stand.senders other s (sym (senders-are other) ∙ is)) by told.tells.grown (ap (λ f. f s.machine.set.path.0 s.machine.set.dest.0) told.tells.kept.readings)

  lies-now : LieThere (act-of place tick event v w old new told ∷ acts) w.channels.items (lies-then place w lies)
  lies-now = record {
    controls = λ other r is. elim (cases_eq other place) [
      | inl here ↦
          let after-is : told.after ≡ r = same-some told.there (ap (receiver_at w.channels.items) (sym here) ∙ is) in
          let turns : List RxTurn = received_at place acts in
          let did = told.tells.did in
          let own : content (control_box place) w.boxes ≡ framed told.before.shape (control_after (turn-of event did ∷ turns)) =
          told.tells.box.own ∙ ap (frame_then told.before.shape did.act) (box ∙ ap (control_frame_once event) (at.lie.controls place told.before told.was) ∙ sym (framed-control told.before.shape event (control_after turns)))
          ∙ sym (framed-then told.before.shape did.act (control_once event (control_after turns))) in
          let shape : told.before.shape ≡ r.shape = sym told.tells.shape ∙ ap (λ (x : Receiving). x.shape) after-is in
          ap (λ (p : ℕ). lies-then place w lies (control_box p)) here ∙ at_one-same (control_box place) (content (control_box place) w.boxes) lies ∙ own
          ∙ ap (λ (x : Shape). framed x (control_after (turn-of event did ∷ turns))) shape
          ∙ ap (λ (l : List RxTurn). framed r.shape (control_after l)) (sym (ap (λ (p : ℕ). received_at p (act-of place tick event v w old new told ∷ acts)) here ∙ received-own place (turn-of event did) acts))
      | inr ne ↦
          at_one-other (control_box place) (control_box other) (content (control_box place) w.boxes) lies (λ eq. ne (omega (arith, eq)))
          ∙ at.lie.controls other r (sym (told.others.receivers other ne) ∙ is)
          ∙ ap (λ (l : List RxTurn). framed r.shape (control_after l)) (sym (received-other place other (turn-of event told.tells.did) acts ne))
    ];
    frames = λ other s is. at_one-other (control_box place) (frame_box other) (content (control_box place) w.boxes) lies (λ eq. omega (arith, eq)) ∙ at.lie.frames other s (sym (senders-are other) ∙ is);
    no_controls = λ other none. elim (cases_eq other place) [
      | inl here ↦ absurd (none-some (ap (receiver_at w.channels.items) (sym here) ∙ none) told.there)
      | inr ne ↦ at_one-other (control_box place) (control_box other) (content (control_box place) w.boxes) lies (λ eq. ne (omega (arith, eq))) ∙ at.lie.no_controls other (sym (told.others.receivers other ne) ∙ none)
    ];
    no_frames = λ other none. at_one-other (control_box place) (frame_box other) (content (control_box place) w.boxes) lies (λ eq. omega (arith, eq)) ∙ at.lie.no_frames other (sym (senders-are other) ∙ none);
  }

  -- all machines stand
  pub receiver-at : IsAt tick (act-of place tick event v w old new told ∷ acts) (lies-then place w lies) w new
  receiver-at = record {
    stand = record {
      receivers = receiver-stands;
      senders = sender-stands;
      apart = apart-stays v.channels.items w.channels.items same at.stand.apart;
      few = subst (λ (n : ℕ). n ≤ 64) (sym told.others.count) at.stand.few;
    };
    acts_for = acts-for-stays v.channels.items w.channels.items old.means new.means same told.tells.kept.pool at.acts_for;
    lie = lies-now;
    routed = routed-stays v.channels.items w.channels.items v.routes.items w.routes.items same (ap (λ r. r.items) told.others.routes) at.routed;
  }

  -- and this was done
  pub receiver-did : Did (takes_for event) (spare_for event) (act-of place tick event v w old new told ∷ []) v w old new
  receiver-did = record {
    grown = told.tells.grown;
    fresh = told.tells.fresh;
    beside = record {
      sessions = λ path no. told.tells.kept.others path (λ is. no place (told.before.machine.set, told.before.shape) (ap (option_map (λ (r : Receiving). (r.machine.set, r.shape))) told.was) (sym is));
      readings = λ path dest no. ap (λ r. r path dest) told.tells.kept.readings;
    };
    same = told.tells.same;
    pool = told.tells.kept.pool;
    takes_used = told.tells.kept.takes_used;
    spare_used = told.tells.kept.spare_used;
    moves = told.tells.moves_are;
    channels = same;
    budget = told.others.budget;
    routes = told.others.routes;
  }

  -- in each other box lies what lay there
  pub boxes-are : ((number : ℕ) → lies number ≡ content number v.boxes) → (number : ℕ) → content number w.boxes ≡ lies-then place w lies number
  boxes-are was number = elim (cases_eq number (control_box place)) [
    | inl here ↦ ap (λ n. content n w.boxes) here ∙ sym (at_one-same (control_box place) (content (control_box place) w.boxes) lies) ∙ ap (lies-then place w lies) (sym here)
    | inr ne ↦ told.tells.box.others number (differs number (control_box place) ne) ∙ sym (was number) ∙ sym (at_one-other (control_box place) number (content (control_box place) w.boxes) lies ne)
  ]
