-- A step of one sender of the bus: all machines stand after it.
use Rattle.std.proofs.Common.{◌≡◌, ◌≢◌, inl, inr, ℕ, ◌≤◌, Option, Some, List, [], ◌∷◌, ap, sym, subst, ◌∙◌, arith}
use Rattle.std.specs.Prelude.{option_map}
use Rattle.std.proofs.lemmas.Bool.{cases_eq}
use Rattle.can_frame.specs.Frame.{CanFrame}
use Rattle.gw_base.proofs.Lists.{none-some, same-some}
use Rattle.hub_core.proofs.Growing.{at_one-other, at_one-same}
use Rattle.hub_core.specs.Stays.{PortState}
use Rattle.hub_core.specs.View.{at_one}
use Rattle.tp_sender.specs.Runs.{InOrder, box_after, box_once}
use Rattle.tp_sender.specs.State.{TxTurn, set_of}
use Rattle.tp_sender.specs.declared.event.TxEvent.{TxEvent}
use Rattle.tp_sender.specs.declared.set.TxSet.{TxSet}
use Rattle.tp_unit.specs.declared.shape.Shape.{Shape}
use Rattle.tx_mailbox.specs.Boxes.{content}
use Rattle.bus_worker.proofs.ActLists.{differs, sent-other, sent-own}
use Rattle.bus_worker.proofs.Configured.{acts-for-stays, apart-stays, routed-stays}
use Rattle.bus_worker.proofs.Lying.{data_frame_once, framed-data, framed-then}
use Rattle.bus_worker.proofs.Machines.{receiver-stays, sender-stays, sender-turn, sent-of}
use Rattle.bus_worker.specs.Acts.{Act, Sent, received_at, sent_at}
use Rattle.bus_worker.specs.Boxed.{frame_then}
use Rattle.bus_worker.specs.Did.{Did, IsAt}
use Rattle.bus_worker.specs.Stands.{LieThere, ReceiverStands, SameChannels, SenderStands, control_box, frame_box, framed, receiver_at, sender_at, sends_at}
use Rattle.bus_worker.specs.Steps.{SenderWasTold}
use Rattle.bus_worker.specs.declared.channel.Receiving.{Receiving}
use Rattle.bus_worker.specs.declared.channel.Sending.{Sending}
use Rattle.bus_worker.specs.declared.worker.Worker.{Worker}

-- the act that the step was
abbrev pub act-of : {Home : Type 0} (place tick : ℕ) (event : TxEvent) (v w : Worker) (old new : PortState Home) → SenderWasTold place event tick v w old new → Act
act-of place tick event v w old new told = Sent place (sent-of event told.tells.did)

-- where its frames lie, and what lies in the boxes then
abbrev pub lies-then : (place : ℕ) → Worker → (ℕ → Option CanFrame) → ℕ → Option CanFrame
lies-then place w lies = at_one (frame_box place) (content (frame_box place) w.boxes) lies

module _ {Home : Type 0} (place t tick : ℕ) (event : TxEvent) (acts : List Act) (lies : ℕ → Option CanFrame) (v w : Worker) (old new : PortState Home)
    (at : IsAt t acts lies v old) (by : t ≤ tick) (order : InOrder event tick (sent_at place acts)) (told : SenderWasTold place event tick v w old new)
    (box : content (frame_box place) v.boxes ≡ data_frame_once event (lies (frame_box place))) where
  receivers-are : (other : ℕ) → receiver_at w.channels.items other ≡ receiver_at v.channels.items other
  receivers-are other = elim (cases_eq other place) [
    | inl same ↦ ap (receiver_at w.channels.items) same ∙ told.receiver ∙ ap (receiver_at v.channels.items) (sym same)
    | inr ne ↦ told.others.receivers other ne
  ]

  same : SameChannels v.channels.items w.channels.items
  same = record {
    count = told.others.count;
    receives = λ other. ap (option_map (λ (r : Receiving). (r.machine.set, r.shape))) (receivers-are other);
    sends = λ other. elim (cases_eq other place) [
      | inl here ↦
          let set : Sending → TxSet = λ s. s.machine.set in
          let now : sends_at w.channels.items place ≡ Some told.after.machine.set = ap (option_map set) told.there in
          let was : sends_at v.channels.items place ≡ Some told.before.machine.set = ap (option_map set) told.was in
          ap (sends_at w.channels.items) here ∙ now ∙ ap Some told.tells.set ∙ sym was ∙ ap (sends_at v.channels.items) (sym here)
      | inr ne ↦ ap (option_map (λ (s : Sending). s.machine.set)) (told.others.senders other ne)
    ];
  }

  own-stands : SenderStands tick new.view (sent-of event told.tells.did ∷ sent_at place acts) told.after
  own-stands = sender-turn told.before told.after event t tick old new (frame_box place) v.boxes w.boxes v.moves w.moves (sent_at place acts) (at.stand.senders place told.before told.was) by order told.after.own told.before.own told.tells

  -- another sender has another path or destination
  other-readings : (other : ℕ) (s : Sending) → other ≢ place → sender_at v.channels.items other ≡ Some s → new.view.readings s.machine.set.path.0 s.machine.set.dest.0 ≡ old.view.readings s.machine.set.path.0 s.machine.set.dest.0
  other-readings other s ne there =
      let mine : TxSet = told.before.machine.set in
      let theirs : TxSet = s.machine.set in
      let stays = told.tells.others in
      elim (cases_eq theirs.path.0 mine.path.0) [
        | inr apart ↦ ap (λ f. f theirs.dest.0) (stays.others_of theirs.path.0 apart)
        | inl path ↦ elim (cases_eq theirs.dest.0 mine.dest.0) [
          | inl dest ↦ absurd (ne (at.stand.apart.dests other place theirs mine (ap (option_map (λ (x : Sending). x.machine.set)) there) (ap (option_map (λ (x : Sending). x.machine.set)) told.was) path dest))
          | inr apart ↦ ap (λ p. new.view.readings p theirs.dest.0) path ∙ stays.others theirs.dest.0 apart ∙ ap (λ p. old.view.readings p theirs.dest.0) (sym path)
        ]
      ]

  sender-stands : (other : ℕ) (s : Sending) → sender_at w.channels.items other ≡ Some s → SenderStands tick new.view (sent_at other (act-of place tick event v w old new told ∷ acts)) s
  sender-stands other s is = elim (cases_eq other place) [
    | inl here ↦
        let after-is : told.after ≡ s = same-some told.there (ap (sender_at w.channels.items) (sym here) ∙ is) in
        let R : Sending → Type 0 = λ x. SenderStands tick new.view (sent-of event told.tells.did ∷ sent_at place acts) x in
        let T : List TxTurn → Type 0 = λ l. SenderStands tick new.view l s in
        subst T (sym (ap (λ (p : ℕ). sent_at p (act-of place tick event v w old new told ∷ acts)) here ∙ sent-own place (sent-of event told.tells.did) acts)) (subst R after-is own-stands)
    | inr ne ↦
        let was : sender_at v.channels.items other ≡ Some s = sym (told.others.senders other ne) ∙ is in
        let T : List TxTurn → Type 0 = λ l. SenderStands tick new.view l s in
        subst T (sym (sent-other place other (sent-of event told.tells.did) acts ne))
        (sender-stays s t tick told.tells.did.calls old.view new.view (sent_at other acts) (at.stand.senders other s was) by told.tells.grown (other-readings other s ne was))
  ]

  receiver-stands : (other : ℕ) (r : Receiving) → receiver_at w.channels.items other ≡ Some r → ReceiverStands tick new.view (received_at other acts) r
  receiver-stands other r is =
      receiver-stays r t tick told.tells.did.calls old.view new.view (received_at other acts) (at.stand.receivers other r (sym (receivers-are other) ∙ is)) by told.tells.grown (ap (λ f. f r.machine.set.path.0) told.tells.others.sessions)

  lies-now : LieThere (act-of place tick event v w old new told ∷ acts) w.channels.items (lies-then place w lies)
  lies-now = record {
    controls = λ other r is. at_one-other (frame_box place) (control_box other) (content (frame_box place) w.boxes) lies (λ eq. omega (arith, eq)) ∙ at.lie.controls other r (sym (receivers-are other) ∙ is);
    frames = λ other s is. elim (cases_eq other place) [
      | inl here ↦
          let after-is : told.after ≡ s = same-some told.there (ap (sender_at w.channels.items) (sym here) ∙ is) in
          let turns : List TxTurn = sent_at place acts in
          let did = told.tells.did in
          let own : content (frame_box place) w.boxes ≡ framed told.before.shape (box_after (sent-of event did ∷ turns)) =
          told.tells.box.own ∙ ap (frame_then told.before.shape did.act) (box ∙ ap (data_frame_once event) (at.lie.frames place told.before told.was) ∙ sym (framed-data told.before.shape event (box_after turns)))
          ∙ sym (framed-then told.before.shape did.act (box_once event (box_after turns))) in
          let shape : told.before.shape ≡ s.shape = sym told.before.own ∙ ap (λ (x : TxSet). x.shape) (sym told.tells.set) ∙ told.after.own ∙ ap (λ (x : Sending). x.shape) after-is in
          ap (λ (p : ℕ). lies-then place w lies (frame_box p)) here ∙ at_one-same (frame_box place) (content (frame_box place) w.boxes) lies ∙ own
          ∙ ap (λ (x : Shape). framed x (box_after (sent-of event did ∷ turns))) shape
          ∙ ap (λ (l : List TxTurn). framed s.shape (box_after l)) (sym (ap (λ (p : ℕ). sent_at p (act-of place tick event v w old new told ∷ acts)) here ∙ sent-own place (sent-of event did) acts))
      | inr ne ↦
          at_one-other (frame_box place) (frame_box other) (content (frame_box place) w.boxes) lies (λ eq. ne (omega (arith, eq)))
          ∙ at.lie.frames other s (sym (told.others.senders other ne) ∙ is)
          ∙ ap (λ (l : List TxTurn). framed s.shape (box_after l)) (sym (sent-other place other (sent-of event told.tells.did) acts ne))
    ];
    no_controls = λ other none. at_one-other (frame_box place) (control_box other) (content (frame_box place) w.boxes) lies (λ eq. omega (arith, eq)) ∙ at.lie.no_controls other (sym (receivers-are other) ∙ none);
    no_frames = λ other none. elim (cases_eq other place) [
      | inl here ↦ absurd (none-some (ap (sender_at w.channels.items) (sym here) ∙ none) told.there)
      | inr ne ↦ at_one-other (frame_box place) (frame_box other) (content (frame_box place) w.boxes) lies (λ eq. ne (omega (arith, eq))) ∙ at.lie.no_frames other (sym (told.others.senders other ne) ∙ none)
    ];
  }

  -- all machines stand
  pub sender-at : IsAt tick (act-of place tick event v w old new told ∷ acts) (lies-then place w lies) w new
  sender-at = record {
    stand = record {
      receivers = receiver-stands;
      senders = sender-stands;
      apart = apart-stays v.channels.items w.channels.items same at.stand.apart;
      few = subst (λ (n : ℕ). n ≤ 64) (sym told.others.count) at.stand.few;
    };
    acts_for = acts-for-stays v.channels.items w.channels.items old.means new.means same told.tells.means.pool at.acts_for;
    lie = lies-now;
    routed = routed-stays v.channels.items w.channels.items v.routes.items w.routes.items same (ap (λ r. r.items) told.others.routes) at.routed;
  }

  -- and this was done
  pub sender-did : Did 0 0 (act-of place tick event v w old new told ∷ []) v w old new
  sender-did = record {
    grown = told.tells.grown;
    fresh = told.tells.fresh;
    beside = record {
      sessions = λ path no. ap (λ r. r path) told.tells.others.sessions;
      readings = λ path dest no. elim (cases_eq path (set_of told.before.machine).path.0) [
        | inl is ↦
            ap (λ p. new.view.readings p dest) is
            ∙ told.tells.others.others dest (λ same. no place (set_of told.before.machine) (ap (option_map (λ (s : Sending). set_of s.machine)) told.was) (sym is) (sym same))
            ∙ ap (λ p. old.view.readings p dest) (sym is)
        | inr ne ↦ ap (λ r. r dest) (told.tells.others.others_of path ne)
      ];
    };
    same = told.tells.same;
    pool = told.tells.means.pool;
    takes_used = (let takes = told.tells.means.takes in omega (arith, takes));
    spare_used = (let spare = told.tells.means.spare in omega (arith, spare));
    moves = told.tells.moves_are;
    channels = same;
    budget = told.others.budget;
    routes = told.others.routes;
  }

  -- in each other box lies what lay there
  pub boxes-are : ((number : ℕ) → lies number ≡ content number v.boxes) → (number : ℕ) → content number w.boxes ≡ lies-then place w lies number
  boxes-are was number = elim (cases_eq number (frame_box place)) [
    | inl here ↦ ap (λ n. content n w.boxes) here ∙ sym (at_one-same (frame_box place) (content (frame_box place) w.boxes) lies) ∙ ap (lies-then place w lies) (sym here)
    | inr ne ↦ told.tells.box.others number (differs number (frame_box place) ne) ∙ sym (was number) ∙ sym (at_one-other (frame_box place) number (content (frame_box place) w.boxes) lies ne)
  ]
