-- A frame left its box, and its machine is told.
use Rattle.std.proofs.Common.{◌≡◌, ◌≢◌, inl, inr, ℕ, ◌≤◌, ◌<◌, Option, None, Some, List, ◌∷◌, ◌++◌, length, refl, ap, sym, ◌∙◌, arith}
use Rattle.std.specs.Prelude.{IsSome, option_and_then, option_map, slice_get}
use Rattle.std.proofs.lemmas.Bool.{cases_eq}
use Rattle.std.proofs.lemmas.Option.{slice_get_within}
use Rattle.can_frame.specs.Frame.{CanFrame}
use Rattle.gw_base.proofs.Lists.{none-some}
use Rattle.hub_core.proofs.Growing.{at_one-other, at_one-same}
use Rattle.hub_core.specs.Stays.{PortState}
use Rattle.tp_receiver.specs.State.{FcLeft}
use Rattle.tp_sender.specs.declared.event.TxEvent.TheVariants.{Left}
use Rattle.tp_unit.specs.Unit.{Meaning}
use Rattle.tp_unit.specs.declared.shape.Shape.{Shape}
use Rattle.tx_mailbox.specs.Boxes.{Pending, content}
use Rattle.bus_worker.proofs.ActLists.{differs}
use Rattle.bus_worker.proofs.Doing.{is-at-same}
use Rattle.bus_worker.proofs.Emitted.{content-back, content-behind, content-front, content-other, content-own, content-same}
use Rattle.bus_worker.proofs.Knowing.{waits-later}
use Rattle.bus_worker.proofs.ReceiverSteps.{act-of, lies-then, receiver-at, receiver-did}
use Rattle.bus_worker.proofs.SenderSteps.{act-of as sent-act, lies-then as frame-lies, sender-at, sender-did}
use Rattle.bus_worker.specs.Emission.{Control, Data, LeavesAfter, LeftBox}
use Rattle.bus_worker.specs.Stands.{Lies, control_box, frame_box, framed, receiver_at, sender_at}
use Rattle.bus_worker.specs.Steps.{ReceiverWasTold, SenderWasTold}
use Rattle.bus_worker.specs.Told.{CanTellReceiver, CanTellSender}
use Rattle.bus_worker.specs.declared.channel.Channel.{Channel}
use Rattle.bus_worker.specs.declared.channel.Receiving.{Receiving}
use Rattle.bus_worker.specs.declared.channel.Sending.{Sending}
use Rattle.bus_worker.specs.declared.worker.Worker.{Worker}

some-in : {A : Type 0} (found : Option A) → (found ≡ None → ⊥) → IsSome found
some-in None not = absurd (not refl)
some-in (Some x) not = refl

-- there is a machine whose frame it was
pub source-there : {Home : Type 0} (tick place number : ℕ) (w : Worker) (port : PortState Home) → number ≡ control_box place → LeftBox tick number w port → IsSome (receiver_at w.channels.items place)
source-there tick place number w port is left =
    some-in (receiver_at w.channels.items place) (λ none. none-some (ap (λ n. content n ((number, left.frame) ∷ (left.later ++ w.boxes))) is ∙ left.at.lie.no_controls place none) (content-own number left.frame (left.later ++ w.boxes)))

pub destination-there : {Home : Type 0} (tick place number : ℕ) (w : Worker) (port : PortState Home) → number ≡ frame_box place → LeftBox tick number w port → IsSome (sender_at w.channels.items place)
destination-there tick place number w port is left =
    some-in (sender_at w.channels.items place) (λ none. none-some (ap (λ n. content n ((number, left.frame) ∷ (left.later ++ w.boxes))) is ∙ left.at.lie.no_frames place none) (content-own number left.frame (left.later ++ w.boxes)))

pub can-leave-control : {Home : Type 0} (tick place number : ℕ) (w : Worker) (port : PortState Home) → LeftBox tick number w port → (r : Receiving) → receiver_at w.channels.items place ≡ Some r → CanTellReceiver r FcLeft tick port
can-leave-control tick place number w port left r is = record {
  acts = left.at.acts_for.receivers place (r.machine.set, r.shape) (ap (option_map (λ (x : Receiving). (x.machine.set, x.shape))) is);
  knows = (left.at.stand.receivers place r is).knows;
  waits = waits-later r.machine left.since tick left.by (left.at.stand.receivers place r is).waits;
  can = tt;
}

lies-there : (shape : Shape) (lies : Option Meaning) (frame : CanFrame) → framed shape lies ≡ Some frame → Lies lies
lies-there shape None frame is = absurd (none-some refl is)
lies-there shape (Some meaning) frame is = tt

pub can-leave-frame : {Home : Type 0} (tick place number : ℕ) (w : Worker) (port : PortState Home) → tick ≤ 10000000 → number ≡ frame_box place → LeftBox tick number w port → (s : Sending) → sender_at w.channels.items place ≡ Some s → CanTellSender s Left tick port
can-leave-frame tick place number w port limit number_is left s is =
    let stands = left.at.stand.senders place s is in
    let lay = sym (left.at.lie.frames place s is) ∙ ap (λ n. content n ((number, left.frame) ∷ (left.later ++ w.boxes))) (sym number_is) ∙ content-own number left.frame (left.later ++ w.boxes) in
    record {
      knows = stands.knows;
      acts = left.at.acts_for.senders place s.machine.set (ap (option_map (λ (x : Sending). x.machine.set)) is);
      since = (let a = stands.since in let b = left.by in omega (arith, a, b));
      tick_is = limit;
      left = λ is'. stands.had (lies-there s.shape _ left.frame lay);
    }

-- what lies there after it, with what still counts as lying
then-lies : (number : ℕ) (frame : CanFrame) (later boxes after : List Pending) (lies : ℕ → Option CanFrame) → content number later ≡ None → ((other : ℕ) → other ≢ number → content other after ≡ content other boxes) →
    ((other : ℕ) → other ≢ number → lies other ≡ content other ((number, frame) ∷ (later ++ boxes))) → lies number ≡ content number after → (other : ℕ) → content other (later ++ after) ≡ lies other
then-lies number frame later boxes after lies none others was own other = elim (cases_eq other number) [
  | inl here ↦ ap (λ n. content n (later ++ after)) here ∙ content-behind number later after none ∙ sym own ∙ ap lies (sym here)
  | inr ne ↦ content-same other later after boxes (others other ne) ∙ sym (content-other other (number, frame) (later ++ boxes) ne) ∙ sym (was other ne)
]

pub control-left : {Home : Type 0} (tick place : ℕ) (v w : Worker) (old new : PortState Home) → ReceiverWasTold place FcLeft tick v w old new → LeavesAfter tick (control_box place) v w old new
control-left tick place v w old new told since acts frame later by at out =
    let number : ℕ = control_box place in
    let lies : ℕ → Option CanFrame = λ n. content n ((number, frame) ∷ (later ++ v.boxes)) in
    let none = content-back number later v.boxes out in
    let act = act-of place tick FcLeft v w old new told in
    record {
      act = act;
      at = is-at-same tick (act ∷ acts) (lies-then place w lies) (λ n. content n (later ++ w.boxes)) w new
          (then-lies number frame later v.boxes w.boxes (lies-then place w lies) (content-front number later v.boxes out) (λ other ne. told.tells.box.others other (differs other number ne))
          (λ other ne. at_one-other number other (content number w.boxes) lies ne) (at_one-same number (content number w.boxes) lies))
          (receiver-at place since tick FcLeft acts lies v w old new at by told none);
      did = receiver-did place since tick FcLeft acts lies v w old new at by told none;
      is = Control place (record { event = FcLeft; did = told.tells.did }) refl refl refl told.tells.tick_is;
      sent = told.others.sent;
      others = λ other ne. told.tells.box.others other (differs other number ne);
    }

pub frame-left : {Home : Type 0} (tick place : ℕ) (v w : Worker) (old new : PortState Home) → SenderWasTold place Left tick v w old new → LeavesAfter tick (frame_box place) v w old new
frame-left tick place v w old new told since acts frame later by at out =
    let number : ℕ = frame_box place in
    let lies : ℕ → Option CanFrame = λ n. content n ((number, frame) ∷ (later ++ v.boxes)) in
    let none = content-back number later v.boxes out in
    let act = sent-act place tick Left v w old new told in
    record {
      act = act;
      at = is-at-same tick (act ∷ acts) (frame-lies place w lies) (λ n. content n (later ++ w.boxes)) w new
          (then-lies number frame later v.boxes w.boxes (frame-lies place w lies) (content-front number later v.boxes out) (λ other ne. told.tells.box.others other (differs other number ne))
          (λ other ne. at_one-other number other (content number w.boxes) lies ne) (at_one-same number (content number w.boxes) lies))
          (sender-at place since tick Left acts lies v w old new at by tt told none);
      did = sender-did place since tick Left acts lies v w old new at by tt told none;
      is = Data place (record { event = Left; did = told.tells.did }) refl refl refl told.tells.tick_is;
      sent = told.others.sent;
      others = λ other ne. told.tells.box.others other (differs other number ne);
    }

below-in : {A : Type 0} (f : Channel → Option A) (channels : List Channel) (place : ℕ) → IsSome (option_and_then f (slice_get channels place)) → place < length channels
below-in f channels place is = go (slice_get channels place) refl is where
  go : (found : Option Channel) → slice_get channels place ≡ found → IsSome (option_and_then f found) → place < length channels
  go None at is' = absurd cc
  go (Some channel) at is' = slice_get_within channels place channel at

pub source-below : (channels : List Channel) (place : ℕ) → IsSome (receiver_at channels place) → place < length channels
source-below channels place is = below-in (λ (c : Channel). c.receiving) channels place is

pub destination-below : (channels : List Channel) (place : ℕ) → IsSome (sender_at channels place) → place < length channels
destination-below channels place is = below-in (λ (c : Channel). c.sending) channels place is
