-- What a machine needs to be told of a frame that comes, and what that is.
use Rattle.std.proofs.Common.{◌≡◌, inl, inr, ℕ, ◌+◌, ◌≤◌, Bool, true, false, Option, None, Some, List, [], ◌++◌, length, length-append, refl, ap, sym, subst, ◌∙◌, arith}
use Rattle.std.specs.Prelude.{option_map, slice_get}
use Rattle.std.proofs.lemmas.Bool.{cases_eq}
use Rattle.std.proofs.lemmas.Bool.Decides.{nat_tests}
use Rattle.gw_base.proofs.Lists.{none-some, same-some}
use Rattle.can_frame.specs.Length.{length_fits}
use Rattle.hub_core.proofs.Turns.{came-append}
use Rattle.hub_core.specs.Turns.{came_by}
use Rattle.tp_receiver.specs.Runs.{frames_in}
use Rattle.tp_receiver.specs.declared.set.RxSet.{RxSet}
use Rattle.tp_unit.specs.Reading.{unit_of}
use Rattle.tp_unit.specs.declared.shape.Shape.{Shape}
use Rattle.can_frame.specs.Frame.{CanFrame, IsLawful}
use Rattle.hub_core.specs.Stays.{PortState}
use Rattle.tp_receiver.specs.Port.{IsRead}
use Rattle.tp_receiver.specs.State.{Came, RxEvent, RxTurn}
use Rattle.tp_sender.specs.Runs.{InOrder, clear_from}
use Rattle.tp_sender.specs.State.{TxTurn}
use Rattle.tp_sender.specs.declared.event.TxEvent.{TxEvent}
use Rattle.tp_sender.specs.declared.event.TxEvent.TheVariants.{Fc}
use Rattle.tp_unit.specs.Unit.{Meaning, SingleFrame, FirstFrame, ConsecutiveFrame, FlowControl, NoUnit}
use Rattle.gw_law.specs.Channels.{bytes_of_address}
use Rattle.bus_worker.proofs.Knowing.{waits-later}
use Rattle.bus_worker.proofs.Lying.{data_frame_once}
use Rattle.bus_worker.proofs.ActLists.{received-append, sent-append}
use Rattle.bus_worker.specs.Acts.{Act, received_at, sent_at}
use Rattle.bus_worker.specs.Hearing.{HearsAfter, HearsBy, IsAnswer, IsAnswerHeard, IsFrameHeard}
use Rattle.bus_worker.specs.Phases.{IsReceived, IsSent, OneReceived, Works}
use Rattle.bus_worker.specs.Stands.{SameChannels, receiver_at, receives_at, sender_at}
use Rattle.bus_worker.specs.declared.channel.Channel.{Channel}
use Rattle.bus_worker.specs.Told.{CanTellReceiver, CanTellSender}
use Rattle.bus_worker.specs.declared.channel.Receiving.{Receiving}
use Rattle.bus_worker.specs.declared.channel.Sending.{Sending}
use Rattle.bus_worker.specs.declared.comes.Comes.{Comes}
use Rattle.bus_worker.specs.declared.worker.Worker.{Worker}

pub can-hear : {Home : Type 0} (tick place size : ℕ) (meaning : Meaning) (comes : Comes) (w : Worker) (port : PortState Home) → HearsBy tick 1 w port → slice_get w.routes.items place ≡ Some comes → IsRead (bytes_of_address comes.byte) size meaning →
    (r : Receiving) → receiver_at w.channels.items place ≡ Some r → CanTellReceiver r (Came size meaning) tick port
can-hear tick place size meaning comes w port hears there read r is =
    let stands = hears.at.stand.receivers place r is in
    let one = ap (option_map (λ (x : Receiving). (x.machine.set, x.shape))) is in
    let A : ℕ → Type 0 = λ a. IsRead a size meaning in
    record {
      acts = hears.at.acts_for.receivers place (r.machine.set, r.shape) one;
      knows = stands.knows;
      waits = waits-later r.machine hears.since tick hears.by stands.waits;
      can = (
        record { takes = hears.takes; spare = (let s = hears.spare in omega (arith, s)); number = (let f = hears.few place in let n = stands.number in omega (arith, f, n)) },
        subst A (sym (hears.at.routed.address place comes (r.machine.set, r.shape) there one)) read,
      );
    }

pub can-answer : {Home : Type 0} (tick place count fs bs st : ℕ) (event : TxEvent) (w : Worker) (port : PortState Home) → tick ≤ 10000000 → HearsBy tick count w port → event ≡ Fc fs bs st → (s : Sending) → sender_at w.channels.items place ≡ Some s → CanTellSender s event tick port
can-answer tick place count fs bs st event w port limit hears event_is s is =
    let stands = hears.at.stand.senders place s is in
    record {
      knows = stands.knows;
      acts = hears.at.acts_for.senders place s.machine.set (ap (option_map (λ (x : Sending). x.machine.set)) is);
      since = (let a = stands.since in let b = hears.by in omega (arith, a, b));
      tick_is = limit;
      left = λ is'. absurd cc;
    }

-- a flow control comes before frames of the tick leave, and takes nothing out of its box
pub in-order : (tick fs bs st : ℕ) (event : TxEvent) (turns : List TxTurn) → event ≡ Fc fs bs st → InOrder (Fc fs bs st) tick turns → InOrder event tick turns
in-order tick fs bs st event turns is order = (let P : TxEvent → Type 0 = λ e. InOrder e tick turns in subst P (sym is) order)

pub keeps-frame : (fs bs st : ℕ) (event : TxEvent) → event ≡ Fc fs bs st → (lies : Option CanFrame) → data_frame_once event lies ≡ lies
keeps-frame fs bs st event is lies = ap (λ e. data_frame_once e lies) is

-- more could have been used
pub works-more : {Home : Type 0} (tick takes spare : ℕ) (Are : List Act → Type 0) (acts : List Act) (v w : Worker) (old new : PortState Home) → Works tick 0 0 Are acts v w old new → Works tick takes spare Are acts v w old new
works-more tick takes spare Are acts v w old new works =
    let did = works.did in
    record {
      done = works.done;
      at = works.at;
      did = record {
        grown = did.grown;
        fresh = did.fresh;
        beside = did.beside;
        same = did.same;
        pool = did.pool;
        takes_used = (let a = did.takes_used in omega (arith, a));
        spare_used = (let a = did.spare_used in omega (arith, a));
        moves = did.moves;
        channels = did.channels;
        budget = did.budget;
        routes = did.routes;
      };
      are = works.are;
      sent = works.sent;
    }

-- a frame's bytes are no more than 64
lawful-most : (fd : Bool) (len : ℕ) → length_fits fd len ≡ true → len ≤ 64
lawful-most false len fits = grind (arith, nat_tests)
lawful-most true len fits = grind (arith, nat_tests)

pub read-of : (comes : Comes) (frame : CanFrame) (bytes : List ℕ) (meaning : Meaning) → IsLawful frame → bytes ≡ frame.bytes → meaning ≡ unit_of (bytes_of_address comes.byte) frame → IsRead (bytes_of_address comes.byte) (length bytes) meaning
read-of comes frame bytes meaning lawful is read = record {
  frame = frame;
  size_is = ap length (sym is);
  most = subst (λ (l : List ℕ). length l ≤ 64) (sym is) (lawful-most frame.fd (length frame.bytes) lawful.len);
  reads = sym read;
}

-- one unit heard is one more at most
one-came : (tick size : ℕ) (meaning : Meaning) (turns : List RxTurn) → OneReceived tick (Came size meaning) turns → length (came_by frames_in turns) ≤ 1
one-came tick size meaning turns one =
    let P : List RxTurn → Type 0 = λ l. length (came_by frames_in l) ≤ 1 in
    let E : RxEvent → Type 0 = λ e. length (frames_in one.turn.did.tick e) ≤ 1 in
    subst P (sym one.turns_are) (subst E (sym one.event_is) (omega arith))

came-few-in : (found : Option (RxSet × Shape)) (tick size place : ℕ) (meaning : Meaning) (channels : List Channel) (done : List Act) → receives_at channels place ≡ found → IsReceived tick (Came size meaning) place channels done → length (came_by frames_in (received_at place done)) ≤ 1
came-few-in None tick size place meaning channels done is heard = subst (λ (l : List RxTurn). length (came_by frames_in l) ≤ 1) (sym (heard.none is)) (omega arith)
came-few-in (Some one) tick size place meaning channels done is heard = one-came tick size meaning (received_at place done) (heard.own one is)

pub came-few : (tick size place other : ℕ) (meaning : Meaning) (channels : List Channel) (done : List Act) → IsReceived tick (Came size meaning) place channels done → length (came_by frames_in (received_at other done)) ≤ 1
came-few tick size place other meaning channels done heard = elim (cases_eq other place) [
  | inl here ↦ subst (λ (p : ℕ). length (came_by frames_in (received_at p done)) ≤ 1) (sym here) (came-few-in (receives_at channels place) tick size place meaning channels done refl heard)
  | inr ne ↦ subst (λ (l : List RxTurn). length (came_by frames_in l) ≤ 1) (sym (heard.others other ne)) (omega arith)
]

-- as many frames fewer can still come
pub still-clear : (tick place : ℕ) (done acts : List Act) → sent_at place done ≡ [] → clear_from (sent_at place acts) ≤ tick → clear_from (sent_at place (done ++ acts)) ≤ tick
still-clear tick place done acts none clear = subst (λ (l : List TxTurn). clear_from l ≤ tick) (sym (sent-append place done acts ∙ ap (λ l. l ++ sent_at place acts) none)) clear

pub still-hears : {Home : Type 0} (tick count place size : ℕ) (meaning : Meaning) (v w : Worker) (old new : PortState Home) → HearsBy tick (count + 1) v old → HearsAfter tick 1 9 (IsFrameHeard tick place size meaning v.channels.items) v w old new → HearsBy tick count w new
still-hears tick count place size meaning v w old new hears works =
    let one = works hears.since hears.acts hears.by hears.at hears.clear in
    record {
      since = tick;
      acts = one.done ++ hears.acts;
      by = omega arith;
      at = one.at;
      clear = λ other. still-clear tick other one.done hears.acts (one.are.senders other) (hears.clear other);
      few = λ other.
          let more = came-few tick size place other meaning v.channels.items one.done one.are in
          let is = ap (λ (l : List RxTurn). length (came_by frames_in l)) (received-append other one.done hears.acts) ∙ ap length (came-append frames_in (received_at other one.done) (received_at other hears.acts)) ∙ length-append (came_by frames_in (received_at other hears.acts)) (came_by frames_in (received_at other one.done)) in
          let few = hears.few other in
          omega (arith, more, is, few);
      takes = (let a = hears.takes in let b = one.did.takes_used in omega (arith, a, b));
      spare = (let a = hears.spare in let b = one.did.spare_used in omega (arith, a, b));
    }

-- what a sender is told stays what it is, however the channels' machines went on
pub sent-same : (tick : ℕ) (event : TxEvent) (place : ℕ) (old new : List Channel) (done : List Act) → SameChannels old new → IsSent tick event place new done → IsSent tick event place old done
sent-same tick event place old new done same sent = record {
  own = λ one is. sent.own one (same.sends place ∙ is);
  none = λ is. sent.none (same.sends place ∙ is);
  others = sent.others;
  receivers = sent.receivers;
}

pub answer-heard : (tick place : ℕ) (channels : List Channel) (done : List Act) (meaning : Meaning) (result : Option TxEvent) (event : TxEvent) → IsAnswer meaning result → result ≡ Some event → IsSent tick event place channels done → IsAnswerHeard tick place meaning channels done
answer-heard tick place channels done (SingleFrame bytes) result event is some sent = absurd (none-some is some)
answer-heard tick place channels done (FirstFrame len bytes) result event is some sent = absurd (none-some is some)
answer-heard tick place channels done (ConsecutiveFrame number bytes) result event is some sent = absurd (none-some is some)
answer-heard tick place channels done (FlowControl status block_size separation) result event is some sent = subst (λ (e : TxEvent). IsSent tick e place channels done) (same-some some is) sent
answer-heard tick place channels done (NoUnit why) result event is some sent = absurd (none-some is some)

pub no-answer : (tick place : ℕ) (channels : List Channel) (meaning : Meaning) (result : Option TxEvent) → IsAnswer meaning result → result ≡ None → IsAnswerHeard tick place meaning channels []
no-answer tick place channels (SingleFrame bytes) result is none = refl
no-answer tick place channels (FirstFrame len bytes) result is none = refl
no-answer tick place channels (ConsecutiveFrame number bytes) result is none = refl
no-answer tick place channels (FlowControl status block_size separation) result is none = absurd (none-some none is)
no-answer tick place channels (NoUnit why) result is none = refl

-- the unit that was heard is the frame's
pub frame-heard : (tick place : ℕ) (comes : Comes) (frame : CanFrame) (bytes : List ℕ) (meaning : Meaning) (channels : List Channel) (done : List Act) → bytes ≡ frame.bytes → meaning ≡ unit_of (bytes_of_address comes.byte) frame →
    IsFrameHeard tick place (length bytes) meaning channels done → IsFrameHeard tick place (length frame.bytes) (unit_of (bytes_of_address comes.byte) frame) channels done
frame-heard tick place comes frame bytes meaning channels done is read heard =
    let B : List ℕ → Type 0 = λ l. IsFrameHeard tick place (length l) (unit_of (bytes_of_address comes.byte) frame) channels done in
    let M : Meaning → Type 0 = λ m. IsFrameHeard tick place (length bytes) m channels done in
    subst B is (subst M read heard)

pub answered : (tick place : ℕ) (channels : List Channel) (done : List Act) (meaning other : Meaning) → meaning ≡ other → IsAnswerHeard tick place meaning channels done → IsAnswerHeard tick place other channels done
answered tick place channels done meaning other is heard = subst (λ (m : Meaning). IsAnswerHeard tick place m channels done) is heard
