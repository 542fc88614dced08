-- Frames that come one after another in a tick.
use Rattle.std.proofs.Common.{◌≡◌, inl, inr, ℕ, ◌+◌, ◌*◌, ◌≤◌, Option, None, Some, List, [], ◌∷◌, ◌++◌, length, length-append, refl, ap, sym, subst, ◌∙◌, arith, append-nil, append_assoc}
use Rattle.std.proofs.lemmas.Bool.{cases_eq}
use Rattle.can_frame.specs.Frame.{CanFrame}
use Rattle.hub_core.proofs.Turns.{came-append}
use Rattle.hub_core.specs.Stays.{PortState}
use Rattle.hub_core.specs.Turns.{came_by}
use Rattle.tp_receiver.specs.Runs.{frames_in}
use Rattle.tp_receiver.specs.State.{Came, RxTurn}
use Rattle.tp_sender.specs.Runs.{after_left, clear_from}
use Rattle.tp_sender.specs.State.{TxTurn}
use Rattle.tp_sender.specs.declared.event.TxEvent.{TxEvent}
use Rattle.tp_sender.specs.declared.event.TxEvent.TheVariants.{Fc}
use Rattle.tp_sender.specs.declared.set.TxSet.{TxSet}
use Rattle.tp_unit.specs.Unit.{Meaning, SingleFrame, FirstFrame, ConsecutiveFrame, FlowControl, NoUnit}
use Rattle.tp_unit.specs.Reading.{unit_of}
use Rattle.gw_law.specs.Channels.{bytes_of_address}
use Rattle.bus_worker.proofs.ActLists.{received-append, sent-append}
use Rattle.bus_worker.proofs.Doing.{did-then}
use Rattle.bus_worker.proofs.Heard.{came-few, sent-same, still-clear}
use Rattle.bus_worker.specs.Acts.{Act, received_at, sent_at}
use Rattle.bus_worker.specs.Did.{Did}
use Rattle.bus_worker.specs.Hearing.{AreHeard, Hears, HearsAll, HearsBy, IsAnswerHeard, IsHeard, Nowhere, Somewhere}
use Rattle.bus_worker.specs.Phases.{IsReceived, IsSent, OneSent, Rests}
use Rattle.bus_worker.specs.Stands.{SameChannels, sends_at}
use Rattle.bus_worker.specs.declared.channel.Channel.{Channel}
use Rattle.bus_worker.specs.declared.comes.Comes.{Comes}
use Rattle.bus_worker.specs.declared.worker.Worker.{Worker}

-- no frame leaves where a flow control comes
one-clear : (tick bound fs bs st : ℕ) (turns earlier : List TxTurn) → OneSent tick (Fc fs bs st) turns → clear_from earlier ≤ bound → clear_from (turns ++ earlier) ≤ bound
one-clear tick bound fs bs st turns earlier one clear =
    let P : List TxTurn → Type 0 = λ l. clear_from (l ++ earlier) ≤ bound in
    let E : TxEvent → Type 0 = λ e. after_left e one.turn.did.tick (clear_from earlier) ≤ bound in
    subst P (sym one.turns_are) (subst E (sym one.event_is) clear)

sent-clear-in : (found : Option TxSet) (tick bound fs bs st place : ℕ) (channels : List Channel) (done acts : List Act) → sends_at channels place ≡ found → IsSent tick (Fc fs bs st) place channels done → clear_from (sent_at place acts) ≤ bound → clear_from (sent_at place (done ++ acts)) ≤ bound
sent-clear-in None tick bound fs bs st place channels done acts is sent clear = still-clear bound place done acts (sent.none is) clear
sent-clear-in (Some one) tick bound fs bs st place channels done acts is sent clear =
    subst (λ (l : List TxTurn). clear_from l ≤ bound) (sym (sent-append place done acts)) (one-clear tick bound fs bs st (sent_at place done) (sent_at place acts) (sent.own one is) clear)

sent-clear : (tick bound fs bs st place other : ℕ) (channels : List Channel) (done acts : List Act) → IsSent tick (Fc fs bs st) place channels done → clear_from (sent_at other acts) ≤ bound → clear_from (sent_at other (done ++ acts)) ≤ bound
sent-clear tick bound fs bs st place other channels done acts sent clear = elim (cases_eq other place) [
  | inl here ↦
      let P : ℕ → Type 0 = λ p. clear_from (sent_at p (done ++ acts)) ≤ bound in
      let Q : ℕ → Type 0 = λ p. clear_from (sent_at p acts) ≤ bound in
      subst P (sym here) (sent-clear-in (sends_at channels place) tick bound fs bs st place channels done acts refl sent (subst Q here clear))
  | inr ne ↦ still-clear bound other done acts (sent.others other ne) clear
]

answer-clear : (tick bound place other : ℕ) (meaning : Meaning) (channels : List Channel) (done acts : List Act) → IsAnswerHeard tick place meaning channels done → clear_from (sent_at other acts) ≤ bound → clear_from (sent_at other (done ++ acts)) ≤ bound
answer-clear tick bound place other (SingleFrame bytes) channels done acts none clear = subst (λ (l : List Act). clear_from (sent_at other (l ++ acts)) ≤ bound) (sym none) clear
answer-clear tick bound place other (FirstFrame len bytes) channels done acts none clear = subst (λ (l : List Act). clear_from (sent_at other (l ++ acts)) ≤ bound) (sym none) clear
answer-clear tick bound place other (ConsecutiveFrame number bytes) channels done acts none clear = subst (λ (l : List Act). clear_from (sent_at other (l ++ acts)) ≤ bound) (sym none) clear
answer-clear tick bound place other (FlowControl status block_size separation) channels done acts sent clear = sent-clear tick bound status block_size separation place other channels done acts sent clear
answer-clear tick bound place other (NoUnit why) channels done acts none clear = subst (λ (l : List Act). clear_from (sent_at other (l ++ acts)) ≤ bound) (sym none) clear

-- nothing of a receiver's comes with an answer
pub answer-receives : (tick place other : ℕ) (meaning : Meaning) (channels : List Channel) (done : List Act) → IsAnswerHeard tick place meaning channels done → received_at other done ≡ []
answer-receives tick place other (SingleFrame bytes) channels done none = ap (received_at other) none
answer-receives tick place other (FirstFrame len bytes) channels done none = ap (received_at other) none
answer-receives tick place other (ConsecutiveFrame number bytes) channels done none = ap (received_at other) none
answer-receives tick place other (FlowControl status block_size separation) channels done sent = sent.receivers other
answer-receives tick place other (NoUnit why) channels done none = ap (received_at other) none

pub heard-clear : (tick bound other : ℕ) (routes : List Comes) (channels : List Channel) (frame : CanFrame) (done acts : List Act) → IsHeard tick routes channels frame done → clear_from (sent_at other acts) ≤ bound → clear_from (sent_at other (done ++ acts)) ≤ bound
heard-clear tick bound other routes channels frame done acts (Nowhere none is) clear = subst (λ (l : List Act). clear_from (sent_at other (l ++ acts)) ≤ bound) (sym is) clear
heard-clear tick bound other routes channels frame done acts (Somewhere place to frames answers is heard answer) clear =
    let P : List Act → Type 0 = λ l. clear_from (sent_at other l) ≤ bound in
    subst P (sym (ap (λ l. l ++ acts) is ∙ append_assoc answers frames acts)) (answer-clear tick bound place other (unit_of (bytes_of_address to.comes.byte) frame) channels answers (frames ++ acts) answer (still-clear bound other frames acts (heard.senders other) clear))

pub heard-few : (tick other : ℕ) (routes : List Comes) (channels : List Channel) (frame : CanFrame) (done : List Act) → IsHeard tick routes channels frame done → length (came_by frames_in (received_at other done)) ≤ 1
heard-few tick other routes channels frame done (Nowhere none is) = subst (λ (l : List Act). length (came_by frames_in (received_at other l)) ≤ 1) (sym is) (omega arith)
heard-few tick other routes channels frame done (Somewhere place to frames answers is heard answer) =
    let P : List RxTurn → Type 0 = λ l. length (came_by frames_in l) ≤ 1 in
    let meaning : Meaning = unit_of (bytes_of_address to.comes.byte) frame in
    subst P (sym (ap (received_at other) is ∙ received-append other answers frames ∙ ap (λ l. l ++ received_at other frames) (answer-receives tick place other meaning channels answers answer)))
    (came-few tick (length frame.bytes) place other meaning channels frames heard)

-- a frame fewer can still come
pub hears-next : {Home : Type 0} (tick count : ℕ) (frame : CanFrame) (v w : Worker) (old new : PortState Home) → HearsBy tick (count + 1) v old → Hears tick frame v w old new → HearsBy tick count w new
hears-next tick count frame v w old new hears works =
    let one = works hears.since hears.acts hears.by hears.at hears.clear in
    record {
      since = tick;
      acts = one.done ++ hears.acts;
      by = omega arith;
      at = one.at;
      clear = λ other. heard-clear tick tick other v.routes.items v.channels.items frame one.done hears.acts one.are (hears.clear other);
      few = λ other.
          let more = heard-few tick other v.routes.items v.channels.items frame one.done one.are in
          let is = ap (λ (l : List RxTurn). length (came_by frames_in l)) (received-append other one.done hears.acts) ∙ ap length (came-append frames_in (received_at other one.done) (received_at other hears.acts)) ∙ length-append (came_by frames_in (received_at other hears.acts)) (came_by frames_in (received_at other one.done)) in
          let few = hears.few other in
          omega (arith, more, is, few);
      takes = (let a = hears.takes in let b = one.did.takes_used in omega (arith, a, b));
      spare = (let a = hears.spare in let b = one.did.spare_used in omega (arith, a, b));
    }

-- what is heard doesn't hang on how the machines went on
received-same : (tick size place : ℕ) (meaning : Meaning) (old new : List Channel) (done : List Act) → SameChannels old new → IsReceived tick (Came size meaning) place new done → IsReceived tick (Came size meaning) place old done
received-same tick size place meaning old new done same heard = record {
  own = λ one is. heard.own one (same.receives place ∙ is);
  none = λ is. heard.none (same.receives place ∙ is);
  others = heard.others;
  senders = heard.senders;
}

answer-same : (tick place : ℕ) (meaning : Meaning) (old new : List Channel) (done : List Act) → SameChannels old new → IsAnswerHeard tick place meaning new done → IsAnswerHeard tick place meaning old done
answer-same tick place (SingleFrame bytes) old new done same none = none
answer-same tick place (FirstFrame len bytes) old new done same none = none
answer-same tick place (ConsecutiveFrame number bytes) old new done same none = none
answer-same tick place (FlowControl status block_size separation) old new done same sent = sent-same tick (Fc status block_size separation) place old new done same sent
answer-same tick place (NoUnit why) old new done same none = none

pub heard-same : (tick : ℕ) (routes now : List Comes) (old new : List Channel) (frame : CanFrame) (done : List Act) → now ≡ routes → SameChannels old new → IsHeard tick now new frame done → IsHeard tick routes old frame done
heard-same tick routes now old new frame done is same heard = (let P : List Comes → Type 0 = λ l. IsHeard tick l old frame done in subst P is (one heard)) where
  one : IsHeard tick now new frame done → IsHeard tick now old frame done
  one (Nowhere none is') = Nowhere none is'
  one (Somewhere place to frames answers is' heard' answer) =
      Somewhere place to frames answers is' (received-same tick (length frame.bytes) place (unit_of (bytes_of_address to.comes.byte) frame) old new frames same heard') (answer-same tick place (unit_of (bytes_of_address to.comes.byte) frame) old new answers same answer)

pub are-heard-push : (tick : ℕ) (routes : List Comes) (channels : List Channel) (frames : List CanFrame) (frame : CanFrame) (done more : List Act) → AreHeard tick routes channels frames done → IsHeard tick routes channels frame more → AreHeard tick routes channels (frames ++ frame ∷ []) (more ++ done)
are-heard-push tick routes channels [] frame done more none heard = (more, [], ap (λ l. more ++ l) none ∙ append-nil more, heard, refl)
are-heard-push tick routes channels (one ∷ later) frame done more so heard =
    (so.0, more ++ so.1, ap (λ l. more ++ l) so.2 ∙ sym (append_assoc more so.1 so.0), so.3, are-heard-push tick routes channels later frame so.1 more so.4 heard)

pub are-heard-clear : (tick bound other : ℕ) (routes : List Comes) (channels : List Channel) (frames : List CanFrame) (done acts : List Act) → AreHeard tick routes channels frames done → clear_from (sent_at other acts) ≤ bound → clear_from (sent_at other (done ++ acts)) ≤ bound
are-heard-clear tick bound other routes channels [] done acts none clear = subst (λ (l : List Act). clear_from (sent_at other (l ++ acts)) ≤ bound) (sym none) clear
are-heard-clear tick bound other routes channels (frame ∷ later) done acts so clear =
    let P : List Act → Type 0 = λ l. clear_from (sent_at other l) ≤ bound in
    subst P (sym (ap (λ l. l ++ acts) so.2 ∙ append_assoc so.1 so.0 acts)) (are-heard-clear tick bound other routes channels later so.1 (so.0 ++ acts) so.4 (heard-clear tick bound other routes channels frame so.0 acts so.3 clear))

-- one frame more was heard
pub hears-more : {Home : Type 0} (tick : ℕ) (front : List CanFrame) (frame : CanFrame) (u v w : Worker) (one two three : PortState Home) →
    HearsAll tick front u v one two → Hears tick frame v w two three → HearsAll tick (front ++ frame ∷ []) u w one three
hears-more {Home = Home} tick front frame u v w one two three first second since acts by at' clear =
    let a = first since acts by at' clear in
    let b = second tick (a.done ++ acts) (omega arith) a.at (λ other. are-heard-clear tick tick other u.routes.items u.channels.items front a.done acts a.are (clear other)) in
    let count : length front + 1 ≡ length (front ++ frame ∷ []) = sym (length-append front (frame ∷ [])) in
    let R : List Act → Type 0 = λ l. Rests {Home = Home} tick l w three in
    let N : ℕ → Type 0 = λ n. Did {Home = Home} n (9 * length front + 9) (b.done ++ a.done) u w one three in
    let M : ℕ → Type 0 = λ n. Did {Home = Home} (length (front ++ frame ∷ [])) n (b.done ++ a.done) u w one three in
    record {
      done = b.done ++ a.done;
      at = subst R (sym (append_assoc b.done a.done acts)) b.at;
      did = subst M (omega (arith, count)) (subst N count (did-then (length front) (9 * length front) 1 9 a.done b.done u v w one two three a.did b.did));
      are = are-heard-push tick u.routes.items u.channels.items front frame a.done b.done a.are (heard-same tick u.routes.items v.routes.items u.channels.items v.channels.items frame b.done (ap (λ r. r.items) a.did.routes) a.did.channels b.are);
      sent = b.sent ∙ a.sent;
    }
