-- What the machines of a channel are told of frames that come in a tick.
use Rattle.std.proofs.Common.{◌≡◌, inl, inr, ℕ, Option, None, Some, List, [], ◌∷◌, ◌++◌, length, refl, ap, sym, ◌∙◌, subst}
use Rattle.std.specs.List.{AllByRecursion}
use Rattle.std.proofs.lemmas.Bool.{cases_eq}
use Rattle.can_frame.specs.Frame.{CanFrame}
use Rattle.gw_base.proofs.Lists.{all-join}
use Rattle.receiver_law.specs.Parts.{CameIn}
use Rattle.sender_law.specs.Parts.{IsAnswerIn, AnswersIn}
use Rattle.tp_receiver.specs.State.{Came, RxEvent, RxTurn}
use Rattle.tp_receiver.specs.declared.set.RxSet.{RxSet}
use Rattle.tp_sender.specs.State.{TxTurn}
use Rattle.tp_sender.specs.declared.event.TxEvent.{TxEvent}
use Rattle.tp_sender.specs.declared.event.TxEvent.TheVariants.{Fc}
use Rattle.tp_sender.specs.declared.set.TxSet.{TxSet}
use Rattle.tp_unit.specs.Reading.{unit_of}
use Rattle.tp_unit.specs.Unit.{Meaning, SingleFrame, FirstFrame, ConsecutiveFrame, FlowControl, NoUnit}
use Rattle.tp_unit.specs.declared.shape.Shape.{Shape}
use Rattle.gw_law.specs.Channels.{bytes_of_address}
use Rattle.bus_worker.proofs.ActLists.{received-append, sent-append}
use Rattle.bus_worker.proofs.HeardAll.{answer-receives}
use Rattle.bus_worker.specs.Acts.{Act, received_at, sent_at}
use Rattle.bus_worker.specs.Hearing.{AreHeard, IsAnswerHeard, IsHeard, Nowhere, Somewhere}
use Rattle.bus_worker.specs.Phases.{IsReceived, IsSent, OneReceived, OneSent}
use Rattle.bus_worker.specs.Stands.{receives_at, sends_at}
use Rattle.bus_worker.specs.declared.channel.Channel.{Channel}
use Rattle.bus_worker.specs.declared.comes.Comes.{Comes}

-- a receiver's turn in which a frame of that tick came
abbrev pub ComesIn : ℕ → RxTurn → Type 0
ComesIn tick turn = CameIn tick turn.event turn.did.tick

one-came : (tick size : ℕ) (meaning : Meaning) (turns : List RxTurn) → OneReceived tick (Came size meaning) turns → AllByRecursion (ComesIn tick) turns
one-came tick size meaning turns one =
    let A : List RxTurn → Type 0 = λ l. AllByRecursion (ComesIn tick) l in
    let E : RxEvent → Type 0 = λ e. CameIn tick e one.turn.did.tick in
    subst A (sym one.turns_are) (subst E (sym one.event_is) one.tick_is, tt)

received-came : (found : Option (RxSet × Shape)) (tick size place other : ℕ) (meaning : Meaning) (channels : List Channel) (done : List Act) → receives_at channels place ≡ found → IsReceived tick (Came size meaning) place channels done → AllByRecursion (ComesIn tick) (received_at other done)
received-came found tick size place other meaning channels done is heard = elim (cases_eq other place) [
  | inl here ↦ subst (λ (p : ℕ). AllByRecursion (ComesIn tick) (received_at p done)) (sym here) (own found is)
  | inr ne ↦ subst (λ (l : List RxTurn). AllByRecursion (ComesIn tick) l) (sym (heard.others other ne)) tt
] where
  own : (there : Option (RxSet × Shape)) → receives_at channels place ≡ there → AllByRecursion (ComesIn tick) (received_at place done)
  own None none = subst (λ (l : List RxTurn). AllByRecursion (ComesIn tick) l) (sym (heard.none none)) tt
  own (Some one) some = one-came tick size meaning (received_at place done) (heard.own one some)

heard-came : (tick place : ℕ) (routes : List Comes) (channels : List Channel) (frame : CanFrame) (done : List Act) → IsHeard tick routes channels frame done → AllByRecursion (ComesIn tick) (received_at place done)
heard-came tick place routes channels frame done (Nowhere none is) = subst (λ (l : List Act). AllByRecursion (ComesIn tick) (received_at place l)) (sym is) tt
heard-came tick place routes channels frame done (Somewhere other to frames answers is heard answer) =
    let A : List RxTurn → Type 0 = λ l. AllByRecursion (ComesIn tick) l in
    let meaning : Meaning = unit_of (bytes_of_address to.comes.byte) frame in
    subst A (sym (ap (received_at place) is ∙ received-append place answers frames ∙ ap (λ l. l ++ received_at place frames) (answer-receives tick other place meaning channels answers answer)))
    (received-came (receives_at channels other) tick (length frame.bytes) other place meaning channels frames refl heard)

pub all-came : (tick place : ℕ) (routes : List Comes) (channels : List Channel) (frames : List CanFrame) (done : List Act) → AreHeard tick routes channels frames done → AllByRecursion (ComesIn tick) (received_at place done)
all-came tick place routes channels [] done none = subst (λ (l : List Act). AllByRecursion (ComesIn tick) (received_at place l)) (sym none) tt
all-came tick place routes channels (frame ∷ later) done so =
    let A : List RxTurn → Type 0 = λ l. AllByRecursion (ComesIn tick) l in
    subst A (sym (ap (received_at place) so.2 ∙ received-append place so.1 so.0)) (all-join (ComesIn tick) (received_at place so.1) (received_at place so.0) (all-came tick place routes channels later so.1 so.4) (heard-came tick place routes channels frame so.0 so.3))

-- a sender's turn in which a flow control of that tick came
one-answer : (tick fs bs st : ℕ) (turns : List TxTurn) → OneSent tick (Fc fs bs st) turns → AllByRecursion (IsAnswerIn tick) turns
one-answer tick fs bs st turns one =
    let A : List TxTurn → Type 0 = λ l. AllByRecursion (IsAnswerIn tick) l in
    let E : TxEvent → Type 0 = λ e. AnswersIn tick e one.turn.did.tick in
    subst A (sym one.turns_are) (subst E (sym one.event_is) one.tick_is, tt)

sent-answer : (tick fs bs st place other : ℕ) (channels : List Channel) (done : List Act) → IsSent tick (Fc fs bs st) place channels done → AllByRecursion (IsAnswerIn tick) (sent_at other done)
sent-answer tick fs bs st place other channels done sent = elim (cases_eq other place) [
  | inl here ↦ subst (λ (p : ℕ). AllByRecursion (IsAnswerIn tick) (sent_at p done)) (sym here) (own (sends_at channels place) refl)
  | inr ne ↦ subst (λ (l : List TxTurn). AllByRecursion (IsAnswerIn tick) l) (sym (sent.others other ne)) tt
] where
  own : (there : Option TxSet) → sends_at channels place ≡ there → AllByRecursion (IsAnswerIn tick) (sent_at place done)
  own None none = subst (λ (l : List TxTurn). AllByRecursion (IsAnswerIn tick) l) (sym (sent.none none)) tt
  own (Some one) some = one-answer tick fs bs st (sent_at place done) (sent.own one some)

answer-comes : (tick place other : ℕ) (meaning : Meaning) (channels : List Channel) (done : List Act) → IsAnswerHeard tick place meaning channels done → AllByRecursion (IsAnswerIn tick) (sent_at other done)
answer-comes tick place other (SingleFrame bytes) channels done none = subst (λ (l : List Act). AllByRecursion (IsAnswerIn tick) (sent_at other l)) (sym none) tt
answer-comes tick place other (FirstFrame len bytes) channels done none = subst (λ (l : List Act). AllByRecursion (IsAnswerIn tick) (sent_at other l)) (sym none) tt
answer-comes tick place other (ConsecutiveFrame number bytes) channels done none = subst (λ (l : List Act). AllByRecursion (IsAnswerIn tick) (sent_at other l)) (sym none) tt
answer-comes tick place other (FlowControl status block_size separation) channels done sent = sent-answer tick status block_size separation place other channels done sent
answer-comes tick place other (NoUnit why) channels done none = subst (λ (l : List Act). AllByRecursion (IsAnswerIn tick) (sent_at other l)) (sym none) tt

heard-answers : (tick place : ℕ) (routes : List Comes) (channels : List Channel) (frame : CanFrame) (done : List Act) → IsHeard tick routes channels frame done → AllByRecursion (IsAnswerIn tick) (sent_at place done)
heard-answers tick place routes channels frame done (Nowhere none is) = subst (λ (l : List Act). AllByRecursion (IsAnswerIn tick) (sent_at place l)) (sym is) tt
heard-answers tick place routes channels frame done (Somewhere other to frames answers is heard answer) =
    let A : List TxTurn → Type 0 = λ l. AllByRecursion (IsAnswerIn tick) l in
    let meaning : Meaning = unit_of (bytes_of_address to.comes.byte) frame in
    subst A (sym (ap (sent_at place) is ∙ sent-append place answers frames)) (all-join (IsAnswerIn tick) (sent_at place answers) (sent_at place frames) (answer-comes tick other place meaning channels answers answer) (subst A (sym (heard.senders place)) tt))

pub all-answers : (tick place : ℕ) (routes : List Comes) (channels : List Channel) (frames : List CanFrame) (done : List Act) → AreHeard tick routes channels frames done → AllByRecursion (IsAnswerIn tick) (sent_at place done)
all-answers tick place routes channels [] done none = subst (λ (l : List Act). AllByRecursion (IsAnswerIn tick) (sent_at place l)) (sym none) tt
all-answers tick place routes channels (frame ∷ later) done so =
    let A : List TxTurn → Type 0 = λ l. AllByRecursion (IsAnswerIn tick) l in
    subst A (sym (ap (sent_at place) so.2 ∙ sent-append place so.1 so.0)) (all-join (IsAnswerIn tick) (sent_at place so.1) (sent_at place so.0) (all-answers tick place routes channels later so.1 so.4) (heard-answers tick place routes channels frame so.0 so.3))
