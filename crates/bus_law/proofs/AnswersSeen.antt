-- The flow controls of which a destination's sender was told are those of the bus that are its channel's.
use Rattle.std.proofs.Common.{◌≡◌, ◌≢◌, inl, inr, ℕ, Bool, true, false, cond, Some, List, [], ◌∷◌, ◌++◌, refl, ap, sym, ◌∙◌, append-nil}
use Rattle.std.specs.Prelude.{slice_get}
use Rattle.std.specs.List.{AllByRecursion}
use Rattle.std.proofs.lemmas.Bool.{cases_eq}
use Rattle.std.proofs.lemmas.Grind.{flat_map-append}
use Rattle.std.proofs.lemmas.List.Elements.{filter-append}
use Rattle.can_frame.specs.Frame.{CanFrame}
use Rattle.gw_base.proofs.Lists.{same-some}
use Rattle.hub_core.proofs.Turns.{came-append}
use Rattle.hub_core.specs.Turns.{came_by}
use Rattle.sender_law.specs.Parts.{IsStepIn}
use Rattle.tp_sender.specs.Runs.{controls_in}
use Rattle.tp_sender.specs.State.{TxTurn}
use Rattle.tp_sender.specs.declared.event.TxEvent.{TxEvent}
use Rattle.tp_sender.specs.declared.event.TxEvent.TheVariants.{Fc, RunEnd, Turn}
use Rattle.tp_sender.specs.declared.set.TxSet.{TxSet}
use Rattle.tp_unit.specs.Box.{Answer}
use Rattle.tp_unit.specs.Reading.{unit_of}
use Rattle.tp_unit.specs.Unit.{Meaning, SingleFrame, FirstFrame, ConsecutiveFrame, FlowControl, NoUnit}
use Rattle.tx_mailbox.specs.Boxes.{Pending}
use Rattle.gw_law.specs.Channels.{InTick, answer_in, answers_in, bytes_of_address, frames_for, is_addressed}
use Rattle.bus_worker.proofs.ActLists.{sent-append, sent-other, sent-own}
use Rattle.bus_worker.specs.Acts.{Act, Sent, sent_at}
use Rattle.bus_worker.specs.Comes.{address_of}
use Rattle.bus_worker.specs.Emission.{AreLeaving, Control, Data, IsLeaving}
use Rattle.bus_worker.specs.Hearing.{AreHeard, IsAnswerHeard, IsHeard, Nowhere, Somewhere}
use Rattle.bus_worker.specs.History.{AreBusTicks, BusTick, acts_in, all_came_in, came_in}
use Rattle.bus_worker.specs.Phases.{OneSent}
use Rattle.bus_worker.specs.Stands.{sends_at}
use Rattle.bus_worker.specs.declared.channel.Channel.{Channel}
use Rattle.bus_worker.specs.declared.comes.Comes.{Comes}
use Rattle.bus_worker.proofs.Finishing.{sends-within}
use Rattle.bus_law.proofs.Seen.{in-tick, none-own, not-own}
use Rattle.bus_law.specs.Apart.{AreApartOnBus}
use Rattle.bus_law.specs.Laws.{AnswersCome}

-- of some frames the flow controls of a channel
abbrev answers-of : Comes → List InTick → List Answer
answers-of comes frames = answers_in (bytes_of_address comes.byte) (frames_for (address_of comes) frames)

answers-append : (comes : Comes) (xs ys : List InTick) → answers-of comes (xs ++ ys) ≡ answers-of comes xs ++ answers-of comes ys
answers-append comes xs ys =
    ap (answers_in (bytes_of_address comes.byte)) (filter-append (λ (f : InTick). is_addressed (address_of comes) f.frame) xs ys)
    ∙ flat_map-append (λ (f : InTick). answer_in f.tick (unit_of (bytes_of_address comes.byte) f.frame)) (frames_for (address_of comes) xs) (frames_for (address_of comes) ys)

answers-one : (comes : Comes) (tick : ℕ) (frame : CanFrame) (own : Bool) → is_addressed (address_of comes) frame ≡ own → answers-of comes (in-tick tick frame ∷ []) ≡ cond own (answer_in tick (unit_of (bytes_of_address comes.byte) frame)) []
answers-one comes tick frame true is = ap (λ b. answers_in (bytes_of_address comes.byte) (cond b (in-tick tick frame ∷ []) [])) is ∙ append-nil (answer_in tick (unit_of (bytes_of_address comes.byte) frame))
answers-one comes tick frame false is = ap (λ b. answers_in (bytes_of_address comes.byte) (cond b (in-tick tick frame ∷ []) [])) is

-- at its channel a flow control is told to the sender, and nothing else is
one-told : (tick fs bs st : ℕ) (turns : List TxTurn) → OneSent tick (Fc fs bs st) turns → came_by controls_in turns ≡ record { tick = tick; status = fs; block_size = bs; separation = st } ∷ []
one-told tick fs bs st turns one =
    ap (came_by controls_in) one.turns_are ∙ ap (λ (e : TxEvent). controls_in one.turn.did.tick e) one.event_is ∙ ap (λ t. let a : Answer = record { tick = t; status = fs; block_size = bs; separation = st } in a ∷ []) one.tick_is

own-answer : (tick place : ℕ) (meaning : Meaning) (channels : List Channel) (set : TxSet) (done : List Act) → sends_at channels place ≡ Some set → IsAnswerHeard tick place meaning channels done → came_by controls_in (sent_at place done) ≡ answer_in tick meaning
own-answer tick place (SingleFrame bytes) channels set done there none = ap (λ (l : List Act). came_by controls_in (sent_at place l)) none
own-answer tick place (FirstFrame len bytes) channels set done there none = ap (λ (l : List Act). came_by controls_in (sent_at place l)) none
own-answer tick place (ConsecutiveFrame number bytes) channels set done there none = ap (λ (l : List Act). came_by controls_in (sent_at place l)) none
own-answer tick place (FlowControl status block_size separation) channels set done there sent = one-told tick status block_size separation (sent_at place done) (sent.own set there)
own-answer tick place (NoUnit why) channels set done there none = ap (λ (l : List Act). came_by controls_in (sent_at place l)) none

other-answer : (tick place other : ℕ) (meaning : Meaning) (channels : List Channel) (done : List Act) → other ≢ place → IsAnswerHeard tick place meaning channels done → sent_at other done ≡ []
other-answer tick place other (SingleFrame bytes) channels done ne none = ap (sent_at other) none
other-answer tick place other (FirstFrame len bytes) channels done ne none = ap (sent_at other) none
other-answer tick place other (ConsecutiveFrame number bytes) channels done ne none = ap (sent_at other) none
other-answer tick place other (FlowControl status block_size separation) channels done ne sent = sent.others other ne
other-answer tick place other (NoUnit why) channels done ne none = ap (sent_at other) none

-- no flow control comes with a turn, nor with a frame that leaves, nor at the run's end
turn-comes : (tick : ℕ) (turns : List TxTurn) → OneSent tick Turn turns → came_by controls_in turns ≡ []
turn-comes tick turns one = ap (came_by controls_in) one.turns_are ∙ ap (λ (e : TxEvent). controls_in one.turn.did.tick e) one.event_is

act-comes : (tick number place : ℕ) (act : Act) → IsLeaving tick number act → came_by controls_in (sent_at place (act ∷ [])) ≡ []
act-comes tick number place act (Control other turn number_is is event tick_is) = ap (λ a. came_by controls_in (sent_at place (a ∷ []))) is
act-comes tick number place act (Data other turn number_is is event tick_is) =
    ap (λ a. came_by controls_in (sent_at place (a ∷ []))) is ∙ elim (cases_eq place other) [
      | inl here ↦ ap (λ p. came_by controls_in (sent_at p (Sent other turn ∷ []))) here ∙ ap (came_by controls_in) (sent-own other turn []) ∙ ap (λ (e : TxEvent). controls_in turn.did.tick e) event
      | inr ne ↦ ap (came_by controls_in) (sent-other other place turn [] ne)
    ]

came-both : (place : ℕ) (later earlier : List Act) → came_by controls_in (sent_at place (later ++ earlier)) ≡ came_by controls_in (sent_at place earlier) ++ came_by controls_in (sent_at place later)
came-both place later earlier = ap (came_by controls_in) (sent-append place later earlier) ∙ came-append controls_in (sent_at place later) (sent_at place earlier)

leaving-comes : (tick place : ℕ) (out : List Pending) (done : List Act) → AreLeaving tick out done → came_by controls_in (sent_at place done) ≡ []
leaving-comes tick place [] done none = ap (λ (l : List Act). came_by controls_in (sent_at place l)) none
leaving-comes tick place (entry ∷ later) done so =
    ap (λ (l : List Act). came_by controls_in (sent_at place l)) so.2 ∙ came-both place so.1 (so.0 ∷ [])
    ∙ ap (λ l. l ++ came_by controls_in (sent_at place so.1)) (act-comes tick entry.0 place so.0 so.3) ∙ leaving-comes tick place later so.1 so.4

ends-come : (last : ℕ) (turns : List TxTurn) → AllByRecursion (IsStepIn last RunEnd) turns → came_by controls_in turns ≡ []
ends-come last [] all = refl
ends-come last (turn ∷ turns) all = ap (λ (e : TxEvent). came_by controls_in turns ++ controls_in turn.did.tick e) all.0.0 ∙ append-nil (came_by controls_in turns) ∙ ends-come last turns all.1

module _ (routes : List Comes) (channels : List Channel) (apart : AreApartOnBus routes channels) (place : ℕ) (comes : Comes) (is : slice_get routes place ≡ Some comes) (set : TxSet) (there : sends_at channels place ≡ Some set) where
  heard-answers : (tick : ℕ) (frame : CanFrame) (done : List Act) → IsHeard tick routes channels frame done → came_by controls_in (sent_at place done) ≡ answers-of comes (in-tick tick frame ∷ [])
  heard-answers tick frame done (Nowhere none done_is) =
      ap (λ (l : List Act). came_by controls_in (sent_at place l)) done_is ∙ sym (answers-one comes tick frame false (none-own routes place comes frame none is))
  heard-answers tick frame done (Somewhere other to frames answers done_is heard answer) =
      let meaning : Meaning = unit_of (bytes_of_address to.comes.byte) frame in
      let sent : came_by controls_in (sent_at place done) ≡ came_by controls_in (sent_at place answers) =
      ap (λ (l : List Act). came_by controls_in (sent_at place l)) done_is ∙ came-both place answers frames ∙ ap (λ (l : List TxTurn). came_by controls_in l ++ came_by controls_in (sent_at place answers)) (heard.senders place) in
      sent ∙ elim (cases_eq place other) [
        | inl here ↦
            let same : to.comes ≡ comes = same-some to.there (ap (slice_get routes) (sym here) ∙ is) in
            ap (λ p. came_by controls_in (sent_at p answers)) here ∙ own-answer tick other meaning channels set answers (ap (sends_at channels) (sym here) ∙ there) answer
            ∙ ap (λ (c : Comes). answer_in tick (unit_of (bytes_of_address c.byte) frame)) same
            ∙ sym (answers-one comes tick frame true (ap (λ (c : Comes). is_addressed (address_of c) frame) (sym same) ∙ to.is))
        | inr ne ↦
            ap (came_by controls_in) (other-answer tick other place meaning channels answers ne answer)
            ∙ sym (answers-one comes tick frame false (not-own (is_addressed (address_of comes) frame) routes channels place other comes to.comes frame apart is to.there to.is ne refl))
      ]

  all-answers : (tick : ℕ) (frames : List CanFrame) (done : List Act) → AreHeard tick routes channels frames done → came_by controls_in (sent_at place done) ≡ answers-of comes (all_came_in tick frames)
  all-answers tick [] done none = ap (λ (l : List Act). came_by controls_in (sent_at place l)) none
  all-answers tick (frame ∷ later) done so =
      ap (λ (l : List Act). came_by controls_in (sent_at place l)) so.2 ∙ came-both place so.1 so.0
      ∙ ap (λ l. l ++ came_by controls_in (sent_at place so.1)) (heard-answers tick frame so.0 so.3)
      ∙ ap (λ l. answers-of comes (in-tick tick frame ∷ []) ++ l) (all-answers tick later so.1 so.4)
      ∙ sym (answers-append comes (in-tick tick frame ∷ []) (all_came_in tick later))

  ticks-answers : (budget : ℕ) (ticks : List BusTick) → AreBusTicks budget routes channels [] ticks → came_by controls_in (sent_at place (acts_in ticks)) ≡ answers-of comes (came_in ticks)
  ticks-answers budget [] are = refl
  ticks-answers budget (t ∷ earlier) are =
      let acts : List Act = acts_in earlier in
      came-both place t.left (t.turns ++ (t.timers ++ (t.came ++ acts)))
      ∙ ap (λ l. came_by controls_in (sent_at place (t.turns ++ (t.timers ++ (t.came ++ acts)))) ++ l) (leaving-comes t.tick place t.out t.left are.0.told) ∙ append-nil (came_by controls_in (sent_at place (t.turns ++ (t.timers ++ (t.came ++ acts)))))
      ∙ came-both place t.turns (t.timers ++ (t.came ++ acts))
      ∙ ap (λ l. came_by controls_in (sent_at place (t.timers ++ (t.came ++ acts))) ++ l) (turn-comes t.tick (sent_at place t.turns) (are.0.turned.each place set (sends-within channels place set there) there)) ∙ append-nil (came_by controls_in (sent_at place (t.timers ++ (t.came ++ acts))))
      ∙ ap (λ l. came_by controls_in l) (sent-append place t.timers (t.came ++ acts) ∙ ap (λ l. l ++ sent_at place (t.came ++ acts)) (are.0.timed.senders place))
      ∙ came-both place t.came acts
      ∙ ap (λ l. l ++ came_by controls_in (sent_at place t.came)) (ticks-answers budget earlier are.1)
      ∙ ap (λ l. answers-of comes (came_in earlier) ++ l) (all-answers t.tick t.frames t.came are.0.heard)
      ∙ sym (answers-append comes (came_in earlier) (all_came_in t.tick t.frames))

pub answers-are : AnswersCome
answers-are budget last routes channels ticks end run apart place comes set is there =
    came-both place end (acts_in ticks) ∙ ap (λ l. came_by controls_in (sent_at place (acts_in ticks)) ++ l) (ends-come last (sent_at place end) (run.ends.senders place))
    ∙ append-nil (came_by controls_in (sent_at place (acts_in ticks))) ∙ ticks-answers routes channels apart place comes is set there budget ticks run.ticks_are
