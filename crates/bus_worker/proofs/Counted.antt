-- In the phases in which each machine is told once no frame comes, and none leaves.
use Rattle.std.proofs.Common.{◌≡◌, inl, inr, ℕ, ◌≤◌, Option, None, Some, List, [], ◌++◌, refl, ap, sym, subst, ◌∙◌, append-nil}
use Rattle.std.proofs.lemmas.Bool.{cases_lt}
use Rattle.hub_core.proofs.Turns.{came-append}
use Rattle.hub_core.specs.Turns.{came_by}
use Rattle.tp_receiver.specs.Runs.{frames_in}
use Rattle.tp_receiver.specs.State.{RxEvent, RxTurn, Timer}
use Rattle.tp_receiver.specs.declared.set.RxSet.{RxSet}
use Rattle.tp_sender.specs.Runs.{after_left, clear_from}
use Rattle.tp_sender.specs.State.{TxTurn}
use Rattle.tp_sender.specs.declared.event.TxEvent.{TxEvent}
use Rattle.tp_sender.specs.declared.event.TxEvent.TheVariants.{Turn}
use Rattle.tp_sender.specs.declared.set.TxSet.{TxSet}
use Rattle.tp_unit.specs.declared.shape.Shape.{Shape}
use Rattle.bus_worker.proofs.ActLists.{received-append, sent-append}
use Rattle.bus_worker.proofs.Heard.{still-clear}
use Rattle.bus_worker.specs.Acts.{Act, received_at, sent_at}
use Rattle.bus_worker.specs.Phases.{AreTimers, AreTurns, OneReceived, OneSent}
use Rattle.bus_worker.specs.Stands.{receives_at, sends_at}
use Rattle.bus_worker.specs.declared.channel.Channel.{Channel}

-- after timers
pub timers-clear : (tick count bound place : ℕ) (channels : List Channel) (done acts : List Act) → AreTimers tick count channels done → clear_from (sent_at place acts) ≤ bound → clear_from (sent_at place (done ++ acts)) ≤ bound
timers-clear tick count bound place channels done acts timers clear = still-clear bound place done acts (timers.senders place) clear

timer-comes : (tick : ℕ) (turns : List RxTurn) → OneReceived tick Timer turns → came_by frames_in turns ≡ []
timer-comes tick turns one = ap (came_by frames_in) one.turns_are ∙ ap (λ (e : RxEvent). frames_in one.turn.did.tick e) one.event_is

timers-come-in : (found : Option (RxSet × Shape)) (tick count place : ℕ) (channels : List Channel) (done : List Act) → receives_at channels place ≡ found → AreTimers tick count channels done → came_by frames_in (received_at place done) ≡ []
timers-come-in None tick count place channels done is timers = ap (came_by frames_in) (timers.none place is)
timers-come-in (Some one) tick count place channels done is timers = elim (cases_lt place count) [
  | inl below ↦ timer-comes tick (received_at place done) (timers.each place one below is)
  | inr above ↦ ap (came_by frames_in) (timers.later place above)
]

-- frames that came are as many as before where these acts brought none
pub came-stays : (place : ℕ) (done acts : List Act) → came_by frames_in (received_at place done) ≡ [] → came_by frames_in (received_at place (done ++ acts)) ≡ came_by frames_in (received_at place acts)
came-stays place done acts none =
    ap (came_by frames_in) (received-append place done acts) ∙ came-append frames_in (received_at place done) (received_at place acts) ∙ ap (λ l. came_by frames_in (received_at place acts) ++ l) none ∙ append-nil (came_by frames_in (received_at place acts))

pub timers-come : (tick count place : ℕ) (channels : List Channel) (done acts : List Act) → AreTimers tick count channels done → came_by frames_in (received_at place (done ++ acts)) ≡ came_by frames_in (received_at place acts)
timers-come tick count place channels done acts timers = came-stays place done acts (timers-come-in (receives_at channels place) tick count place channels done refl timers)

-- after turns
turn-clear : (tick bound : ℕ) (turns earlier : List TxTurn) → OneSent tick Turn turns → clear_from earlier ≤ bound → clear_from (turns ++ earlier) ≤ bound
turn-clear tick bound turns earlier one clear =
    let P : List TxTurn → Type 0 = λ l. clear_from (l ++ earlier) ≤ bound in
    let E : TxEvent → Type 0 = λ e. after_left e one.turn.did.tick (clear_from earlier) ≤ bound in
    subst P (sym one.turns_are) (subst E (sym one.event_is) clear)

turns-clear-in : (found : Option TxSet) (tick count bound place : ℕ) (channels : List Channel) (done acts : List Act) → sends_at channels place ≡ found → AreTurns tick count channels done → clear_from (sent_at place acts) ≤ bound → clear_from (sent_at place (done ++ acts)) ≤ bound
turns-clear-in None tick count bound place channels done acts is turns clear = still-clear bound place done acts (turns.none place is) clear
turns-clear-in (Some one) tick count bound place channels done acts is turns clear = elim (cases_lt place count) [
  | inl below ↦ subst (λ (l : List TxTurn). clear_from l ≤ bound) (sym (sent-append place done acts)) (turn-clear tick bound (sent_at place done) (sent_at place acts) (turns.each place one below is) clear)
  | inr above ↦ still-clear bound place done acts (turns.later place above) clear
]

pub turns-clear : (tick count bound place : ℕ) (channels : List Channel) (done acts : List Act) → AreTurns tick count channels done → clear_from (sent_at place acts) ≤ bound → clear_from (sent_at place (done ++ acts)) ≤ bound
turns-clear tick count bound place channels done acts turns clear = turns-clear-in (sends_at channels place) tick count bound place channels done acts refl turns clear

pub turns-come : (tick count place : ℕ) (channels : List Channel) (done acts : List Act) → AreTurns tick count channels done → came_by frames_in (received_at place (done ++ acts)) ≡ came_by frames_in (received_at place acts)
turns-come tick count place channels done acts turns = came-stays place done acts (ap (came_by frames_in) (turns.receivers place))
