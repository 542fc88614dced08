-- After some works the hub's view has what the calls of both parties made.
use Rattle.std.proofs.Common.{◌≡◌, ℕ, List, [], ◌∷◌, ◌++◌, refl, ap, sym, ◌∙◌, subst}
use Rattle.hub_core.proofs.Beside.{readings-grown, sessions-grown}
use Rattle.hub_core.proofs.Turns.{calls-append, happened-front}
use Rattle.hub_core.specs.Turns.{calls_by}
use Rattle.hub_core.specs.View.{Event, View, empty_view, grows}
use Rattle.tp_receiver.specs.Runs.{HasReceived}
use Rattle.tp_receiver.specs.State.{RxTurn}
use Rattle.tp_receiver.specs.declared.set.RxSet.{RxSet}
use Rattle.tp_sender.specs.Runs.{HasSent}
use Rattle.tp_sender.specs.State.{TxTurn}
use Rattle.tp_sender.specs.declared.set.TxSet.{TxSet}
use Rattle.gw_law.proofs.runs.OwnCalls.{readings-stay, received-writes, sent-reads, sessions-stay}
use Rattle.gw_run.specs.Works.{Work, moments_of, turns_of, view_between, view_of}

-- the path's sessions in a view are what the receiver's calls made
abbrev pub OwnSessions : RxSet → List RxTurn → View → Type 0
OwnSessions rx turns v = v.sessions rx.path.0 ≡ (grows (calls_by turns) empty_view).sessions rx.path.0

-- the destination's readings are what the sender's calls made
abbrev pub OwnReadings : TxSet → List TxTurn → View → Type 0
OwnReadings tx moments v = v.readings tx.path.0 tx.dest.0 ≡ (grows (calls_by moments) empty_view).readings tx.path.0 tx.dest.0

-- the receiver's part of a tick
sessions-turned : (rx : RxSet) (turns earlier : List RxTurn) (v : View) → OwnSessions rx earlier v → OwnSessions rx (turns ++ earlier) (grows (calls_by turns) v)
sessions-turned rx turns earlier v so =
    let P : List Event → Type 0 = λ c. (grows (calls_by turns) v).sessions rx.path.0 ≡ (grows c empty_view).sessions rx.path.0 in
    subst P (sym (calls-append turns earlier)) (sessions-grown rx.path.0 (calls_by earlier) (calls_by turns) v (grows (calls_by turns) v) refl so)

pub readings-turned : (rx : RxSet) (tx : TxSet) (turns earlier : List RxTurn) (moments : List TxTurn) (v : View) → HasReceived rx (turns ++ earlier) → OwnReadings tx moments v → OwnReadings tx moments (grows (calls_by turns) v)
readings-turned rx tx turns earlier moments v received so = ap (λ (r : ℕ → ℕ → List _). r tx.path.0 tx.dest.0) (readings-stay rx.path.0 rx.group.0 (calls_by turns) v (received-writes rx turns earlier received)) ∙ so

-- the sender's part of a tick
sessions-sent : (rx : RxSet) (tx : TxSet) (turns : List RxTurn) (moments earlier : List TxTurn) (v : View) → HasSent tx (moments ++ earlier) → OwnSessions rx turns v → OwnSessions rx turns (grows (calls_by moments) v)
sessions-sent rx tx turns moments earlier v sent so = ap (λ (s : ℕ → List _). s rx.path.0) (sessions-stay tx.path.0 tx.dest.0 (calls_by moments) v (sent-reads tx moments earlier sent)) ∙ so

readings-sent : (tx : TxSet) (moments earlier : List TxTurn) (v : View) → OwnReadings tx earlier v → OwnReadings tx (moments ++ earlier) (grows (calls_by moments) v)
readings-sent tx moments earlier v so =
    let P : List Event → Type 0 = λ c. (grows (calls_by moments) v).readings tx.path.0 tx.dest.0 ≡ (grows c empty_view).readings tx.path.0 tx.dest.0 in
    subst P (sym (calls-append moments earlier)) (readings-grown tx.path.0 tx.dest.0 (calls_by earlier) (calls_by moments) v (grows (calls_by moments) v) refl so)

-- after some works, and in the midst of a work after them
pub sessions-own : (rx : RxSet) (tx : TxSet) (works : List Work) → HasReceived rx (turns_of works) → HasSent tx (moments_of works) → OwnSessions rx (turns_of works) (view_of works)
sessions-own rx tx [] received sent = refl
sessions-own rx tx (work ∷ earlier) received sent =
    sessions-sent rx tx (turns_of (work ∷ earlier)) work.moments (moments_of earlier) (view_between earlier work) sent
    (sessions-turned rx work.turns (turns_of earlier) (view_of earlier) (sessions-own rx tx earlier (happened-front _ work.turns (turns_of earlier) received) (happened-front _ work.moments (moments_of earlier) sent)))

pub readings-own : (rx : RxSet) (tx : TxSet) (works : List Work) → HasReceived rx (turns_of works) → HasSent tx (moments_of works) → OwnReadings tx (moments_of works) (view_of works)
readings-own rx tx [] received sent = refl
readings-own rx tx (work ∷ earlier) received sent =
    readings-sent tx work.moments (moments_of earlier) (view_between earlier work)
    (readings-turned rx tx work.turns (turns_of earlier) (moments_of earlier) (view_of earlier) received (readings-own rx tx earlier (happened-front _ work.turns (turns_of earlier) received) (happened-front _ work.moments (moments_of earlier) sent)))
