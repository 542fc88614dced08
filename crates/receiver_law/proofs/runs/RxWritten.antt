-- What leaves on a source's channel is one of its receiver's flow controls, written in the channel's shape.
use Rattle.std.proofs.Common.{ℕ, Option, None, Some, List, [], ◌∷◌, refl}
use Rattle.std.specs.List.{AllByRecursion}
use Rattle.gw_base.proofs.Lists.{all-join}
use Rattle.hub_core.specs.Turns.{state_after}
use Rattle.tp_receiver.specs.declared.set.RxSet.{RxSet}
use Rattle.tp_receiver.specs.Effects.{IsControl, IsControlAct}
use Rattle.tp_receiver.specs.Runs.{HasReceived, control_after, control_at, control_once, controls_by}
use Rattle.tp_receiver.specs.State.{RxEvent, RxTurn, Came, Timer, FcLeft, RunEnd, rx_new}
use Rattle.tp_receiver.proofs.OwnSteps.{own-step}
use Rattle.tp_unit.specs.Box.{box_then}
use Rattle.tp_unit.specs.declared.shape.Shape.{Shape}
use Rattle.tp_unit.specs.Unit.{BoxMeaning, Keeps, Offers, Revokes, Meaning}
use Rattle.receiver_law.specs.Channel.{WritesControl}
use Rattle.receiver_law.proofs.runs.Offers.{control-fits}

-- what lies in the receiver's box is one of its flow controls
abbrev pub IsControlIn : RxSet → Option Meaning → Type 0
IsControlIn set None = Unit {0}
IsControlIn set (Some meaning) = IsControl set meaning

lies-then : (set : RxSet) (act : BoxMeaning) (lies : Option Meaning) → IsControlAct set act → IsControlIn set lies → IsControlIn set (box_then act lies)
lies-then set Keeps lies is so = so
lies-then set (Offers meaning) lies is so = is
lies-then set Revokes lies is so = tt

lies-once : (set : RxSet) (event : RxEvent) (lies : Option Meaning) → IsControlIn set lies → IsControlIn set (control_once event lies)
lies-once set (Came size meaning) lies so = so
lies-once set Timer lies so = so
lies-once set FcLeft lies so = tt
lies-once set RunEnd lies so = so

pub lies-control : (set : RxSet) (turns : List RxTurn) → HasReceived set turns → IsControlIn set (control_after turns)
lies-control set [] happened = tt
lies-control set (turn ∷ earlier) happened =
    lies-then set turn.did.act (control_once turn.event (control_after earlier)) (own-step set (state_after rx_new earlier) turn.event turn.did happened.1).control (lies-once set turn.event (control_after earlier) (lies-control set earlier happened.2))

written-control : (set : RxSet) (shape : Shape) (event : RxEvent) (tick : ℕ) (lies : Option Meaning) → IsControlIn set lies → AllByRecursion (WritesControl set shape) (control_at shape event tick lies)
written-control set shape (Came size meaning) tick lies so = tt
written-control set shape Timer tick lies so = tt
written-control set shape FcLeft tick None so = tt
written-control set shape FcLeft tick (Some meaning) so = (record { meaning = meaning; control = so; fits = control-fits set shape meaning so; frame = refl }, tt)
written-control set shape RunEnd tick lies so = tt

pub are-controls : (set : RxSet) (shape : Shape) (turns : List RxTurn) → HasReceived set turns → AllByRecursion (WritesControl set shape) (controls_by shape turns)
are-controls set shape [] happened = tt
are-controls set shape (turn ∷ earlier) happened =
    all-join (WritesControl set shape) (controls_by shape earlier) (control_at shape turn.event turn.did.tick (control_after earlier)) (are-controls set shape earlier happened.2)
    (written-control set shape turn.event turn.did.tick (control_after earlier) (lies-control set earlier happened.2))
