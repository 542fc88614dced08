-- Which flow controls a receiver's steps offer: frames may come, none may come yet, or there is no room; each fits every shape.
use Rattle.std.proofs.Common.{◌≡◌, true, refl, subst}
use Rattle.tp_receiver.specs.declared.set.RxSet.{RxSet}
use Rattle.tp_receiver.specs.Effects.{AsksToWait, Continues, IsControl, IsControlAct, TellsOverflow}
use Rattle.tp_receiver.specs.State.{RxDid, RxEvent, RxState}
use Rattle.tp_receiver.specs.Table.{RxStep}
use Rattle.tp_receiver.proofs.OwnSteps.{own-step}
use Rattle.tp_unit.specs.declared.shape.Shape.{Shape}
use Rattle.tp_unit.specs.Shape.{fits_shape}
use Rattle.tp_unit.specs.Unit.{Meaning, Offers}

-- such a flow control can be written in every shape
pub control-fits : (set : RxSet) (shape : Shape) (meaning : Meaning) → IsControl set meaning → fits_shape shape meaning ≡ true
control-fits set shape meaning (Continues frames block is) = rw is refl
control-fits set shape meaning (AsksToWait is) = rw is refl
control-fits set shape meaning (TellsOverflow is) = rw is refl

-- so can what a step offers
pub offered-fits-shape : (set : RxSet) (shape : Shape) (old : RxState) (event : RxEvent) (m : RxDid) (meaning : Meaning) → RxStep set old event m → m.act ≡ Offers meaning → fits_shape shape meaning ≡ true
offered-fits-shape set shape old event m meaning row is = control-fits set shape meaning (subst (IsControlAct set) is (own-step set old event m row).control)
