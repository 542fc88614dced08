-- What a machine's step offers can be written in its channel's shape.
use Rattle.std.proofs.Common.{◌≡◌, true, refl}
use Rattle.receiver_law.proofs.runs.Offers.{offered-fits-shape}
use Rattle.tp_receiver.specs.State.{RxDid, RxEvent, RxState}
use Rattle.tp_receiver.specs.Table.{RxStep}
use Rattle.tp_receiver.specs.declared.set.RxSet.{RxSet}
use Rattle.tp_sender.proofs.Own.{own}
use Rattle.tp_sender.specs.Own.{IsFittingAct}
use Rattle.tp_sender.specs.State.{TxDid, TxState}
use Rattle.tp_sender.specs.Table.{TxStep}
use Rattle.tp_sender.specs.declared.event.TxEvent.{TxEvent}
use Rattle.tp_sender.specs.declared.set.TxSet.{TxSet}
use Rattle.tp_unit.specs.Shape.{fits_shape}
use Rattle.tp_unit.specs.Unit.{BoxMeaning, Keeps, Meaning, Offers, Revokes}
use Rattle.tp_unit.specs.declared.shape.Shape.{Shape}
use Rattle.bus_worker.specs.Boxed.{FitsAct}

offers : (shape : Shape) (act : BoxMeaning) → ((meaning : Meaning) → act ≡ Offers meaning → fits_shape shape meaning ≡ true) → FitsAct shape act
offers shape Keeps fits = tt
offers shape (Offers meaning) fits = fits meaning refl
offers shape Revokes fits = tt

fitting : (set : TxSet) (act : BoxMeaning) → IsFittingAct set act → FitsAct set.shape act
fitting set Keeps is = tt
fitting set (Offers meaning) is = is.fits
fitting set Revokes is = tt

-- a receiver's flow control fits every shape
pub control-act : (set : RxSet) (shape : Shape) (old : RxState) (event : RxEvent) (did : RxDid) → RxStep set old event did → FitsAct shape did.act
control-act set shape old event did row = offers shape did.act (λ meaning is. offered-fits-shape set shape old event did meaning row is)

-- a sender's frame fits its own
pub frame-act : (set : TxSet) (old : TxState) (event : TxEvent) (did : TxDid) → TxStep set old event did → FitsAct set.shape did.act
frame-act set old event did row = fitting set did.act (own set old event did row).act
