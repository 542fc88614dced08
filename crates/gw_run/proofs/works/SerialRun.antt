-- What the loop over ticks did as a whole, with how it was set up.
use Rattle.std.proofs.Common.{List, ℕ, ◌∷◌}
use Rattle.tp_receiver.specs.declared.set.RxSet.{RxSet}
use Rattle.tp_sender.specs.declared.set.TxSet.{TxSet}
use Rattle.tp_unit.specs.declared.shape.Shape.{Shape}
use Rattle.gw_run.specs.Works.{IsSerialRun, Work}

pub record SerialRun : Type 0 where
  pub rx : RxSet
  pub tx : TxSet
  pub shape : Shape
  pub sizes : List ℕ
  pub last : ℕ
  pub count : ℕ
  pub free : ℕ
  pub ticks : List Work
  pub end : Work
  pub run : IsSerialRun rx tx sizes last count free ticks end

abbrev pub works_of : SerialRun → List Work
works_of o = o.end ∷ o.ticks
