-- Where something lay in a box, it left.
use Rattle.std.proofs.Common.{◌≡◌, ℕ, ◌++◌, false, Option, Some, None}
use Rattle.tp_unit.specs.Box.{written_of}
use Rattle.tp_receiver.specs.State.{FcLeft}
use Rattle.std.specs.Prelude.{is_none}
use Rattle.tp_sender.specs.declared.event.TxEvent.TheVariants.{Left}
use Rattle.tp_unit.specs.declared.unit.Unit.{Unit as ProtocolUnit}
use Rattle.gw_run.specs.Standing.{lying}
use Rattle.gw_run.specs.Telling.{LeavesControl, LeavesFrame, TellsReceiver, TellsSender}
use Rattle.gw_run.specs.declared.gateway.Gateway.{Gateway}

pub control-leaves : (lay : Option ProtocolUnit) (g h : Gateway) (tick : ℕ) → is_none lay ≡ false → TellsReceiver g h FcLeft tick None (g.controls ++ written_of g.machines.shape tick (lying lay)) → LeavesControl (lying lay) g h tick
control-leaves None g h tick some told = cc
control-leaves (Some unit) g h tick some told = told

pub frame-leaves : (lay : Option ProtocolUnit) (g h : Gateway) (tick : ℕ) → is_none lay ≡ false → TellsSender g h Left tick None (g.frames ++ written_of g.machines.tx.shape tick (lying lay)) → LeavesFrame (lying lay) g h tick
frame-leaves None g h tick some told = cc
frame-leaves (Some unit) g h tick some told = told
