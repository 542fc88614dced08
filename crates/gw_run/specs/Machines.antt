-- How the receiver and the sender of a run are configured (this project's own).
use Rattle.std.specs.Prelude.{◌≡◌, ◌<◌, ◌≤◌}
use Rattle.tp_receiver.specs.declared.set.RxSet.{RxSet}
use Rattle.tp_sender.specs.declared.set.TxSet.{TxSet}
use Rattle.tp_unit.specs.Shape.{IsShape}
use Rattle.tp_unit.specs.declared.shape.Shape.{Shape}
use Rattle.gw_law.specs.Channels.{bytes_of_address}
use Rattle.gw_run.specs.declared.address.Address.{Address}

-- the receiver and the one destination of path 0 with the buffers of group 0, both with frames of a lawful shape and limits of at
-- least a tick; the receiver reads the frames of its channel's address
pub record AreMachines (rx : RxSet) (shape : Shape) (tx : TxSet) (source : Address) : Type 0 where
  pub chan : rx.chan.0 ≡ 0
  pub path : rx.path.0 ≡ 0
  pub same_path : tx.path ≡ rx.path
  pub group : rx.group.0 ≡ 0
  pub same_group : tx.group ≡ rx.group
  pub dest : tx.dest.0 ≡ 0
  pub readers : rx.readers ≡ 1
  pub address : rx.a ≡ bytes_of_address source.byte
  pub controls : IsShape shape
  pub frames : IsShape tx.shape
  pub n_ar : 1 ≤ rx.n_ar
  pub n_br : 1 ≤ rx.n_br
  pub n_cr : 1 ≤ rx.n_cr
  pub n_as : 1 ≤ tx.n_as
  pub n_bs : 1 ≤ tx.n_bs
  pub n_cs : 1 ≤ tx.n_cs
  pub period : 0 < tx.period
