-- Two buses of one run, side by side.
use Rattle.std.specs.Prelude.{◌≡◌, ◌≢◌, ℕ, Some, List}
use Rattle.tp_receiver.specs.declared.set.RxSet.{RxSet}
use Rattle.tp_sender.specs.declared.set.TxSet.{TxSet}
use Rattle.tp_unit.specs.declared.shape.Shape.{Shape}
use Rattle.bus_worker.specs.Stands.{receives_at, sends_at}
use Rattle.bus_worker.specs.declared.channel.Channel.{Channel}

-- no path has its source on both, and no destination of a path is on both
pub record ShareNothing (channels others : List Channel) : Type 0 where
  pub paths : (place other : ℕ) (one another : RxSet × Shape) → receives_at channels place ≡ Some one → receives_at others other ≡ Some another → another.0.path.0 ≢ one.0.path.0
  pub dests : (place other : ℕ) (one another : TxSet) → sends_at channels place ≡ Some one → sends_at others other ≡ Some another → another.path.0 ≡ one.path.0 → another.dest.0 ≢ one.dest.0
