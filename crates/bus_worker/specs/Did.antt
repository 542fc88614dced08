-- What some work of a bus came to, whoever of its machines did it.
use Rattle.std.specs.Prelude.{◌≡◌, ◌≢◌, ℕ, ◌+◌, ◌≤◌, Option, Some, List, ◌++◌}
use Rattle.can_frame.specs.Frame.{CanFrame}
use Rattle.hub_core.specs.Calls.{Means, SamePool}
use Rattle.hub_core.specs.Floors.{AreFresh}
use Rattle.hub_core.specs.Moves.{moves_in}
use Rattle.hub_core.specs.Stays.{IsSamePort, PortState}
use Rattle.hub_core.specs.View.{View, grows}
use Rattle.bus_worker.specs.Acts.{Act, calls_in}
use Rattle.tp_receiver.specs.declared.set.RxSet.{RxSet}
use Rattle.tp_sender.specs.declared.set.TxSet.{TxSet}
use Rattle.tp_unit.specs.declared.shape.Shape.{Shape}
use Rattle.bus_worker.specs.Stands.{ActsForAll, AreRouted, LieThere, SameChannels, Stand, receives_at, sends_at}
use Rattle.bus_worker.specs.declared.channel.Channel.{Channel}
use Rattle.bus_worker.specs.declared.worker.Worker.{Worker}

-- the machines of the bus after these acts, over this port, where this lies in the boxes
pub record IsAtView (tick : ℕ) (acts : List Act) (lies : ℕ → Option CanFrame) (w : Worker) (view : View) (means : Means) : Type 0 where
  pub stand : Stand tick view acts w.channels.items
  pub acts_for : ActsForAll w.channels.items means
  pub lie : LieThere acts w.channels.items lies
  pub routed : AreRouted w.routes.items w.channels.items

abbrev pub IsAt : {Home : Type 0} → (tick : ℕ) → List Act → (lies : ℕ → Option CanFrame) → Worker → PortState Home → Type 0
IsAt tick acts lies w port = IsAtView tick acts lies w port.view port.means

-- of all paths and destinations but those of the bus, the sessions and the readings are as before
pub record StayBeside (channels : List Channel) (old new : View) : Type 0 where
  pub sessions : (path : ℕ) → ((place : ℕ) (one : RxSet × Shape) → receives_at channels place ≡ Some one → one.0.path.0 ≢ path) → new.sessions path ≡ old.sessions path
  pub readings : (path dest : ℕ) → ((place : ℕ) (one : TxSet) → sends_at channels place ≡ Some one → one.path.0 ≡ path → one.dest.0 ≢ dest) → new.readings path dest ≡ old.readings path dest

-- some more acts, the newest first: what they did with the port, and what is noted of them; they used no more than so many takes and cells
pub record Did {Home : Type 0} (takes spare : ℕ) (done : List Act) (v w : Worker) (old new : PortState Home) : Type 0 where
  pub grown : new.view ≡ grows (calls_in done) old.view
  pub fresh : AreFresh old.floors old.view (calls_in done)
  pub beside : StayBeside v.channels.items old.view new.view
  pub same : IsSamePort old new
  pub pool : SamePool old.means new.means
  pub takes_used : old.means.takes ≤ new.means.takes + takes
  pub spare_used : old.means.spare ≤ new.means.spare + spare
  pub moves : w.moves ≡ v.moves ++ moves_in (calls_in done)
  pub channels : SameChannels v.channels.items w.channels.items
  pub budget : w.budget ≡ v.budget
  pub routes : w.routes ≡ v.routes
