-- A receiver and a sender of its path after some turns of each, with a view that has what both made.
use Rattle.std.proofs.Common.{◌≡◌, ℕ, ◌<◌, List}
use Rattle.hub_core.specs.Joint.{AreStreams, HasLeftWriter, Joint}
use Rattle.hub_core.specs.Turns.{calls_by}
use Rattle.hub_core.specs.View.{Reading, Session, View, empty_view, grows, reading_at, session_at}
use Rattle.std.specs.Prelude.{Some}
use Rattle.tp_receiver.specs.Runs.{HasReceived}
use Rattle.tp_receiver.specs.State.{RxTurn}
use Rattle.tp_receiver.specs.declared.set.RxSet.{RxSet}
use Rattle.tp_sender.specs.Runs.{HasSent}
use Rattle.tp_sender.specs.State.{TxTurn}
use Rattle.tp_sender.specs.declared.set.TxSet.{TxSet}
use Rattle.tp_unit.specs.Shape.{IsShape}

-- what a joint view says of sessions and their readings
pub record AreMet (v : View) : Type 0 where
  pub streams : AreStreams v
  pub joined : (path dest seq : ℕ) (s : Session) (r : Reading) → session_at v path seq ≡ Some s → reading_at v path dest seq ≡ Some r → dest < s.dests
  pub no_readers : (path seq : ℕ) (s : Session) → session_at v path seq ≡ Some s → s.readers ≡ 0 → (dest : ℕ) → dest < s.dests → HasLeftWriter v path dest seq

pub met : (groups : List (List ℕ)) (v : View) → Joint groups v → AreMet v
met groups v joint = record { streams = joint.streams; joined = joint.owned.joined; no_readers = joint.owned.no_readers }

-- nothing is done yet
pub met-empty : AreMet empty_view
met-empty = record {
  streams = record { written = λ path seq s is. cc; joined = λ path dest seq r is. cc };
  joined = λ path dest seq s r is r_is. cc;
  no_readers = λ path seq s is none. cc;
}

-- what both did so far, and the view of both
pub record AsFar (rx : RxSet) (tx : TxSet) (turns : List RxTurn) (moments : List TxTurn) (v : View) : Type 0 where
  pub shape : IsShape tx.shape
  pub path : tx.path ≡ rx.path
  pub received : HasReceived rx turns
  pub sent : HasSent tx moments
  pub met : AreMet v
  pub sessions : v.sessions rx.path.0 ≡ (grows (calls_by turns) empty_view).sessions rx.path.0
  pub readings : v.readings tx.path.0 tx.dest.0 ≡ (grows (calls_by moments) empty_view).readings tx.path.0 tx.dest.0
