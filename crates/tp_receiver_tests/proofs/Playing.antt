-- A receiver that is told rows one after another, or the frames of a message while its destination reads.
use Rattle.std.proofs.Common.{◌≡◌, ℕ, ◌+◌, ◌*◌, ◌≤◌, ap}
use Rattle.hub_core.proofs.Growing.{reads_kept, writes_kept}
use Rattle.hub_core.specs.Calls.{Means}
use Rattle.hub_core.specs.Tokens.{Reads}
use Rattle.hub_core.specs.View.{View}
use Rattle.hub_core.specs.declared.token.Joined.{Joined}
use Rattle.tp_receiver.specs.Port.{ActsFor, Kept, Knows, KnowsState}
use Rattle.tp_receiver.specs.State.{WaitsBy}
use Rattle.tp_receiver.specs.declared.receiver.Receiver.{Receiver}
use Rattle.tp_receiver.specs.declared.reception.State.{State}
use Rattle.tp_receiver.specs.declared.reception.State.TheVariants.{Idle, Busy}

-- after so many rows
pub record IsPlaying (view : View) (means : Means) (receiver : Receiver) (now rows : ℕ) : Type 0 where
  pub acts : ActsFor receiver.set means
  pub knows : Knows view receiver
  pub tick : WaitsBy receiver now
  pub address : receiver.set.a ≡ 0
  pub takes : 16 ≤ means.takes + rows
  pub spare : 144 ≤ means.spare + 9 * rows
  pub number : receiver.next_n ≤ rows

-- while so many steps may come
pub record IsReceiving (view : View) (means : Means) (receiver : Receiver) (reader : Joined) (now steps left : ℕ) : Type 0 where
  pub acts : ActsFor receiver.set means
  pub knows : Knows view receiver
  pub tick : WaitsBy receiver now
  pub address : receiver.set.a ≡ 0
  pub reads : Reads view reader
  pub takes : steps ≤ means.takes
  pub spare : 9 * steps ≤ means.spare
  pub number : receiver.next_n + steps ≤ 90000
  pub few : left + steps ≤ 80000

-- what is known of a receiver stays while the sessions do
state-kept : (v w : View) (path : ℕ) (state : State) → w.sessions ≡ v.sessions → KnowsState v path state → KnowsState w path state
state-kept v w path Idle same knows = knows
state-kept v w path (Busy r) same knows = record {
  path_is = knows.path_is;
  writes = writes_kept v w r.writer (ap (λ (s : ℕ → _). s r.writer.path.0) same) knows.writes;
  told = knows.told;
  remains = knows.remains;
  number = knows.number;
  size = knows.size;
}

pub knows_kept : (v w : View) (r : Receiver) → w.sessions ≡ v.sessions → Knows v r → Knows w r
knows_kept v w r same knows = record { number = rw same knows.number; session = state-kept v w r.set.path.0 r.state same knows.session }

-- what is known of a destination stays while the receiver works
pub reads_on : (path takes spare : ℕ) (v w : View) (before after : Means) (t : Joined) → Kept path takes spare v w before after → Reads v t → Reads w t
reads_on path takes spare v w before after t kept reads = reads_kept v w t (ap (λ (r : ℕ → ℕ → _). r t.path.0 t.dest.0) kept.readings) reads
