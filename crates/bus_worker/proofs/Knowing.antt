-- What a machine and a port know of one another holds as long as the machine's own lists stay, and what is waited for is waited for later too.
use Rattle.std.proofs.Common.{◌≡◌, ℕ, ◌≤◌, length, Option, Some, None, ap, sym, ◌∙◌, arith}
use Rattle.gw_base.specs.declared.numbers.Tick.{Tick}
use Rattle.hub_core.proofs.Growing.{reads_kept, writes_kept}
use Rattle.hub_core.specs.View.{View}
use Rattle.tp_receiver.specs.Port.{Knows, KnowsState}
use Rattle.tp_receiver.specs.State.{LiesBy, WaitsBy, WaitsIn}
use Rattle.tp_receiver.specs.declared.receiver.Receiver.{Receiver}
use Rattle.tp_receiver.specs.declared.reception.State.{State}
use Rattle.tp_receiver.specs.declared.reception.State.TheVariants.{Idle, Busy}
use Rattle.tp_sender.specs.Port.{Knows as KnowsPort, KnowsLive}
use Rattle.tp_sender.specs.declared.sender.Sender.{Sender}
use Rattle.tp_sender.specs.declared.set.TxSet.{TxSet}
use Rattle.tp_sender.specs.declared.transmission.Transmission.{Transmission}

state-stays : (old new : View) (path : ℕ) (state : State) → new.sessions path ≡ old.sessions path → KnowsState old path state → KnowsState new path state
state-stays old new path Idle same k = tt
state-stays old new path (Busy r) same k = record {
  path_is = k.path_is;
  writes = writes_kept old new r.writer (ap new.sessions k.path_is ∙ same ∙ ap old.sessions (sym k.path_is)) k.writes;
  told = k.told;
  remains = k.remains;
  number = k.number;
  size = k.size;
}

pub knows-stays : (old new : View) (r : Receiver) → new.sessions r.set.path.0 ≡ old.sessions r.set.path.0 → Knows old r → Knows new r
knows-stays old new r same k = record { number = ap length same ∙ k.number; session = state-stays old new r.set.path.0 r.state same k.session }

live-stays : (old new : View) (set : TxSet) (next : ℕ) (live : Option Transmission) → new.readings set.path.0 set.dest.0 ≡ old.readings set.path.0 set.dest.0 → KnowsLive old set next live → KnowsLive new set next live
live-stays old new set next None same k = tt
live-stays old new set next (Some live) same k =
    let at : (v : View) → v.readings live.at.path.0 live.at.dest.0 ≡ v.readings set.path.0 set.dest.0 = λ v. ap (λ p. v.readings p.0 live.at.dest.0) k.path ∙ ap (λ d. v.readings set.path.0 d.0) k.dest in
    record { path = k.path; dest = k.dest; seq = k.seq; reads = reads_kept old new live.at (at new ∙ same ∙ sym (at old)) k.reads }

pub port-stays : (old new : View) (s : Sender) → new.readings s.set.path.0 s.set.dest.0 ≡ old.readings s.set.path.0 s.set.dest.0 → KnowsPort old s → KnowsPort new s
port-stays old new s same k = record { next = ap length same ∙ k.next; live = live-stays old new s.set s.next s.live same k.live }

reception-later : (state : State) (t tick : ℕ) → t ≤ tick → WaitsIn state t → WaitsIn state tick
reception-later Idle t tick later waits = tt
reception-later (Busy r) t tick later waits = omega arith

refusing-later : (refusing : Option Tick) (t tick : ℕ) → t ≤ tick → LiesBy refusing t → LiesBy refusing tick
refusing-later None t tick later lies = tt
refusing-later (Some since) t tick later lies = omega arith

pub waits-later : (r : Receiver) (t tick : ℕ) → t ≤ tick → WaitsBy r t → WaitsBy r tick
waits-later r t tick later waits = record { reception = reception-later r.state t tick later waits.reception; refusing = refusing-later r.refusing t tick later waits.refusing }
