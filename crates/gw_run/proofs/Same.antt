-- What the receiver knows of the hub depends on its sessions alone, and what the sender knows of it on its readings alone.
use Rattle.std.proofs.Common.{◌≡◌, ℕ, ◌≤◌, length, Option, Some, None, ap, ◌∙◌, arith}
use Rattle.tp_sender.specs.Port.{Knows as KnowsPort, KnowsLive}
use Rattle.tp_sender.specs.declared.transmission.Transmission.{Transmission as HeldTransmission}
use Rattle.tp_receiver.specs.Port.{Knows, KnowsState}
use Rattle.tp_receiver.specs.State.{LiesBy, WaitsBy, WaitsIn}
use Rattle.std.specs.Prelude.{slice_get}
use Rattle.gw_base.specs.declared.numbers.Tick.{Tick}
use Rattle.hub_core.specs.View.{View}
use Rattle.hub_core.specs.declared.token.Opened.{Opened}
use Rattle.hub_core.specs.Tokens.{Writes}
use Rattle.tp_receiver.specs.declared.reception.State.{State}
use Rattle.tp_receiver.specs.declared.reception.State.TheVariants.{Idle, Busy}
use Rattle.tp_receiver.specs.declared.receiver.Receiver.{Receiver}
use Rattle.tp_sender.specs.declared.sender.Sender.{Sender}
use Rattle.tp_sender.specs.declared.set.TxSet.{TxSet}

writes-same : (old new : View) (t : Opened) → new.sessions ≡ old.sessions → Writes old t → Writes new t
writes-same old new t same w = record { session = w.session; known = ap (λ s. slice_get (s t.path.0) t.seq) same ∙ w.known; says = w.says }

state-same : (old new : View) (path : ℕ) (state : State) → new.sessions ≡ old.sessions → KnowsState old path state → KnowsState new path state
state-same old new path Idle same k = tt
state-same old new path (Busy r) same k = record { path_is = k.path_is; writes = writes-same old new r.writer same k.writes; told = k.told; remains = k.remains; number = k.number; size = k.size }

pub knows-same : (old new : View) (r : Receiver) → new.sessions ≡ old.sessions → Knows old r → Knows new r
knows-same old new r same k = record { number = ap (λ s. length (s r.set.path.0)) same ∙ k.number; session = state-same old new r.set.path.0 r.state same k.session }

live-same : (old new : View) (set : TxSet) (next : ℕ) (live : Option HeldTransmission) → new.readings ≡ old.readings → KnowsLive old set next live → KnowsLive new set next live
live-same old new set next None same k = tt
live-same old new set next (Some live) same k = record {
  path = k.path;
  dest = k.dest;
  seq = k.seq;
  reads = record { reading = k.reads.reading; known = ap (λ r. slice_get (r live.at.path.0 live.at.dest.0) live.at.seq) same ∙ k.reads.known; says = k.reads.says };
}

pub port-same : (old new : View) (s : Sender) → new.readings ≡ old.readings → KnowsPort old s → KnowsPort new s
port-same old new s same k = record { next = ap (λ r. length (r s.set.path.0 s.set.dest.0)) same ∙ k.next; live = live-same old new s.set s.next s.live same k.live }

reception-later : (state : State) (t tick : ℕ) → t ≤ tick → WaitsIn state t → WaitsIn state tick
reception-later Idle t tick later waits = tt
reception-later (Busy r) t tick later waits = omega arith

refusing-later : (refusing : Option Tick) (t tick : ℕ) → t ≤ tick → LiesBy refusing t → LiesBy refusing tick
refusing-later None t tick later lies = tt
refusing-later (Some since) t tick later lies = omega arith

pub waits-later : (r : Receiver) (t tick : ℕ) → t ≤ tick → WaitsBy r t → WaitsBy r tick
waits-later r t tick later waits = record { reception = reception-later r.state t tick later waits.reception; refusing = refusing-later r.refusing t tick later waits.refusing }
