-- What a port knows of a sender and of a writer stays while the other one's calls change nothing of it.
use Rattle.std.proofs.Common.{◌≡◌, ℕ, Option, None, Some, ap}
use Rattle.hub_core.proofs.Growing.{reads_kept, writes_kept}
use Rattle.hub_core.specs.Calls.{Means}
use Rattle.hub_core.specs.Tokens.{Writes}
use Rattle.hub_core.specs.View.{View}
use Rattle.hub_core.specs.declared.token.Opened.{Opened}
use Rattle.tp_sender.specs.Port.{ActsFor, Knows, KnowsLive, OthersStay}
use Rattle.tp_sender.specs.declared.sender.Sender.{Sender}
use Rattle.tp_sender.specs.declared.set.TxSet.{TxSet}
use Rattle.tp_sender.specs.declared.transmission.Transmission.{Transmission as HeldTransmission}

live-kept : (v w : View) (set : TxSet) (next : ℕ) (live : Option HeldTransmission) → w.readings ≡ v.readings → KnowsLive v set next live → KnowsLive w set next live
live-kept v w set next None same knows = knows
live-kept v w set next (Some live) same knows = record {
  path = knows.path;
  dest = knows.dest;
  seq = knows.seq;
  reads = reads_kept v w live.at (ap (λ (r : ℕ → ℕ → _). r live.at.path.0 live.at.dest.0) same) knows.reads;
}

pub knows_kept : (v w : View) (s : Sender) → w.readings ≡ v.readings → Knows v s → Knows w s
knows_kept v w s same knows = record { next = rw same knows.next; live = live-kept v w s.set s.next s.live same knows.live }

pub acts_kept : (m n : Means) (s : Sender) → n.reads ≡ m.reads → n.groups ≡ m.groups → ActsFor m s → ActsFor n s
acts_kept m n s reads groups acts = record { reads = rw reads acts.reads; group = rw groups acts.group }

pub still_writes : (path dest : ℕ) (v w : View) (t : Opened) → OthersStay path dest v w → Writes v t → Writes w t
still_writes path dest v w t others writes = writes_kept v w t (ap (λ (s : ℕ → _). s t.path.0) others.sessions) writes
