-- The emission of a tick, and what is told of it.
use Rattle.std.proofs.Common.{◌≡◌, ◌≤◌, ℕ, None, List, [], ◌++◌, refl, sym, arith, append-nil}
use Rattle.gw_base.proofs.Lists.{none-some}
use Rattle.hub_core.specs.Stays.{PortState}
use Rattle.tx_mailbox.specs.Boxes.{IsEmitted, Pending, content}
use Rattle.bus_worker.proofs.Doing.{did-none, lie-same}
use Rattle.bus_worker.proofs.Emitted.{emitted-lie, emitted-out}
use Rattle.bus_worker.proofs.Working.{rests-later}
use Rattle.bus_worker.specs.Acts.{Act}
use Rattle.bus_worker.specs.Emission.{AllLeaveAfter, AwaitsLeft, Emits, RestsBut}
use Rattle.bus_worker.specs.Phases.{Rests, RestsBy}
use Rattle.bus_worker.specs.declared.worker.Worker.{Worker}

-- the worker whose boxes have this
abbrev pub with-boxes : Worker → List Pending → Worker
with-boxes v boxes = record v { boxes = boxes }

rests-but : {Home : Type 0} (since budget : ℕ) (acts : List Act) (v : Worker) (out after : List Pending) (port : PortState Home) → IsEmitted budget v.boxes out after → Rests since acts v port → RestsBut since acts out (with-boxes v after) port
rests-but since budget acts v out after port emitted at = record {
  stand = at.stand;
  acts_for = at.acts_for;
  lie = lie-same acts v.channels.items (λ number. content number v.boxes) (λ number. content number (out ++ after)) (emitted-lie budget v.boxes out after emitted) at.lie;
  routed = at.routed;
}

pub awaits-emitted : {Home : Type 0} (tick budget : ℕ) (v : Worker) (out after : List Pending) (port : PortState Home) → IsEmitted budget v.boxes out after → RestsBy tick v port → AwaitsLeft tick out (with-boxes v after) port
awaits-emitted tick budget v out after port emitted rests = record {
  since = rests.since;
  acts = rests.acts;
  by = rests.by;
  at = rests-but rests.since budget rests.acts v out after port emitted rests.at;
  out = emitted-out budget v.boxes out after emitted;
}

pub emits-all : {Home : Type 0} (tick : ℕ) (v w : Worker) (out after : List Pending) (old new : PortState Home) → IsEmitted v.budget v.boxes out after → AllLeaveAfter tick out (with-boxes v after) w old new → (since : ℕ) (acts : List Act) → since ≤ tick → Rests since acts v old → Emits tick acts v w old new
emits-all tick v w out after old new emitted leaves since acts by at =
    let all = leaves since acts by (rests-but since v.budget acts v out after old emitted at) (emitted-out v.budget v.boxes out after emitted) in
    record {
      out = out;
      after = after;
      emitted = emitted;
      done = all.done;
      at = all.at;
      did = record {
        grown = all.did.grown;
        fresh = all.did.fresh;
        beside = all.did.beside;
        same = all.did.same;
        pool = all.did.pool;
        takes_used = all.did.takes_used;
        spare_used = all.did.spare_used;
        moves = all.did.moves;
        channels = all.did.channels;
        budget = all.did.budget;
        routes = all.did.routes;
      };
      are = all.are;
      sent = all.sent;
    }

nothing-emitted : (budget : ℕ) (boxes : List Pending) → ((number : ℕ) → content number boxes ≡ None) → IsEmitted budget boxes [] boxes
nothing-emitted budget boxes empty = record {
  few = omega arith;
  pending = λ i entry at. absurd (none-some refl at);
  gone = λ i entry at. absurd (none-some refl at);
  in_order = λ i j first second less at at'. absurd (none-some refl at);
  kept = λ number not. refl;
  least = λ number frame there i entry at. absurd (none-some refl at);
  full = λ number frame there. absurd (none-some (empty number) there);
}

pub emits-nothing : {Home : Type 0} (tick : ℕ) (v : Worker) (port : PortState Home) → ((number : ℕ) → content number v.boxes ≡ None) → (since : ℕ) (acts : List Act) → since ≤ tick → Rests since acts v port → Emits tick acts v v port port
emits-nothing tick v port empty since acts by at = record {
  out = [];
  after = v.boxes;
  emitted = nothing-emitted v.budget v.boxes empty;
  done = [];
  at = rests-later since tick acts v port by at;
  did = did-none v v port refl refl refl refl;
  are = refl;
  sent = sym (append-nil v.sent);
}
