-- Some work after some other, and no work at all.
use Rattle.std.proofs.Common.{◌≡◌, ℕ, ◌+◌, Option, List, [], ◌++◌, refl, ap, sym, subst, ◌∙◌, arith, append-nil, append_assoc, ◌*◌, length}
use Rattle.can_frame.specs.Frame.{CanFrame}
use Rattle.hub_core.proofs.Fresh.{are-fresh-append, rise-same, rise-twice}
use Rattle.hub_core.proofs.Growing.{grows-append}
use Rattle.hub_core.proofs.Turns.{moves_in-append}
use Rattle.hub_core.specs.Floors.{AreFresh}
use Rattle.hub_core.specs.Moves.{moves_in}
use Rattle.hub_core.specs.Stays.{PortState}
use Rattle.hub_core.specs.View.{Event, View, grows}
use Rattle.bus_worker.proofs.ActLists.{calls-append}
use Rattle.bus_worker.proofs.Configured.{same-twice}
use Rattle.bus_worker.specs.Acts.{Act, calls_in}
use Rattle.bus_worker.specs.Did.{Did, IsAt, StayBeside}
use Rattle.bus_worker.specs.Stands.{LieThere, SameChannels, receives_at, sends_at}
use Rattle.bus_worker.specs.declared.channel.Channel.{Channel}
use Rattle.bus_worker.specs.declared.worker.Worker.{Worker}

-- what lies there is said by its content alone
pub lie-same : (acts : List Act) (channels : List Channel) (lies other : ℕ → Option CanFrame) → ((number : ℕ) → other number ≡ lies number) → LieThere acts channels lies → LieThere acts channels other
lie-same acts channels lies other same lie = record {
  controls = λ place r is. same (2 * place) ∙ lie.controls place r is;
  frames = λ place s is. same (2 * place + 1) ∙ lie.frames place s is;
  no_controls = λ place none. same (2 * place) ∙ lie.no_controls place none;
  no_frames = λ place none. same (2 * place + 1) ∙ lie.no_frames place none;
}

pub is-at-same : {Home : Type 0} (tick : ℕ) (acts : List Act) (lies other : ℕ → Option CanFrame) (w : Worker) (port : PortState Home) → ((number : ℕ) → other number ≡ lies number) → IsAt tick acts lies w port → IsAt tick acts other w port
is-at-same tick acts lies other w port same at = record { stand = at.stand; acts_for = at.acts_for; lie = lie-same acts w.channels.items lies other same at.lie; routed = at.routed }

-- nothing was done
pub did-none : {Home : Type 0} (v w : Worker) (port : PortState Home) → w.channels ≡ v.channels → w.budget ≡ v.budget → w.routes ≡ v.routes → w.moves ≡ v.moves → Did 0 0 [] v w port port
did-none v w port channels budget routes moves = record {
  grown = refl;
  fresh = tt;
  beside = record { sessions = λ path no. refl; readings = λ path dest no. refl };
  same = record { rise = rise-same port.floors; home = refl };
  pool = record { groups = refl; writes = refl; reads = refl; most = refl };
  takes_used = omega arith;
  spare_used = omega arith;
  moves = moves ∙ sym (append-nil v.moves);
  channels = record { count = ap (λ c. length c.items) channels; receives = λ place. ap (λ c. receives_at c.items place) channels; sends = λ place. ap (λ c. sends_at c.items place) channels };
  budget = budget;
  routes = routes;
}

beside-then : (channels after : List Channel) (one two three : View) → SameChannels channels after → StayBeside channels one two → StayBeside after two three → StayBeside channels one three
beside-then channels after one two three same first second = record {
  sessions = λ path no. second.sessions path (λ place own is. no place own (sym (same.receives place) ∙ is)) ∙ first.sessions path no;
  readings = λ path dest no. second.readings path dest (λ place own is. no place own (sym (same.sends place) ∙ is)) ∙ first.readings path dest no;
}

-- one after the other
pub did-then : {Home : Type 0} (takes spare more most : ℕ) (done later : List Act) (u v w : Worker) (one two three : PortState Home) → Did takes spare done u v one two → Did more most later v w two three → Did (takes + more) (spare + most) (later ++ done) u w one three
did-then takes spare more most done later u v w one two three first second =
    let calls = calls-append later done in
    let F : List Event → Type 0 = λ l. AreFresh one.floors one.view l in
    record {
      grown = second.grown ∙ ap (grows (calls_in later)) first.grown ∙ sym (grows-append (calls_in done) (calls_in later) one.view) ∙ ap (λ l. grows l one.view) (sym calls);
      fresh = subst F (sym calls) (are-fresh-append one.floors two.floors one.view two.view (calls_in done) (calls_in later) first.grown first.same.rise first.fresh second.fresh);
      beside = beside-then u.channels.items v.channels.items one.view two.view three.view first.channels first.beside second.beside;
      same = record { rise = rise-twice one.floors two.floors three.floors first.same.rise second.same.rise; home = second.same.home ∙ first.same.home };
      pool = record {
        groups = second.pool.groups ∙ first.pool.groups;
        writes = second.pool.writes ∙ first.pool.writes;
        reads = second.pool.reads ∙ first.pool.reads;
        most = second.pool.most ∙ first.pool.most;
      };
      takes_used = (let a = first.takes_used in let b = second.takes_used in omega (arith, a, b));
      spare_used = (let a = first.spare_used in let b = second.spare_used in omega (arith, a, b));
      moves = second.moves ∙ ap (λ l. l ++ moves_in (calls_in later)) first.moves ∙ append_assoc u.moves (moves_in (calls_in done)) (moves_in (calls_in later))
          ∙ ap (λ l. u.moves ++ l) (sym (moves_in-append (calls_in done) (calls_in later)) ∙ ap moves_in (sym calls));
      channels = same-twice u.channels.items v.channels.items w.channels.items first.channels second.channels;
      budget = second.budget ∙ first.budget;
      routes = second.routes ∙ first.routes;
    }
