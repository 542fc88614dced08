-- The works of the loop are a run of the machines over the account that is told.
use Rattle.std.proofs.Common.{◌≡◌, ◌⊎◌, inl, inr, ℕ, ◌+◌, ◌≤◌, zero, suc, Bool, true, false, ◌&&◌, ◌==◌, cond, Some, List, [], ◌∷◌, length, filter, refl, ap, sym, ◌∙◌, subst, arith, eq-eqb}
use Rattle.std.specs.Prelude.{slice_get}
use Rattle.std.specs.List.{AllByRecursion}
use Rattle.gw_base.proofs.Lists.{all-weaker}
use Rattle.hub_core.proofs.OneGroup.{its, same}
use Rattle.hub_core.specs.Journal.{AreInOrder}
use Rattle.hub_core.specs.Turns.{came_by, records_by, state_after}
use Rattle.hub_core.specs.View.{View}
use Rattle.hub_core.specs.declared.record.DestRecord.{DestRecord}
use Rattle.hub_core.specs.declared.record.SessionRecord.{SessionRecord}
use Rattle.receiver_law.proofs.runs.RxRises.{controls-of-run-rise}
use Rattle.receiver_law.proofs.runs.RxWritten.{are-controls}
use Rattle.receiver_law.specs.Channel.{SourceChannel, WritesControl}
use Rattle.receiver_law.specs.RxRun.{RxRun, source_of, turns_in as received_in}
use Rattle.sender_law.proofs.Emission.{run-rises}
use Rattle.sender_law.proofs.DataFrames.{are-data}
use Rattle.sender_law.proofs.records.DestRecords.{dest_records}
use Rattle.sender_law.specs.Channel.{DestChannel, WritesData}
use Rattle.sender_law.specs.Emission.{IsOfDestination}
use Rattle.sender_law.specs.Runs.{TxRun, leg_of, turns_in as sent_in}
use Rattle.tp_receiver.specs.Runs.{controls_by, frames_in}
use Rattle.tp_sender.specs.Runs.{controls_in, left_by}
use Rattle.tp_sender.specs.State.{tx_new}
use Rattle.tp_unit.proofs.Rises.{Rise, all-by, at-most-once, never-fall}
use Rattle.tp_unit.specs.Box.{Written, left_in}
use Rattle.gw_law.proofs.Addressed.{IsControlOf, IsDataOf, control-is, controls-kept, data-is, data-kept}
use Rattle.gw_base.specs.declared.numbers.ChanNo.{ChanNo}
use Rattle.gw_base.specs.declared.numbers.DestNo.{DestNo}
use Rattle.gw_base.specs.declared.numbers.PathNo.{PathNo}
use Rattle.gw_law.proofs.Sources.{sessions-of}
use Rattle.gw_law.proofs.runs.Moments.{rx-within}
use Rattle.gw_law.specs.Account.{Account, dest_in, dests_of, sessions_of, source_in}
use Rattle.gw_law.specs.Emission.{AreByPriority, BusLaw, IsControlOn, IsDataOn, IsOfReceiving, IsOfSending}
use Rattle.gw_law.specs.Plan.{IsLawfulPlan, Receiving, Sending}
use Rattle.gw_law.proofs.pools.Changes.{grouped-moves}
use Rattle.gw_law.specs.Pool.{moves_of}
use Rattle.gw_law.specs.Run.{IsRun, TellsPool}
use Rattle.candump_log.specs.declared.log.Stamped.{Stamped}
use Rattle.tick_clock.specs.declared.clock.Clock.{Clock}
use Rattle.gw_run.specs.Machines.{AreMachines}
use Rattle.gw_run.specs.Played.{Plays, Told, account_of, destination_answers, plan_of, receiving_of, sending_of, source_seen}
use Rattle.gw_run.specs.Works.{RunTold, told_by, view_of}
use Rattle.gw_run.specs.declared.machines.Machines.{Machines}
use Rattle.gw_run.proofs.works.RxParts.{is-rx-run, never, rx_run, turns-are}
use Rattle.gw_run.proofs.works.SerialRun.{SerialRun, works_of}
use Rattle.gw_run.proofs.works.TxParts.{is-tx-run, run-turns, tx_run}
use Rattle.gw_run.proofs.works.Windows.{deeds_of, joined-in, rx-lies, tx-lies, windows-are, windows_of}

-- the loop's run, with what is told of it
pub record Played : Type 0 where
  pub m : Machines
  pub clock : Clock
  pub last : ℕ
  pub source : List Stamped
  pub destination : List Stamped
  pub told : Told
  pub are : AreMachines m.rx m.shape m.tx m.source
  pub plays : Plays m clock last source destination told

abbrev pub run_of : Played → SerialRun
run_of p = record {
  rx = p.m.rx;
  tx = p.m.tx;
  shape = p.m.shape;
  sizes = p.m.cells ∷ [];
  last = p.last;
  count = p.told.report.pool.changes;
  free = p.told.report.pool.free;
  ticks = p.plays.ticks;
  end = p.plays.end;
  run = p.plays.run;
}

abbrev pub account : Played → Account
account p = account_of p.m p.clock.start.0 p.clock.period p.last p.source p.destination p.told

-- one part of what is told
part : {A : Type 0} (f : RunTold → A) (p : Played) → f (told_by p.m.tx p.m.shape p.told.report.pool.changes p.told.report.pool.free p.plays.ticks p.plays.end) ≡ f (record {
  seen = source_seen p.m p.clock.start.0 p.clock.period p.source;
  controls = p.told.controls;
  sessions = p.told.report.sessions;
  answers = destination_answers p.m p.clock.start.0 p.clock.period p.destination;
  frames = p.told.frames;
  dests = p.told.report.dests;
  moves = p.told.report.moves;
  count = p.told.report.pool.changes;
  free = p.told.report.pool.free;
})
part f p = ap f p.plays.tells

-- what the two machines tell of their channels
rx-told : (p : Played) → source_of p.m.source_budget (rx_run (run_of p)) ≡ record { rx = p.m.rx; shape = p.m.shape; budget = p.m.source_budget; last = p.last; seen = source_seen p.m p.clock.start.0 p.clock.period p.source; controls = p.told.controls; sessions = p.told.report.sessions }
rx-told p =
    let o : SerialRun = run_of p in
    ap (λ t. let c : SourceChannel = record { rx = p.m.rx; shape = p.m.shape; budget = p.m.source_budget; last = p.last; seen = came_by frames_in t; controls = controls_by p.m.shape t; sessions = records_by t } in c) (turns-are o)
    ∙ part (λ (r : RunTold). let c : SourceChannel = record { rx = p.m.rx; shape = p.m.shape; budget = p.m.source_budget; last = p.last; seen = r.seen; controls = r.controls; sessions = r.sessions } in c) p

tx-told : (p : Played) → leg_of p.m.destination_budget (tx_run (run_of p)) ≡ record { tx = p.m.tx; budget = p.m.destination_budget; last = p.last; answers = destination_answers p.m p.clock.start.0 p.clock.period p.destination; frames = p.told.frames; dests = p.told.report.dests }
tx-told p =
    let o : SerialRun = run_of p in
    ap (λ t. let c : DestChannel = record { tx = p.m.tx; budget = p.m.destination_budget; last = p.last; answers = came_by controls_in t; frames = left_by p.m.tx.shape t; dests = records_by t } in c) (run-turns o)
    ∙ part (λ (r : RunTold). let c : DestChannel = record { tx = p.m.tx; budget = p.m.destination_budget; last = p.last; answers = r.answers; frames = r.frames; dests = r.dests } in c) p

-- the frames that left on each bus are of its channel
controls-own : (p : Played) → AllByRecursion (IsControlOf p.m.shape) p.told.controls
controls-own p =
    let run : RxRun = rx_run (run_of p) in
    let P : List Written → Type 0 = λ l. AllByRecursion (IsControlOf p.m.shape) l in
    subst P (ap (λ (c : SourceChannel). c.controls) (rx-told p))
    (all-weaker (WritesControl p.m.rx p.m.shape) (IsControlOf p.m.shape) _ (λ w is. control-is p.m.rx p.m.shape w p.are.controls is) (are-controls p.m.rx p.m.shape (received_in run) (is-rx-run (run_of p)).happened))

frames-own : (p : Played) → AllByRecursion (IsDataOf p.m.tx.shape) p.told.frames
frames-own p =
    let run : TxRun = tx_run (run_of p) in
    let P : List Written → Type 0 = λ l. AllByRecursion (IsDataOf p.m.tx.shape) l in
    subst P (ap (λ (c : DestChannel). c.frames) (tx-told p))
    (all-weaker (WritesData p.m.tx.shape) (IsDataOf p.m.tx.shape) _ (λ w is. data-is p.m.tx.shape w p.are.frames is) (are-data p.m.tx (sent_in run) (is-tx-run (run_of p)).happened))

-- the records are those of the one channel and the one destination
sessions-own : (p : Played) → AllByRecursion (λ (told : SessionRecord). told.chan ≡ p.m.rx.chan) p.told.report.sessions
sessions-own p =
    let run : RxRun = rx_run (run_of p) in
    let P : List SessionRecord → Type 0 = λ l. AllByRecursion (λ (told : SessionRecord). told.chan ≡ p.m.rx.chan) l in
    subst P (ap (λ (c : SourceChannel). c.sessions) (rx-told p))
    (all-weaker (λ (told : SessionRecord). (told.chan ≡ p.m.rx.chan) × (told.end.0 ≤ p.last)) (λ (told : SessionRecord). told.chan ≡ p.m.rx.chan) _ (λ told is. is.0) (sessions-of p.m.rx p.last (received_in run) (is-rx-run (run_of p)).happened (rx-within run (is-rx-run (run_of p)))))

dests-own : (p : Played) → AllByRecursion (λ (told : DestRecord). (told.path ≡ p.m.tx.path) × (told.dest ≡ p.m.tx.dest)) p.told.report.dests
dests-own p =
    let P : List DestRecord → Type 0 = λ l. AllByRecursion (λ (told : DestRecord). (told.path ≡ p.m.tx.path) × (told.dest ≡ p.m.tx.dest)) l in
    subst P (ap (λ (c : DestChannel). c.dests) (tx-told p))
    (all-weaker (IsOfDestination (leg_of p.m.destination_budget (tx_run (run_of p)))) (λ (told : DestRecord). (told.path ≡ p.m.tx.path) × (told.dest ≡ p.m.tx.dest)) _ (λ told is. (is.path, is.dest)) (dest_records (tx_run (run_of p)) p.m.destination_budget (is-tx-run (run_of p))).own)

kept : {A : Type 0} (keeps : A → Bool) (xs : List A) → AllByRecursion (λ x. keeps x ≡ true) xs → filter keeps xs ≡ xs
kept keeps [] all = refl
kept keeps (x ∷ xs) all = ap (λ b. cond b (x ∷ filter keeps xs) (filter keeps xs)) all.0 ∙ ap (λ l. x ∷ l) (kept keeps xs all.1)

all-sessions : (p : Played) → sessions_of p.m.rx.chan.0 p.told.report.sessions ≡ p.told.report.sessions
all-sessions p =
    kept (λ (told : SessionRecord). told.chan.0 == p.m.rx.chan.0) p.told.report.sessions
    (all-weaker (λ (told : SessionRecord). told.chan ≡ p.m.rx.chan) (λ (told : SessionRecord). (told.chan.0 == p.m.rx.chan.0) ≡ true) p.told.report.sessions (λ told is. eq-eqb told.chan.0 p.m.rx.chan.0 (ap (λ (c : ChanNo). c.0) is)) (sessions-own p))

and-both : (a b : Bool) → a ≡ true → b ≡ true → (a && b) ≡ true
and-both true b is so = so
and-both false b is so = is

all-dests : (p : Played) → dests_of p.m.tx.path.0 p.m.tx.dest.0 p.told.report.dests ≡ p.told.report.dests
all-dests p =
    kept (λ (told : DestRecord). told.path.0 == p.m.tx.path.0 && told.dest.0 == p.m.tx.dest.0) p.told.report.dests
    (all-weaker (λ (told : DestRecord). (told.path ≡ p.m.tx.path) × (told.dest ≡ p.m.tx.dest)) (λ (told : DestRecord). (told.path.0 == p.m.tx.path.0 && told.dest.0 == p.m.tx.dest.0) ≡ true) p.told.report.dests
    (λ told is. and-both (told.path.0 == p.m.tx.path.0) (told.dest.0 == p.m.tx.dest.0) (eq-eqb told.path.0 p.m.tx.path.0 (ap (λ (c : PathNo). c.0) is.0)) (eq-eqb told.dest.0 p.m.tx.dest.0 (ap (λ (c : DestNo). c.0) is.1))) (dests-own p))

-- what is told of the two channels is what stands in the account
source-is : (p : Played) → source_in (account p) (receiving_of p.m) ≡ source_of p.m.source_budget (rx_run (run_of p))
source-is p =
    ap (λ l. let c : SourceChannel = record { rx = p.m.rx; shape = p.m.shape; budget = p.m.source_budget; last = p.last; seen = source_seen p.m p.clock.start.0 p.clock.period p.source; controls = l; sessions = sessions_of p.m.rx.chan.0 p.told.report.sessions } in c) (controls-kept p.m.shape p.told.controls (controls-own p))
    ∙ ap (λ l. let c : SourceChannel = record { rx = p.m.rx; shape = p.m.shape; budget = p.m.source_budget; last = p.last; seen = source_seen p.m p.clock.start.0 p.clock.period p.source; controls = p.told.controls; sessions = l } in c) (all-sessions p) ∙ sym (rx-told p)

dest-is : (p : Played) → dest_in (account p) (sending_of p.m) ≡ leg_of p.m.destination_budget (tx_run (run_of p))
dest-is p =
    ap (λ l. let c : DestChannel = record { tx = p.m.tx; budget = p.m.destination_budget; last = p.last; answers = destination_answers p.m p.clock.start.0 p.clock.period p.destination; frames = l; dests = dests_of p.m.tx.path.0 p.m.tx.dest.0 p.told.report.dests } in c) (data-kept p.m.tx.shape p.told.frames (frames-own p))
    ∙ ap (λ l. let c : DestChannel = record { tx = p.m.tx; budget = p.m.destination_budget; last = p.last; answers = destination_answers p.m p.clock.start.0 p.clock.period p.destination; frames = p.told.frames; dests = l } in c) (all-dests p) ∙ sym (tx-told p)

-- frames of rising ticks leave one in a tick, so that none leaves after one of a lower priority
by-priority : (from end : ℕ) (left : List Written) → Rise from left end → AreByPriority left
by-priority from end [] rise = tt
by-priority from end (w ∷ []) rise = tt
by-priority from end (w ∷ next ∷ later) rise = ((λ same. absurd (omega (arith, same, rise.1.0))), by-priority (w.tick + 1) end (next ∷ later) rise.1)

bus-by : (p : Played) (bus : ℕ) (end : ℕ) (left : List Written) → 1 ≤ (account p).plan.budget bus → (account p).left bus ≡ left → end ≤ p.last + 1 → Rise 0 left end → AllByRecursion (λ (w : Written). IsControlOn (account p) bus w ⊎ IsDataOn (account p) bus w) left → BusLaw (account p) bus
bus-by p bus end left sends is by rise own =
    let O : List Written → Type 0 = λ l. AllByRecursion (λ (w : Written). IsControlOn (account p) bus w ⊎ IsDataOn (account p) bus w) l in
    let P : List Written → Type 0 = λ l. AreByPriority l in
    record {
      order = rw is (never-fall 0 0 end left (omega arith) rise);
      most = λ tick. rw is (let once : length (left_in tick left) ≤ 1 = at-most-once tick 0 end left rise in omega (arith, once, sends));
      end = rw is (all-by 0 end p.last left by rise);
      by_priority = subst P (sym is) (by-priority 0 end left rise);
      own = subst O (sym is) own;
    }

controls-rise : (p : Played) → Rise 0 p.told.controls (p.last + 1)
controls-rise p =
    let R : List Written → Type 0 = λ l. Rise 0 l (p.last + 1) in
    subst R (ap (λ (c : SourceChannel). c.controls) (rx-told p)) (controls-of-run-rise (rx_run (run_of p)) (is-rx-run (run_of p)))

frames-rise : (p : Played) → Rise 0 p.told.frames (p.last + 1)
frames-rise p =
    let R : List Written → Type 0 = λ l. Rise 0 l (p.last + 1) in
    subst R (ap (λ (c : DestChannel). c.frames) (tx-told p)) (run-rises (tx_run (run_of p)) (is-tx-run (run_of p)))

bus-law : (p : Played) (bus : ℕ) → BusLaw (account p) bus
bus-law p zero =
    bus-by p zero (p.last + 1) p.told.controls p.m.source_sends refl (omega arith) (controls-rise p)
    (all-weaker (IsControlOf p.m.shape) (λ (w : Written). IsControlOn (account p) zero w ⊎ IsDataOn (account p) zero w) p.told.controls (λ w is. inl (receiving_of p.m, (zero, refl), refl, is)) (controls-own p))
bus-law p (suc zero) =
    bus-by p (suc zero) (p.last + 1) p.told.frames p.m.destination_sends refl (omega arith) (frames-rise p)
    (all-weaker (IsDataOf p.m.tx.shape) (λ (w : Written). IsControlOn (account p) (suc zero) w ⊎ IsDataOn (account p) (suc zero) w) p.told.frames (λ w is. inr (sending_of p.m, (zero, refl), refl, is)) (frames-own p))
bus-law p (suc (suc bus)) = bus-by p (suc (suc bus)) 0 [] (omega arith) refl (omega arith) (omega arith) tt

-- the plan is lawful
only-one : {A : Type 0} (x y : A) (place : ℕ) → slice_get (x ∷ []) place ≡ Some y → (place ≡ 0) × (x ≡ y)
only-one x y zero is = (refl, cc)
only-one x y (suc place) is = absurd cc

same-path : (p : Played) → p.m.tx.path.0 ≡ p.m.rx.path.0
same-path p = ap (λ (n : PathNo). n.0) p.are.same_path

plan-is : (p : Played) → IsLawfulPlan (plan_of p.m p.last)
plan-is p = record {
  window = omega arith;
  receivers = (record { shape = p.are.controls; group = omega (arith, p.are.group); n_ar = p.are.n_ar; n_br = p.are.n_br; n_cr = p.are.n_cr; budget = p.m.source_sends }, tt);
  senders = (record { shape = p.are.frames; n_as = p.are.n_as; n_bs = p.are.n_bs; budget = p.m.destination_sends }, tt);
  apart = λ place other r another at there same. (only-one (receiving_of p.m) r place at).0 ∙ sym (only-one (receiving_of p.m) another other there).0;
  each_dest = λ place dest r at below.
      let is = (only-one (receiving_of p.m) r place at).1 in
      record { place = zero; sending = sending_of p.m; there = refl; path_is = same-path p ∙ ap (λ (x : Receiving). x.set.path.0) is; dest_is = omega (arith, p.are.dest, below, p.are.readers, ap (λ (x : Receiving). x.set.readers) is) };
  own_dest = λ place other r s at there same.
      let is = (only-one (receiving_of p.m) r place at).1 in
      let so = (only-one (sending_of p.m) s other there).1 in
      omega (arith, p.are.dest, p.are.readers, ap (λ (x : Receiving). x.set.readers) is, ap (λ (x : Sending). x.set.dest.0) so);
}

not-full : (tick : ℕ) (other : Bool) → never tick ≡ true → other ≡ true
not-full tick other is = cc

-- the run
pub is-run : (p : Played) → IsRun (account p) (deeds_of (run_of p)) (windows_of p.plays.ticks) (view_of (works_of (run_of p)))
is-run p =
    let o : SerialRun = run_of p in
    let v : View = view_of (works_of o) in
    record {
      plan = plan-is p;
      receivers = (record { run_is = is-rx-run o; full = λ tick is. not-full tick _ is; tells = sym (source-is p) }, tt);
      senders = (record { run_is = is-tx-run o; full = λ tick is. not-full tick _ is; tells = sym (dest-is p) }, tt);
      buses = bus-law p;
      no_others = record {
        sessions = all-weaker (λ (told : SessionRecord). told.chan ≡ p.m.rx.chan) (IsOfReceiving (account p)) p.told.report.sessions (λ told is. (receiving_of p.m, (zero, refl), is)) (sessions-own p);
        dests = all-weaker (λ (told : DestRecord). (told.path ≡ p.m.tx.path) × (told.dest ≡ p.m.tx.dest)) (IsOfSending (account p)) p.told.report.dests (λ told is. (sending_of p.m, (zero, refl), is.0, is.1)) (dests-own p);
      };
      windows_are = windows-are o;
      received_within = (rx-lies p.plays.ticks, tt);
      sent_within = (tx-lies p.plays.ticks, tt);
      joint = o.run.joint;
      in_groups = (λ seq s at. omega (arith, (its o.sizes (view_of (works_of o)) o.run.joint o.rx.path.0 seq s at).0, p.are.group), tt);
      moves = λ group. ap (moves_of ((p.m.cells ∷ []) ∷ []) group) (sym (ap (λ (r : RunTold). r.moves) p.plays.tells)) ∙ grouped-moves ((p.m.cells ∷ []) ∷ []) group (view_of (works_of o)).changes;
      pools = λ group there. one-pool p group (omega (arith, there));
      joined = joined-in o received_in sent_in (works_of o) (turns-are o) (run-turns o) o.run.received o.run.sent;
      served = (served-by p, tt);
    }
  where
    one-pool : (p : Played) (group : ℕ) → group ≡ 0 → TellsPool (account p) (view_of (works_of (run_of p))) group
    one-pool p group is =
        let o : SerialRun = run_of p in
        let P : ℕ → Type 0 = λ g. TellsPool (account p) (view_of (works_of o)) g in
        subst P (sym is) (record { word = o.run.word; in_order = subst AreInOrder (sym (same o.sizes (view_of (works_of o)) o.run.joint)) o.run.in_order })

    served-by : (p : Played) → length ((view_of (works_of (run_of p))).sessions p.m.tx.path.0) ≤ (state_after tx_new (sent_in (tx_run (run_of p)))).next
    served-by p =
        omega (arith, p.plays.run.ends.joined, ap (λ (n : ℕ). length ((view_of (works_of (run_of p))).sessions n)) (same-path p), ap (λ t. (state_after tx_new t).next) (run-turns (run_of p)))
