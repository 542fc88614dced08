-- One tick of a window: the frames of it come, and the others can come later.
use Rattle.std.proofs.Common.{◌≡◌, inl, inr, ℕ, suc, ◌+◌, ◌*◌, ◌≤◌, Bool, true, false, cond, List, [], ◌∷◌, ◌++◌, length, length-append, take, drop, refl, ap, sym, subst, ◌∙◌, arith, append-nil, append_assoc, eqb-true}
use Rattle.std.specs.List.{prefix_len, take_while}
use Rattle.std.proofs.lemmas.Bool.{cases_eq, eqb-false}
use Rattle.std.proofs.lemmas.List.{length-map}
use Rattle.can_frame.specs.Frame.{CanFrame}
use Rattle.hub_core.proofs.Turns.{came-append}
use Rattle.hub_core.specs.Stays.{PortState}
use Rattle.hub_core.specs.Turns.{came_by}
use Rattle.tp_receiver.specs.Runs.{frames_in}
use Rattle.tp_receiver.specs.State.{RxEvent, RxTurn}
use Rattle.tx_mailbox.specs.Boxes.{Pending}
use Rattle.gw_law.specs.Channels.{InTick}
use Rattle.bus_worker.proofs.ActLists.{received-append, received-other, received-own}
use Rattle.bus_worker.proofs.Counted.{timers-come, turns-come}
use Rattle.bus_worker.proofs.HeardAll.{heard-few}
use Rattle.bus_worker.specs.Acts.{Act, Received, received_at}
use Rattle.bus_worker.specs.Did.{Did}
use Rattle.bus_worker.specs.Emission.{AreLeaving, Control, Data, IsLeaving}
use Rattle.bus_worker.specs.Hearing.{AreHeard, HearsBy, frames_of}
use Rattle.bus_worker.specs.History.{BusTick, acts_after, all_came_in, last_tick, next_tick}
use Rattle.bus_worker.specs.Tick.{WorksTick, acts_of}
use Rattle.bus_worker.specs.Window.{DoesTicks, NeverFall, is_in}
use Rattle.bus_worker.specs.declared.channel.Channel.{Channel}
use Rattle.bus_worker.specs.declared.comes.Comes.{Comes}
use Rattle.bus_worker.specs.declared.worker.Worker.{Worker}

-- the first so many frames are those of the tick, and the others are of later ones
pub record Front (tick : ℕ) (frames : List InTick) (count : ℕ) : Type 0 where
  pub most : count ≤ length frames
  pub rest : NeverFall (tick + 1) (drop count frames)
  pub same : all_came_in tick (frames_of (take count frames)) ≡ take count frames
  pub size : length (frames_of (take count frames)) ≡ count

pub never-lower : (low high : ℕ) (frames : List InTick) → low ≤ high → NeverFall high frames → NeverFall low frames
never-lower low high [] by never = tt
never-lower low high (f ∷ later) by never = (omega (arith, never.0), never.1)

front-by : (is : Bool) (tick : ℕ) (f : InTick) (later : List InTick) → is_in tick f ≡ is → NeverFall tick (f ∷ later) → Front tick later (prefix_len (is_in tick) later) → Front tick (f ∷ later) (cond is (1 + prefix_len (is_in tick) later) 0)
front-by true tick f later is never so =
    let same : tick ≡ f.tick = sym (eqb-true f.tick tick is) in
    let n : ℕ = prefix_len (is_in tick) later in
    let F : ℕ → Type 0 = λ k. Front tick (f ∷ later) k in
    let same-count : suc n ≡ 1 + n = omega arith in
    subst F same-count (record {
      most = (let m = so.most in omega (arith, m));
      rest = so.rest;
      same = ap (λ t. let g : InTick = record { tick = t; frame = f.frame } in g ∷ all_came_in tick (frames_of (take n later))) same ∙ ap (λ l. f ∷ l) so.same;
      size = ap suc so.size;
    })
front-by false tick f later is never so =
    let ne = eqb-false f.tick tick is in
    record { most = omega arith; rest = (omega (arith, never.0, ne), never.1); same = refl; size = refl }

front-in : (tick : ℕ) (frames : List InTick) → NeverFall tick frames → Front tick frames (prefix_len (is_in tick) frames)
front-in tick [] never = record { most = omega arith; rest = tt; same = refl; size = refl }
front-in tick (f ∷ later) never = front-by (is_in tick f) tick f later refl never (front-in tick later (never-lower tick f.tick later never.0 never.1))

pub front : (tick : ℕ) (frames : List InTick) → NeverFall tick frames → Front tick frames (length (take_while (is_in tick) frames))
front tick frames never =
    let so = front-in tick frames never in
    let F : ℕ → Type 0 = λ n. Front tick frames n in
    let is : length (take_while (is_in tick) frames) ≡ prefix_len (is_in tick) frames = sym (length-map (take (prefix_len (is_in tick) frames) frames) (λ (f : InTick). f.frame)) ∙ so.size in
    subst F (sym is) so

-- no frame comes with one that leaves
act-comes : (tick number place : ℕ) (act : Act) (acts : List Act) → IsLeaving tick number act → came_by frames_in (received_at place (act ∷ acts)) ≡ came_by frames_in (received_at place acts)
act-comes tick number place act acts (Data other turn number_is is event tick_is) = ap (λ a. came_by frames_in (received_at place (a ∷ acts))) is
act-comes tick number place act acts (Control other turn number_is is event tick_is) =
    ap (λ a. came_by frames_in (received_at place (a ∷ acts))) is ∙ elim (cases_eq place other) [
      | inl here ↦
          ap (λ p. came_by frames_in (received_at p (Received other turn ∷ acts))) here
          ∙ ap (came_by frames_in) (received-own other turn acts)
          ∙ ap (λ (e : RxEvent). came_by frames_in (received_at other acts) ++ frames_in turn.did.tick e) event
          ∙ append-nil (came_by frames_in (received_at other acts))
          ∙ ap (λ p. came_by frames_in (received_at p acts)) (sym here)
      | inr ne ↦ ap (came_by frames_in) (received-other other place turn acts ne)
    ]

pub leaving-comes : (tick place : ℕ) (out : List Pending) (done acts : List Act) → AreLeaving tick out done → came_by frames_in (received_at place (done ++ acts)) ≡ came_by frames_in (received_at place acts)
leaving-comes tick place [] done acts none = ap (λ (l : List Act). came_by frames_in (received_at place (l ++ acts))) none
leaving-comes tick place (entry ∷ later) done acts so =
    ap (λ (l : List Act). came_by frames_in (received_at place l)) (ap (λ l. l ++ acts) so.2 ∙ append_assoc so.1 (so.0 ∷ []) acts)
    ∙ leaving-comes tick place later so.1 (so.0 ∷ acts) so.4 ∙ act-comes tick entry.0 place so.0 acts so.3

-- of each frame that comes a channel gets one at most
pub are-heard-few : (tick place : ℕ) (routes : List Comes) (channels : List Channel) (frames : List CanFrame) (done acts : List Act) → AreHeard tick routes channels frames done →
    length (came_by frames_in (received_at place (done ++ acts))) ≤ length (came_by frames_in (received_at place acts)) + length frames
are-heard-few tick place routes channels [] done acts none = subst (λ (l : List Act). length (came_by frames_in (received_at place (l ++ acts))) ≤ length (came_by frames_in (received_at place acts)) + 0) (sym none) (omega arith)
are-heard-few tick place routes channels (frame ∷ later) done acts so =
    let P : List Act → Type 0 = λ l. length (came_by frames_in (received_at place l)) ≤ length (came_by frames_in (received_at place acts)) + length (frame ∷ later) in
    let first = heard-few tick place routes channels frame so.0 so.3 in
    let is = ap (λ (l : List RxTurn). length (came_by frames_in l)) (received-append place so.0 acts) ∙ ap length (came-append frames_in (received_at place so.0) (received_at place acts)) ∙ length-append (came_by frames_in (received_at place acts)) (came_by frames_in (received_at place so.0)) in
    let rest = are-heard-few tick place routes channels later so.1 (so.0 ++ acts) so.4 in
    subst P (sym (ap (λ l. l ++ acts) so.2 ∙ append_assoc so.1 so.0 acts)) (omega (arith, first, is, rest))

-- the work of a tick is that of a window of one tick
pub one-tick : {Home : Type 0} (tick count : ℕ) (frames : List InTick) (v w : Worker) (old new : PortState Home) → Front tick frames count → WorksTick tick (frames_of (take count frames)) v w old new → DoesTicks tick (tick + 1) count frames v w old new
one-tick {Home = Home} tick count frames v w old new front works since acts by at clear =
    let d = works since acts by at clear in
    let t : BusTick = record { tick = tick; frames = frames_of (take count frames); came = d.came; timers = d.timers; turns = d.turns; out = d.out; left = d.left } in
    let N : ℕ → Type 0 = λ n. Did {Home = Home} n (9 * n) (d.left ++ (d.turns ++ (d.timers ++ d.came))) v w old new in
    let C : List Act → Type 0 = λ l. Did {Home = Home} count (9 * count) (d.left ++ (d.turns ++ (d.timers ++ l))) v w old new in
    record {
      ticks = t ∷ [];
      row = (refl, tt);
      reached = refl;
      are = (record { heard = d.heard; timed = d.timed; turned = d.turned; before = d.before; lay = d.lay; after = d.after; emitted = d.emitted; told = d.told }, tt);
      at = d.at;
      did = subst C (sym (append-nil d.came)) (subst N front.size d.did);
      fed = front.same;
      sent = d.sent;
      clear = d.clear;
      few = λ place.
          let heard = are-heard-few tick place v.routes.items v.channels.items (frames_of (take count frames)) d.came acts d.heard in
          let is : came_by frames_in (received_at place (acts_of d.came d.timers d.turns d.left acts)) ≡ came_by frames_in (received_at place (d.came ++ acts)) =
          leaving-comes tick place d.out d.left (d.turns ++ (d.timers ++ (d.came ++ acts))) d.told
          ∙ turns-come tick (length v.channels.items) place v.channels.items d.turns (d.timers ++ (d.came ++ acts)) d.turned
          ∙ timers-come tick (length v.channels.items) place v.channels.items d.timers (d.came ++ acts) d.timed in
          omega (arith, heard, ap length is, front.size);
    }

-- fewer frames can come too
pub hears-fewer : {Home : Type 0} (tick count fewer : ℕ) (w : Worker) (port : PortState Home) → fewer ≤ count → HearsBy tick count w port → HearsBy tick fewer w port
hears-fewer tick count fewer w port by hears = record {
  since = hears.since;
  acts = hears.acts;
  by = hears.by;
  at = hears.at;
  clear = hears.clear;
  few = λ place. (let f = hears.few place in omega (arith, f));
  takes = (let t = hears.takes in omega (arith, t));
  spare = (let s = hears.spare in omega (arith, s));
}

-- the last tick lies before the next one
pub last-below : (from to since : ℕ) (ticks : List BusTick) → since ≤ from → next_tick from ticks ≡ to → last_tick since ticks ≤ to
last-below from to since [] by reached = omega (arith, by, reached)
last-below from to since (t ∷ earlier) by reached = omega (arith, reached)

-- after some ticks those frames can come that didn't yet
pub hears-after : {Home : Type 0} (from to count all left : ℕ) (frames : List InTick) (v w : Worker) (old new : PortState Home) → left + count ≡ all → HearsBy from all v old → DoesTicks from to count frames v w old new → HearsBy to left w new
hears-after from to count all left frames v w old new sum hears does =
    let d = does hears.since hears.acts hears.by hears.at hears.clear in
    record {
      since = last_tick hears.since d.ticks;
      acts = acts_after d.ticks hears.acts;
      by = last-below from to hears.since d.ticks hears.by d.reached;
      at = d.at;
      clear = d.clear;
      few = λ place. (let f = d.few place in let g = hears.few place in omega (arith, f, g, sum));
      takes = (let t = hears.takes in let u = d.did.takes_used in omega (arith, t, u, sum));
      spare = (let s = hears.spare in let u = d.did.spare_used in omega (arith, s, u, sum));
    }
