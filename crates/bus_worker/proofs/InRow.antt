-- Some ticks of a bus after some others.
use Rattle.std.proofs.Common.{◌≡◌, ℕ, ◌+◌, ◌*◌, List, [], ◌∷◌, ◌++◌, length, take, drop, refl, ap, sym, subst, ◌∙◌, arith, append_assoc, append-nil}
use Rattle.std.proofs.Math.Seq.{take-add}
use Rattle.can_frame.specs.Frame.{CanFrame}
use Rattle.hub_core.specs.Stays.{PortState}
use Rattle.tx_mailbox.specs.Boxes.{IsEmitted, content}
use Rattle.gw_law.specs.Channels.{InTick}
use Rattle.bus_worker.proofs.Configured.{lies-as-configured}
use Rattle.bus_worker.proofs.Doing.{did-none, did-then}
use Rattle.bus_worker.proofs.HeardAll.{heard-same}
use Rattle.bus_worker.proofs.Ticking.{timers-same, turns-same}
use Rattle.bus_worker.proofs.OneTick.{last-below}
use Rattle.bus_worker.specs.Acts.{Act}
use Rattle.bus_worker.specs.Did.{Did}
use Rattle.bus_worker.specs.Emission.{all_sent_in}
use Rattle.bus_worker.specs.Hearing.{AreHeard}
use Rattle.bus_worker.specs.History.{AreBusTicks, AreInRow, BusTick, IsBusTick, acts_after, all_came_in, came_in, last_tick, left_in, next_tick}
use Rattle.bus_worker.specs.Phases.{AreTimers, AreTurns, Rests}
use Rattle.bus_worker.specs.Stands.{SameChannels}
use Rattle.bus_worker.specs.Tick.{acts_of}
use Rattle.bus_worker.specs.Window.{DoesTicks}
use Rattle.bus_worker.specs.declared.channel.Channel.{Channel}
use Rattle.bus_worker.specs.declared.comes.Comes.{Comes}
use Rattle.bus_worker.specs.declared.worker.Worker.{Worker}

-- the acts of ticks after others, and after some acts
pub acts-append : (later earlier : List BusTick) (acts : List Act) → acts_after (later ++ earlier) acts ≡ acts_after later (acts_after earlier acts)
acts-append [] earlier acts = refl
acts-append (t ∷ later) earlier acts = ap (λ l. acts_of t.came t.timers t.turns t.left l) (acts-append later earlier acts)

pub acts-front : (ticks : List BusTick) (acts : List Act) → acts_after ticks acts ≡ acts_after ticks [] ++ acts
acts-front [] acts = refl
acts-front (t ∷ earlier) acts =
    ap (λ l. acts_of t.came t.timers t.turns t.left l) (acts-front earlier acts)
    ∙ sym (append_assoc t.left (t.turns ++ (t.timers ++ (t.came ++ acts_after earlier []))) acts
    ∙ ap (λ l. t.left ++ l) (append_assoc t.turns (t.timers ++ (t.came ++ acts_after earlier [])) acts
    ∙ ap (λ l. t.turns ++ l) (append_assoc t.timers (t.came ++ acts_after earlier []) acts
    ∙ ap (λ l. t.timers ++ l) (append_assoc t.came (acts_after earlier []) acts))))

-- the frames that came and left
pub came-append : (later earlier : List BusTick) → came_in (later ++ earlier) ≡ came_in earlier ++ came_in later
came-append [] earlier = sym (append-nil (came_in earlier))
came-append (t ∷ later) earlier = ap (λ l. l ++ all_came_in t.tick t.frames) (came-append later earlier) ∙ append_assoc (came_in earlier) (came_in later) (all_came_in t.tick t.frames)

pub left-append : (later earlier : List BusTick) → left_in (later ++ earlier) ≡ left_in earlier ++ left_in later
left-append [] earlier = sym (append-nil (left_in earlier))
left-append (t ∷ later) earlier = ap (λ l. l ++ all_sent_in t.tick t.out) (left-append later earlier) ∙ append_assoc (left_in earlier) (left_in later) (all_sent_in t.tick t.out)

-- they stand in a row
pub next-append : (from : ℕ) (later earlier : List BusTick) → next_tick from (later ++ earlier) ≡ next_tick (next_tick from earlier) later
next-append from [] earlier = refl
next-append from (t ∷ later) earlier = refl

pub last-append : (since : ℕ) (later earlier : List BusTick) → last_tick since (later ++ earlier) ≡ last_tick (last_tick since earlier) later
last-append since [] earlier = refl
last-append since (t ∷ later) earlier = refl

pub row-append : (from : ℕ) (later earlier : List BusTick) → AreInRow (next_tick from earlier) later → AreInRow from earlier → AreInRow from (later ++ earlier)
row-append from [] earlier more row = row
row-append from (t ∷ later) earlier more row = (more.0 ∙ sym (next-append from later earlier), row-append from later earlier more.1 row)

-- what a tick is doesn't hang on how the machines went on
all-heard-same : (tick : ℕ) (routes now : List Comes) (old new : List Channel) (frames : List CanFrame) (done : List Act) → now ≡ routes → SameChannels old new → AreHeard tick now new frames done → AreHeard tick routes old frames done
all-heard-same tick routes now old new [] done is same none = none
all-heard-same tick routes now old new (frame ∷ later) done is same so = (so.0, so.1, so.2, heard-same tick routes now old new frame so.0 is same so.3, all-heard-same tick routes now old new later so.1 is same so.4)

tick-same : (budget now : ℕ) (routes after : List Comes) (old new : List Channel) (acts : List Act) (t : BusTick) → now ≡ budget → after ≡ routes → SameChannels old new → IsBusTick now after new acts t → IsBusTick budget routes old acts t
tick-same budget now routes after old new acts t budget_is routes_are same is =
    let T : ℕ → Type 0 = λ k. AreTimers t.tick k old t.timers in
    let S : ℕ → Type 0 = λ k. AreTurns t.tick k old t.turns in
    let B : ℕ → Type 0 = λ k. IsEmitted k is.before t.out is.after in
    record {
      heard = all-heard-same t.tick routes after old new t.frames t.came routes_are same is.heard;
      timed = subst T same.count (timers-same t.tick (length new) old new t.timers same is.timed);
      turned = subst S same.count (turns-same t.tick (length new) old new t.turns same is.turned);
      before = is.before;
      lay = lies-as-configured (t.turns ++ (t.timers ++ (t.came ++ acts))) old new (λ number. content number is.before) same is.lay;
      after = is.after;
      emitted = subst B budget_is is.emitted;
      told = is.told;
    }

ticks-same : (budget now : ℕ) (routes after : List Comes) (old new : List Channel) (acts : List Act) (ticks : List BusTick) → now ≡ budget → after ≡ routes → SameChannels old new → AreBusTicks now after new acts ticks → AreBusTicks budget routes old acts ticks
ticks-same budget now routes after old new acts [] budget_is routes_are same are = tt
ticks-same budget now routes after old new acts (t ∷ earlier) budget_is routes_are same are = (tick-same budget now routes after old new (acts_after earlier acts) t budget_is routes_are same are.0, ticks-same budget now routes after old new acts earlier budget_is routes_are same are.1)

pub ticks-append : (budget : ℕ) (routes : List Comes) (channels : List Channel) (acts : List Act) (later earlier : List BusTick) → AreBusTicks budget routes channels (acts_after earlier acts) later → AreBusTicks budget routes channels acts earlier → AreBusTicks budget routes channels acts (later ++ earlier)
ticks-append budget routes channels acts [] earlier more are = are
ticks-append budget routes channels acts (t ∷ later) earlier more are =
    let I : List Act → Type 0 = λ l. IsBusTick budget routes channels l t in
    (subst I (sym (acts-append later earlier acts)) more.0, ticks-append budget routes channels acts later earlier more.1 are)

-- no tick
pub does-none : {Home : Type 0} (from : ℕ) (frames : List InTick) (v : Worker) (port : PortState Home) → DoesTicks from from 0 frames v v port port
does-none from frames v port since acts by at clear = record {
  ticks = [];
  row = tt;
  reached = refl;
  are = tt;
  at = at;
  did = did-none v v port refl refl refl refl;
  fed = refl;
  sent = sym (append-nil v.sent);
  clear = clear;
  few = λ place. omega arith;
}

-- one after another
pub does-then : {Home : Type 0} (from mid to count more : ℕ) (frames : List InTick) (u v w : Worker) (one two three : PortState Home) →
    DoesTicks from mid count frames u v one two → DoesTicks mid to more (drop count frames) v w two three → DoesTicks from to (count + more) frames u w one three
does-then {Home = Home} from mid to count more frames u v w one two three first second since acts by at clear =
    let a = first since acts by at clear in
    let b = second (last_tick since a.ticks) (acts_after a.ticks acts) (last-below from mid since a.ticks by a.reached) a.at a.clear in
    let together = acts-append b.ticks a.ticks acts in
    let R : List Act → Type 0 = λ l. Rests {Home = Home} (last_tick since (b.ticks ++ a.ticks)) l w three in
    let L : ℕ → Type 0 = λ tick. Rests {Home = Home} tick (acts_after b.ticks (acts_after a.ticks acts)) w three in
    let D : List Act → Type 0 = λ l. Did {Home = Home} (count + more) (9 * (count + more)) l u w one three in
    let N : ℕ → Type 0 = λ n. Did {Home = Home} (count + more) n (acts_after b.ticks [] ++ acts_after a.ticks []) u w one three in
    let M : ℕ → Type 0 = λ n. AreInRow n b.ticks in
    record {
      ticks = b.ticks ++ a.ticks;
      row = row-append from b.ticks a.ticks (subst M (sym a.reached) b.row) a.row;
      reached = next-append from b.ticks a.ticks ∙ ap (λ n. next_tick n b.ticks) a.reached ∙ b.reached;
      are = ticks-append u.budget u.routes.items u.channels.items acts b.ticks a.ticks (ticks-same u.budget v.budget u.routes.items v.routes.items u.channels.items v.channels.items (acts_after a.ticks acts) b.ticks a.did.budget (ap (λ r. r.items) a.did.routes) a.did.channels b.are) a.are;
      at = subst R (sym together) (subst L (sym (last-append since b.ticks a.ticks)) b.at);
      did = subst D (sym (acts-append b.ticks a.ticks [] ∙ acts-front b.ticks (acts_after a.ticks []))) (subst N (omega arith) (did-then count (9 * count) more (9 * more) (acts_after a.ticks []) (acts_after b.ticks []) u v w one two three a.did b.did));
      fed = came-append b.ticks a.ticks ∙ ap (λ l. l ++ came_in b.ticks) a.fed ∙ ap (λ l. take count frames ++ l) b.fed ∙ sym (take-add count more frames);
      sent = b.sent ∙ ap (λ l. l ++ left_in b.ticks) a.sent ∙ append_assoc u.sent (left_in a.ticks) (left_in b.ticks) ∙ ap (λ l. u.sent ++ l) (sym (left-append b.ticks a.ticks));
      clear = λ place. rw together (b.clear place);
      few = λ place. rw together (let f = a.few place in let g = b.few place in omega (arith, f, g));
    }
