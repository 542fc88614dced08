-- A law of all steps is one of eight effects: what holds of each effect, and of one after another, holds of every step.
use Rattle.std.proofs.Common.{◌≡◌, ℕ, Option, Some, List, [], ◌∷◌, refl}
use Rattle.hub_core.specs.declared.port.Seen.{Seen as Look}
use Rattle.tp_sender.specs.declared.event.TxEvent.{TxEvent}
use Rattle.tp_sender.specs.declared.set.TxSet.{TxSet}
use Rattle.tp_sender.specs.State.{Transmission, TxDid, TxState}
use Rattle.tp_sender.specs.Table.{TxStep}
use Rattle.tp_sender.specs.Effects.{AreEffects, IsMade, IsSettled, MayBe, TxStage, TxDone, TxEffect, done_by, done_then, done_by_all, found_by, nothing_at, first_stage}
use Rattle.tp_sender.proofs.Made.{amid, made}

-- a law of what is done: it holds of nothing, of one after another, and of each effect
pub record IsDoneLaw (set : TxSet) (tick : ℕ) (Law : TxStage → TxDone → Type 0) : Type 0 where
  pub none : (p : TxStage) → Law p (nothing_at tick p)
  pub then : (p : TxStage) (first later : TxDone) → Law p first → Law first.new later → Law p (done_then first later)
  pub each : (event : TxEvent) (look : Option Look) (next : ℕ) (effect : TxEffect) → MayBe set tick event look effect →
      Law (amid event look next (found_by effect)) (done_by set tick (amid event look next (found_by effect)) effect)

-- one effect, wherever the step is
of-one : (set : TxSet) (tick : ℕ) (Law : TxStage → TxDone → Type 0) → IsDoneLaw set tick Law → (event : TxEvent) (told : Option TxEvent) (look : Option Look) (next : ℕ) (live : Option Transmission) (effect : TxEffect) → told ≡ Some event → live ≡ found_by effect →
    MayBe set tick event look effect → Law (record { event = told; look = look; next = next; live = live }) (done_by set tick (record { event = told; look = look; next = next; live = live }) effect)
of-one set tick Law law event told look next live effect is finds may = rw (is, finds) (law.each event look next effect may)

-- effects one after another
of-effects : (set : TxSet) (tick : ℕ) (Law : TxStage → TxDone → Type 0) → IsDoneLaw set tick Law → (p : TxStage) (effects : List TxEffect) → AreEffects set tick p effects → Law p (done_by_all set tick p effects)
of-effects set tick Law law p [] are = law.none p
of-effects set tick Law law p (effect ∷ later) are =
    law.then p (done_by set tick p effect) (done_by_all set tick (done_by set tick p effect).new later) (of-one set tick Law law are.0.event p.event p.look p.next p.live effect are.0.told are.0.finds are.0.may)
    (of-effects set tick Law law (done_by set tick p effect).new later are.1)

-- what a whole step does, which leaves so much of the event and of what was seen
abbrev pub step_done : TxDid → (event : Option TxEvent) → (look : Option Look) → TxDone
step_done did event look = record { tick = did.tick; calls = did.calls; act = did.act; records = did.records; new = record { event = event; look = look; next = did.new.next; live = did.new.live } }

-- the law of a step
pub record HoldsOf (Law : TxStage → TxDone → Type 0) (old : TxState) (event : TxEvent) (did : TxDid) : Type 0 where
  pub left : Option TxEvent
  pub look : Option Look
  pub settled : IsSettled left did.new.live
  pub holds : Law (first_stage old event) (step_done did left look)

of-parts : (Law : TxStage → TxDone → Type 0) (p : TxStage) (event : Option TxEvent) (look : Option Look) (did : TxDid) (all : TxDone) → all.tick ≡ did.tick → did.calls ≡ all.calls → did.act ≡ all.act → did.records ≡ all.records → did.new.next ≡ all.new.next → did.new.live ≡ all.new.live →
    event ≡ all.new.event → look ≡ all.new.look → Law p all → Law p (step_done did event look)
of-parts Law p event look did all tick calls act records next live told seen holds = rw (← tick, calls, act, records, next, live, told, seen) holds

-- effects are of their tick
tick-of : (set : TxSet) (tick : ℕ) (p : TxStage) (effects : List TxEffect) → (done_by_all set tick p effects).tick ≡ tick
tick-of set tick p [] = refl
tick-of set tick p (effect ∷ later) = tick-of set tick (done_by set tick p effect).new later

pub of-step : (set : TxSet) (Law : TxStage → TxDone → Type 0) (old : TxState) (event : TxEvent) (did : TxDid) → IsDoneLaw set did.tick Law → TxStep set old event did → HoldsOf Law old event did
of-step set Law old event did law row =
    let is : IsMade set old event did = made set old event did row in
    let all : TxDone = done_by_all set did.tick (first_stage old event) is.effects in
    record {
      left = all.new.event;
      look = all.new.look;
      settled = is.settled;
      holds = of-parts Law (first_stage old event) all.new.event all.new.look did all (tick-of set did.tick (first_stage old event) is.effects) is.calls is.act is.records is.next is.live refl refl
          (of-effects set did.tick Law law (first_stage old event) is.effects is.are);
    }
