-- A tick of a reception in progress: its timer finds nothing, and its flow control leaves, or stays where its bus is full.
use Rattle.std.proofs.Common.{◌≡◌, ◌⊎◌, inl, inr, ℕ, ◌+◌, ◌<◌, ◌≤◌, suc, zero, Bool, true, Option, Some, None, List, [], ◌∷◌, length, refl, ap, sym, ◌∙◌, subst, arith}
use Rattle.std.specs.List.{AllByRecursion}
use Rattle.std.proofs.lemmas.Bool.{cases_lt}
use Rattle.std.proofs.lemmas.Bool.Decides.{nat_tests}
use Rattle.gw_base.proofs.Lists.{all-weaker}
use Rattle.hub_core.specs.declared.record.RxWait.{RxWait}
use Rattle.hub_core.specs.declared.record.RxWait.TheVariants.{Box, Room, Cf}
use Rattle.tp_attempts.specs.Cuts.{Cut}
use Rattle.tp_attempts.specs.Seen.{Seen}
use Rattle.tp_attempts.specs.Walk.{Piece, last_place}
use Rattle.tp_receiver.specs.Receptions.{limit_of}
use Rattle.tp_receiver.specs.State.{Reception}
use Rattle.tp_receiver.specs.declared.set.RxSet.{RxSet}
use Rattle.tp_unit.specs.Unit.{Meaning}
use Rattle.receiver_law.specs.FlowControls.{IsLate, IsLateAfter, IsOwed, IsOwedAfter, IsSilent}
use Rattle.receiver_law.specs.Receptions.{Continue, ControlLeft, Wait, control_of, counted, last_by}
use Rattle.receiver_law.proofs.receptions.Answers.{answers-on}
use Rattle.receiver_law.proofs.receptions.Counting.{ComeBy, counted-append, counted-below, last-newest, waits-on}
use Rattle.receiver_law.proofs.receptions.Frames.{all-left}
use Rattle.receiver_law.proofs.receptions.Going.{IsBlockOn, IsBoxed, IsForFrame, IsForRoom, IsGoing, IsUnder, LetsYet, WaitsFor, WaitsSo}

-- the timer finds that nothing is late
waits-in-time : (full : ℕ → Bool) (set : RxSet) (tick : ℕ) (lies : Option Meaning) (busy : Reception) (start : Piece) (frames : List Piece) (controls : List ControlLeft) (wait : RxWait) → tick < busy.since + limit_of set wait → WaitsFor full set tick tick lies busy start frames controls wait →
    WaitsFor full set tick (tick + 1) lies busy start frames controls wait
waits-in-time full set tick lies busy start frames controls Box early so = record {
  kind = so.kind;
  lies_is = so.lies_is;
  of = so.of;
  lets = so.lets;
  kept = so.kept;
  from = so.from;
  by = so.by;
  early = so.early;
  may = so.may;
  waits = so.waits;
  in_time = omega (arith, early);
}
waits-in-time full set tick lies busy start frames controls Room early so = record {
  earlier = so.earlier;
  newest = so.newest;
  left_is = so.left_is;
  few = so.few;
  many = so.many;
  lies_is = so.lies_is;
  in_time = omega (arith, early);
}
waits-in-time full set tick lies busy start frames controls Cf early so = record {
  left = so.left;
  block = so.block;
  earlier = so.earlier;
  newest = so.newest;
  from = so.from;
  from_by = so.from_by;
  kept = so.kept;
  lets = so.lets;
  lies_is = so.lies_is;
  since_is = so.since_is;
  up_to = so.up_to;
  in_time = omega (arith, early);
}

pub in-time : (full : ℕ → Bool) (set : RxSet) (tick : ℕ) (lies : Option Meaning) (busy : Reception) (attempt : Cut Seen) (controls : List ControlLeft) → tick < busy.since + limit_of set busy.wait → IsGoing full set tick tick lies busy attempt controls →
    IsGoing full set tick (tick + 1) lies busy attempt controls
in-time full set tick lies busy attempt controls early so = record { start = so.start; frames = so.frames; under = so.under; waits_for = waits-in-time full set tick lies busy so.start so.frames controls busy.wait early so.waits_for }

-- a tick is over, in which no flow control left
under-on : (full : ℕ → Bool) (set : RxSet) (tick : ℕ) (busy : Reception) (attempt : Cut Seen) (start : Piece) (frames : List Piece) (controls : List ControlLeft) → (IsOwed set frames (last_by tick controls) tick → full tick ≡ true) → (IsLate set frames (last_by tick controls) tick → full tick ≡ true) →
    IsUnder full set tick busy attempt start frames controls → IsUnder full set (tick + 1) busy attempt start frames controls
under-on full set tick busy attempt start frames controls owed late so = record {
  pieces = so.pieces;
  begin = so.begin;
  by = omega (arith, so.by);
  early = all-weaker (λ (p : Piece). p.at ≤ tick) (λ (p : Piece). p.at ≤ tick + 1) frames (λ p by. omega (arith, by)) so.early;
  answers = answers-on full set frames busy.begin tick controls owed late so.answers;
  waits = so.waits;
}

-- the flow control stays in its box
pub stays : (full : ℕ → Bool) (set : RxSet) (tick : ℕ) (lies : Option Meaning) (busy : Reception) (attempt : Cut Seen) (controls : List ControlLeft) → full tick ≡ true → IsGoing full set tick (tick + 1) lies busy attempt controls → busy.wait ≡ Box →
    IsGoing full set (tick + 1) (tick + 1) lies busy attempt controls
stays full set tick lies busy attempt controls is so box =
    let boxed : IsBoxed full set tick (tick + 1) lies busy so.frames controls = subst (WaitsFor full set tick (tick + 1) lies busy so.start so.frames controls) box so.waits_for in
    let next : IsBoxed full set (tick + 1) (tick + 1) lies busy so.frames controls =
    record {
      kind = boxed.kind;
      lies_is = boxed.lies_is;
      of = boxed.of;
      lets = boxed.lets;
      kept = λ at from below. elim (same-or-below at tick below) [ inl before ↦ boxed.kept at from before | inr same ↦ subst (λ (t : ℕ). full t ≡ true) (sym same) is ];
      from = boxed.from;
      by = omega (arith, boxed.by);
      early = boxed.early;
      may = boxed.may;
      waits = subst (WaitsSo boxed.kind busy.waits) (sym (waits-on tick (tick + 1) so.frames controls (omega arith) so.under.early)) boxed.waits;
      in_time = boxed.in_time;
    } in
    record {
      start = so.start;
      frames = so.frames;
      under = under-on full set tick busy attempt so.start so.frames controls (λ owed. is) (λ late. is) so.under;
      waits_for = subst (WaitsFor full set (tick + 1) (tick + 1) lies busy so.start so.frames controls) (sym box) next;
    }
  where
    same-or-below : (at now : ℕ) → at < now + 1 → (at < now) ⊎ (at ≡ now)
    same-or-below at now below = elim (cases_lt at now) [ inl before ↦ inl before | inr after ↦ inr (omega (arith, below, after)) ]

-- where room is awaited, nothing is owed and nothing is late
room-passes : (full : ℕ → Bool) (set : RxSet) (tick : ℕ) (lies : Option Meaning) (busy : Reception) (attempt : Cut Seen) (start : Piece) (frames : List Piece) (controls : List ControlLeft) → IsUnder full set tick busy attempt start frames controls → IsForRoom set tick (tick + 1) lies busy frames controls →
    IsUnder full set (tick + 1) busy attempt start frames controls × IsForRoom set (tick + 1) (tick + 1) lies busy frames controls
room-passes full set tick lies busy attempt start frames controls under room =
    let newest : ControlLeft = record { tick = busy.since; kind = Wait } in
    let below : busy.since < tick = (subst (AllByRecursion (λ (control : ControlLeft). control.tick < tick)) room.newest (all-left full set frames busy.begin tick controls under.answers)).0 in
    let last : last_by tick controls ≡ Some newest = ap (last_by tick) room.newest ∙ last-newest tick newest room.earlier (omega (arith, below)) in (
      under-on full set tick busy attempt start frames controls (λ owed. absurd (not-owed (subst (λ (c : Option ControlLeft). IsOwed set frames c tick) last owed))) (λ late. absurd (subst (λ (c : Option ControlLeft). IsLate set frames c tick) last late)) under,
      record {
        earlier = room.earlier;
        newest = room.newest;
        left_is = room.left_is;
        few = omega (arith, room.few, waits-on tick (tick + 1) frames controls (omega arith) under.early);
        many = omega (arith, room.many, waits-on tick (tick + 1) frames controls (omega arith) under.early);
        lies_is = room.lies_is;
        in_time = room.in_time;
      },
    )
  where
    not-owed : busy.since + set.n_br ≤ tick → ⊥
    not-owed is = omega (arith, is, room.in_time)

-- of a block that goes on fewer frames came since its flow control left
pub fewer-came : (from left block tick : ℕ) (on_left : Option ℕ) (frames : List Piece) → ComeBy tick frames → IsBlockOn from left block on_left frames → counted (left + 1) tick frames < block
fewer-came from left block tick on_left frames early on =
    let none : counted (left + 1) tick on.before ≡ 0 = counted-below tick left on.before on.early in
    let some : counted (left + 1) tick on.after ≤ length on.after = at-most (left + 1) tick on.after in
    let all : counted (left + 1) tick frames ≡ counted (left + 1) tick on.before + counted (left + 1) tick on.after = ap (counted (left + 1) tick) on.are ∙ counted-append (left + 1) tick on.before on.after in
    omega (arith, none, some, all, on.sum, on.some)
  where
    at-most : (low high : ℕ) (pieces : List Piece) → counted low high pieces ≤ length pieces
    at-most low high [] = omega arith
    at-most low high (piece ∷ pieces) = let rest : counted low high pieces ≤ length pieces = at-most low high pieces in grind (arith, nat_tests)

not-owed : (set : RxSet) (from left block tick : ℕ) (on_left : Option ℕ) (waits : ℕ) (frames : List Piece) → ComeBy tick frames → LetsYet from left (Continue block) on_left waits frames → IsOwedAfter set frames left (Continue block) tick → ⊥
not-owed set from left zero tick on_left waits frames early lets owed = omega (arith, owed.0)
not-owed set from left (suc block) tick on_left waits frames early lets owed = omega (arith, owed.1, fewer-came from left (suc block) tick on_left frames early lets.0)

-- frames up to a tick that each came long before it
silent-last : (limit tick : ℕ) (start : Piece) (frames : List Piece) → ComeBy tick frames → IsSilent limit tick frames → (last_place start.at frames ≡ start.at) ⊎ (last_place start.at frames + limit ≤ tick)
silent-last limit tick start [] early silent = inl refl
silent-last limit tick start (piece ∷ frames) early silent = elim (silent-last limit tick piece frames early.1 silent.1) [ inl same ↦ inr (omega (arith, same, silent.0 early.0)) | inr late ↦ inr late ]

not-late : (full : ℕ → Bool) (set : RxSet) (tick : ℕ) (lies : Option Meaning) (busy : Reception) (start : Piece) (frames : List Piece) (controls : List ControlLeft) → ComeBy tick frames → (awaits : IsForFrame full set tick (tick + 1) lies busy start frames controls) → start.at ≤ awaits.left →
    IsLateAfter set frames awaits.left awaits.block tick → ⊥
not-late full set tick lies busy start frames controls early awaits begun late = elim (silent-last set.n_cr tick start frames early late.silent) [
  | inl same ↦ omega (arith, same, begun, awaits.since_is, awaits.in_time, late.limit)
  | inr before ↦ omega (arith, before, awaits.since_is, awaits.in_time, late.limit)
]

-- where a consecutive frame is awaited, neither
frame-passes : (full : ℕ → Bool) (set : RxSet) (tick : ℕ) (lies : Option Meaning) (busy : Reception) (attempt : Cut Seen) (start : Piece) (frames : List Piece) (controls : List ControlLeft) → IsUnder full set tick busy attempt start frames controls →
    IsForFrame full set tick (tick + 1) lies busy start frames controls → IsUnder full set (tick + 1) busy attempt start frames controls × IsForFrame full set (tick + 1) (tick + 1) lies busy start frames controls
frame-passes full set tick lies busy attempt start frames controls under awaits =
    let newest : ControlLeft = record { tick = awaits.left; kind = Continue awaits.block } in
    let within = subst (AllByRecursion (λ (control : ControlLeft). (busy.begin ≤ control.tick) × (control.tick < tick))) awaits.newest under.answers.within in
    let last : last_by tick controls ≡ Some newest = ap (last_by tick) awaits.newest ∙ last-newest tick newest awaits.earlier (omega (arith, within.0.1)) in (
      under-on full set tick busy attempt start frames controls
          (λ owed. absurd (not-owed set awaits.from awaits.left awaits.block tick busy.left busy.waits frames under.early awaits.lets (subst (λ (c : Option ControlLeft). IsOwed set frames c tick) last owed)))
          (λ late. absurd (not-late full set tick lies busy start frames controls under.early awaits (omega (arith, under.begin, within.0.0)) (subst (λ (c : Option ControlLeft). IsLate set frames c tick) last late))) under,
      record {
        left = awaits.left;
        block = awaits.block;
        earlier = awaits.earlier;
        newest = awaits.newest;
        from = awaits.from;
        from_by = awaits.from_by;
        kept = awaits.kept;
        lets = awaits.lets;
        lies_is = awaits.lies_is;
        since_is = awaits.since_is;
        up_to = awaits.up_to;
        in_time = awaits.in_time;
      },
    )

-- nothing lies in the box
pub goes-on : (full : ℕ → Bool) (set : RxSet) (tick : ℕ) (lies : Option Meaning) (busy : Reception) (attempt : Cut Seen) (controls : List ControlLeft) → lies ≡ None → IsGoing full set tick (tick + 1) lies busy attempt controls → IsGoing full set (tick + 1) (tick + 1) lies busy attempt controls
goes-on full set tick lies busy attempt controls none so = let both = of busy.wait so.waits_for in record { start = so.start; frames = so.frames; under = both.0; waits_for = both.1 }
  where
    of : (wait : RxWait) → WaitsFor full set tick (tick + 1) lies busy so.start so.frames controls wait → IsUnder full set (tick + 1) busy attempt so.start so.frames controls × WaitsFor full set (tick + 1) (tick + 1) lies busy so.start so.frames controls wait
    of Box waits = let clash : None ≡ Some (control_of set waits.kind) = sym none ∙ waits.lies_is in cc
    of Room waits = room-passes full set tick lies busy attempt so.start so.frames controls so.under waits
    of Cf waits = frame-passes full set tick lies busy attempt so.start so.frames controls so.under waits
