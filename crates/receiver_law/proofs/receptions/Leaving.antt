-- The flow control of a reception leaves its box.
use Rattle.std.proofs.Common.{◌≡◌, ℕ, ◌+◌, ◌≤◌, suc, zero, Bool, Option, Some, None, List, [], ◌∷◌, max, refl, sym, subst, arith, append-nil}
use Rattle.gw_base.proofs.Lists.{all-weaker}
use Rattle.hub_core.specs.declared.record.RxWait.TheVariants.{Box, Cf}
use Rattle.tp_attempts.specs.Cuts.{Cut}
use Rattle.tp_attempts.specs.Seen.{Seen}
use Rattle.tp_attempts.specs.Walk.{Piece, last_place}
use Rattle.tp_receiver.specs.Receptions.{awaited_after}
use Rattle.tp_receiver.specs.State.{Reception}
use Rattle.tp_receiver.specs.declared.set.RxSet.{RxSet}
use Rattle.tp_unit.specs.Unit.{Meaning}
use Rattle.receiver_law.specs.FlowControls.{IsLateIn, IsOwedAfter, MayFollow}
use Rattle.receiver_law.specs.Receptions.{ControlKind, Continue, ControlLeft, Refuse, Wait, control_of, waits_in}
use Rattle.receiver_law.proofs.receptions.Answers.{answers-left, follow-later}
use Rattle.receiver_law.proofs.receptions.Counting.{ComeBy, counted-below, last-by, waits-on, waits-one}
use Rattle.receiver_law.proofs.receptions.Going.{IsBlockOn, IsBoxed, IsForFrame, IsGoing, LetsYet, WaitsFor, WaitsSo}

-- what it asks for isn't over in the tick in which it leaves, and nothing is late
not-owed : (set : RxSet) (tick : ℕ) (kind : ControlKind) (frames : List Piece) → 1 ≤ set.n_br → ComeBy tick frames → IsOwedAfter set frames tick kind tick → ⊥
not-owed set tick (Continue block) frames some early owed = omega (arith, owed.0, owed.1, counted-below tick tick frames early)
not-owed set tick Wait frames some early owed = omega (arith, owed, some)
not-owed set tick Refuse frames some early owed = owed

not-late : (set : RxSet) (tick : ℕ) (kind : ControlKind) (frames : List Piece) → 1 ≤ set.n_cr → IsLateIn set frames tick kind tick → ⊥
not-late set tick (Continue block) frames some late = omega (arith, late.limit, some)
not-late set tick Wait frames some late = late
not-late set tick Refuse frames some late = late

-- no more waits follow one another than are configured
few : (set : RxSet) (tick waits : ℕ) (kind : ControlKind) (frames : List Piece) (controls : List ControlLeft) → ComeBy tick frames → waits ≤ set.wft_max → WaitsSo kind waits (waits_in tick frames controls) → waits_in tick frames (record { tick = tick; kind = kind } ∷ controls) ≤ set.wft_max + 1
few set tick waits (Continue block) frames controls early most so = omega arith
few set tick waits Wait frames controls early most so = omega (arith, waits-one tick frames controls early, so.0, most)
few set tick waits Refuse frames controls early most so = omega arith

wider : (from by later block : ℕ) (left : Option ℕ) (frames : List Piece) → by ≤ later → IsBlockOn from by block left frames → IsBlockOn from later block left frames
wider from by later block left frames le on = record {
  rest = on.rest;
  left_is = on.left_is;
  some = on.some;
  before = on.before;
  after = on.after;
  are = on.are;
  early = all-weaker (λ (p : Piece). p.at ≤ by) (λ (p : Piece). p.at ≤ later) on.before (λ p is. omega (arith, is, le)) on.early;
  late = on.late;
  sum = on.sum;
}

-- the reception that goes on, and the flow control that left
abbrev pub awaiting : Reception → (tick : ℕ) → Reception
awaiting busy tick = record busy { wait = awaited_after busy.left; since = tick }

-- what is waited for then
frame-waits : (full : ℕ → Bool) (set : RxSet) (tick block : ℕ) (lies : Option Meaning) (busy : Reception) (start : Piece) (frames : List Piece) (controls : List ControlLeft) → 1 ≤ set.n_cr → busy.since ≤ tick → start.at ≤ tick → ComeBy tick frames → IsBoxed full set tick (tick + 1) lies busy frames controls →
    LetsYet busy.since tick (Continue block) busy.left busy.waits frames → IsForFrame full set (tick + 1) (tick + 1) None (record busy { wait = Cf; since = tick }) start frames (record { tick = tick; kind = Continue block } ∷ controls)
frame-waits full set tick block lies busy start frames controls some by begun early boxed lets = record {
  left = tick;
  block = block;
  earlier = controls;
  newest = refl;
  from = busy.since;
  from_by = by;
  kept = boxed.kept;
  lets = lets;
  lies_is = refl;
  since_is = let last : last_place start.at frames ≤ tick = last-by tick start.at frames begun early in greatest tick (last_place start.at frames) last;
  up_to = early;
  in_time = omega (arith, some);
}
  where
    greatest : (n m : ℕ) → m ≤ n → n ≡ max n m
    greatest n m le = omega (arith, le)

waits-after : (full : ℕ → Bool) (set : RxSet) (tick : ℕ) (lies : Option Meaning) (busy : Reception) (start : Piece) (frames : List Piece) (controls : List ControlLeft) (kind : ControlKind) (left : Option ℕ) → 1 ≤ set.n_cr → 1 ≤ set.n_br → busy.since ≤ tick → start.at ≤ tick → ComeBy tick frames → busy.left ≡ left →
    IsBoxed full set tick (tick + 1) lies busy frames controls → LetsYet busy.since busy.since kind left busy.waits frames → WaitsSo kind busy.waits (waits_in tick frames controls) →
    WaitsFor full set (tick + 1) (tick + 1) None (record busy { wait = awaited_after left; since = tick }) start frames (record { tick = tick; kind = kind } ∷ controls) (awaited_after left)
waits-after full set tick lies busy start frames controls (Continue zero) None some pause by begun early left boxed lets so = frame-waits full set tick zero lies busy start frames controls some by begun early boxed (left, lets.1)
waits-after full set tick lies busy start frames controls (Continue zero) (Some rest) some pause by begun early left boxed lets so = let clash : Some rest ≡ None = lets.0 in absurd cc
waits-after full set tick lies busy start frames controls (Continue (suc block)) None some pause by begun early left boxed lets so = let clash : None ≡ Some lets.0.rest = lets.0.left_is in absurd cc
waits-after full set tick lies busy start frames controls (Continue (suc block)) (Some zero) some pause by begun early left boxed lets so = let clash : Some 0 ≡ Some lets.0.rest = lets.0.left_is in let none : 0 ≡ lets.0.rest = cc in absurd (omega (arith, none, lets.0.some))
waits-after full set tick lies busy start frames controls (Continue (suc block)) (Some (suc rest)) some pause by begun early left boxed lets so =
    frame-waits full set tick (suc block) lies busy start frames controls some by begun early boxed (subst (λ (l : Option ℕ). IsBlockOn busy.since tick (suc block) l frames) (sym left) (wider busy.since busy.since tick (suc block) (Some (suc rest)) frames by lets.0), lets.1)
waits-after full set tick lies busy start frames controls Wait None some pause by begun early left boxed lets so = let clash : None ≡ Some 0 = lets in absurd cc
waits-after full set tick lies busy start frames controls Wait (Some (suc rest)) some pause by begun early left boxed lets so = let clash : Some (suc rest) ≡ Some 0 = lets in absurd cc
waits-after full set tick lies busy start frames controls Wait (Some zero) some pause by begun early left boxed lets so =
    let one : waits_in tick frames (record { tick = tick; kind = Wait } ∷ controls) ≡ 1 + waits_in tick frames controls = waits-one tick frames controls early in
    let on : waits_in (tick + 1) frames (record { tick = tick; kind = Wait } ∷ controls) ≡ waits_in tick frames (record { tick = tick; kind = Wait } ∷ controls) = waits-on tick (tick + 1) frames (record { tick = tick; kind = Wait } ∷ controls) (omega arith) early in
    record { earlier = controls; newest = refl; left_is = left; few = omega (arith, on, one, so.0); many = omega (arith, on, one, so.1); lies_is = refl; in_time = omega (arith, pause) }
waits-after full set tick lies busy start frames controls Refuse left some pause by begun early is boxed lets so = absurd lets

-- the flow control leaves
pub record HasGone (full : ℕ → Bool) (set : RxSet) (tick : ℕ) (lies : Option Meaning) (busy : Reception) (attempt : Cut Seen) (controls : List ControlLeft) : Type 0 where
  pub kind : ControlKind
  pub lies_is : lies ≡ Some (control_of set kind)
  pub going : IsGoing full set (tick + 1) (tick + 1) None (awaiting busy tick) attempt (record { tick = tick; kind = kind } ∷ controls)

pub leaves : (full : ℕ → Bool) (set : RxSet) (tick : ℕ) (lies : Option Meaning) (busy : Reception) (attempt : Cut Seen) (controls : List ControlLeft) → 1 ≤ set.n_cr → 1 ≤ set.n_br → busy.wait ≡ Box → IsGoing full set tick (tick + 1) lies busy attempt controls → HasGone full set tick lies busy attempt controls
leaves full set tick lies busy attempt controls some pause box so =
    let boxed : IsBoxed full set tick (tick + 1) lies busy so.frames controls = subst (WaitsFor full set tick (tick + 1) lies busy so.start so.frames controls) box so.waits_for in
    let early : ComeBy tick so.frames = so.under.early in
    let may : MayFollow full set so.frames controls tick = rw (← append-nil so.frames) (follow-later full set so.frames [] controls busy.since tick boxed.by boxed.may) in
    record {
      kind = boxed.kind;
      lies_is = boxed.lies_is;
      going = record {
        start = so.start;
        frames = so.frames;
        under = record {
          pieces = so.under.pieces;
          begin = so.under.begin;
          by = omega (arith, so.under.by);
          early = all-weaker (λ (p : Piece). p.at ≤ tick) (λ (p : Piece). p.at ≤ tick + 1) so.frames (λ p by. omega (arith, by)) early;
          answers = answers-left full set so.frames busy.begin tick boxed.kind controls so.under.by boxed.of may (few set tick busy.waits boxed.kind so.frames controls early so.under.waits boxed.waits) (not-owed set tick boxed.kind so.frames pause early) (not-late set tick boxed.kind so.frames some)
              so.under.answers;
          waits = so.under.waits;
        };
        waits_for = waits-after full set tick lies busy so.start so.frames controls boxed.kind busy.left some pause boxed.by (omega (arith, so.under.begin, so.under.by)) early refl boxed boxed.lets boxed.waits;
      };
    }
