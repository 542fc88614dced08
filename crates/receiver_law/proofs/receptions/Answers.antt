-- The flow controls of a session, as frames come, ticks pass and further ones leave.
use Rattle.std.proofs.Common.{◌≡◌, inl, inr, ℕ, ◌+◌, ◌<◌, ◌≤◌, Bool, true, Option, Some, None, List, [], ◌∷◌, ◌++◌, sym, subst, arith}
use Rattle.std.specs.List.{AllByRecursion}
use Rattle.std.proofs.lemmas.Bool.{cases_lt}
use Rattle.gw_base.proofs.Lists.{all-front, all-weaker}
use Rattle.tp_attempts.specs.Walk.{Piece}
use Rattle.tp_receiver.specs.declared.set.RxSet.{RxSet}
use Rattle.receiver_law.specs.FlowControls.{AreAnswers, FollowOneAnother, IsLate, IsLateIn, IsOfSession, IsOver, IsOwed, IsOwedAfter, MayFollow, WaitsAreFew}
use Rattle.receiver_law.specs.Receptions.{ControlKind, Continue, ControlLeft, Refuse, Wait, last_by, waits_in}
use Rattle.receiver_law.proofs.receptions.Counting.{ComeFrom, counted-append, counted-later, counted-more, last-before, last-now, waits-more}

-- what holds of it holds in later ticks and with more frames
pub over-later : (full : ℕ → Bool) (set : RxSet) (frames more : List Piece) (left : ℕ) (kind : ControlKind) (tick later : ℕ) → tick ≤ later → IsOver full set frames left kind tick → IsOver full set (frames ++ more) left kind later
over-later full set frames more left (Continue block) tick later le is = (
  is.0,
  record {
    from = is.1.from;
    by = is.1.by;
    boxed = is.1.boxed;
    enough = omega (arith, is.1.enough, counted-later is.1.from tick later frames le, counted-append is.1.from later frames more);
  },
)
over-later full set frames more left Wait tick later le is = omega (arith, is, le)
over-later full set frames more left Refuse tick later le is = absurd is

pub follow-later : (full : ℕ → Bool) (set : RxSet) (frames more : List Piece) (controls : List ControlLeft) (tick later : ℕ) → tick ≤ later → MayFollow full set frames controls tick → MayFollow full set (frames ++ more) controls later
follow-later full set frames more [] tick later le is = tt
follow-later full set frames more (control ∷ earlier) tick later le is = over-later full set frames more control.tick control.kind tick later le is

-- frames that come later change nothing of what was so
owed-front : (set : RxSet) (frames more : List Piece) (tick : ℕ) (newest : Option ControlLeft) → ComeFrom (tick + 1) more → IsOwed set (frames ++ more) newest tick → IsOwed set frames newest tick
owed-front set frames more tick None all is = tt
owed-front set frames more tick (Some control) all is = of control.kind is
  where
    of : (kind : ControlKind) → IsOwedAfter set (frames ++ more) control.tick kind tick → IsOwedAfter set frames control.tick kind tick
    of (Continue block) is = (is.0, omega (arith, is.1, counted-more (control.tick + 1) tick frames more all))
    of Wait is = is
    of Refuse is = is

late-front : (set : RxSet) (frames more : List Piece) (tick : ℕ) (newest : Option ControlLeft) → ComeFrom (tick + 1) more → IsLate set (frames ++ more) newest tick → IsLate set frames newest tick
late-front set frames more tick None all is = is
late-front set frames more tick (Some control) all is = of control.kind is
  where
    of : (kind : ControlKind) → IsLateIn set (frames ++ more) control.tick kind tick → IsLateIn set frames control.tick kind tick
    of (Continue block) is = record {
      limit = is.limit;
      lets = elim is.lets [ inl all_frames ↦ inl all_frames | inr fewer ↦ inr (omega (arith, fewer, counted-more (control.tick + 1) tick frames more all)) ];
      silent = all-front (λ (piece : Piece). piece.at ≤ tick → piece.at + set.n_cr ≤ tick) frames more is.silent;
    }
    of Wait is = is
    of Refuse is = is

pub from-later : (from later : ℕ) (frames : List Piece) → from ≤ later → ComeFrom later frames → ComeFrom from frames
from-later from later frames le all = all-weaker (λ (piece : Piece). later ≤ piece.at) (λ (piece : Piece). from ≤ piece.at) frames (λ piece above. omega (arith, above, le)) all

follow-more : (full : ℕ → Bool) (set : RxSet) (frames more : List Piece) (controls : List ControlLeft) → FollowOneAnother full set frames controls → FollowOneAnother full set (frames ++ more) controls
follow-more full set frames more [] is = tt
follow-more full set frames more (control ∷ earlier) is = (follow-later full set frames more earlier control.tick control.tick (omega arith) is.0, follow-more full set frames more earlier is.1)

few-more : (most begin end : ℕ) (frames more : List Piece) (controls : List ControlLeft) → ComeFrom end more → AllByRecursion (λ (control : ControlLeft). (begin ≤ control.tick) × (control.tick < end)) controls → WaitsAreFew most frames controls → WaitsAreFew most (frames ++ more) controls
few-more most begin end frames more [] all within is = tt
few-more most begin end frames more (control ∷ earlier) all within is = (
  omega (arith, is.0, waits-more control.tick frames more (control ∷ earlier) (from-later (control.tick + 1) end more (omega (arith, within.0.1)) all)),
  few-more most begin end frames more earlier all within.1 is.1,
)

pub answers-more : (full : ℕ → Bool) (set : RxSet) (frames more : List Piece) (begin end : ℕ) (controls : List ControlLeft) → ComeFrom end more → AreAnswers full set frames begin end controls → AreAnswers full set (frames ++ more) begin end controls
answers-more full set frames more begin end controls all are = record {
  kinds = are.kinds;
  within = are.within;
  follow = follow-more full set frames more controls are.follow;
  waits = few-more (set.wft_max + 1) begin end frames more controls all are.within are.waits;
  owed = λ tick from below is. are.owed tick from below (owed-front set frames more tick (last_by tick controls) (from-later (tick + 1) end more (omega (arith, below)) all) is);
  in_time = λ tick from below is. are.in_time tick from below (late-front set frames more tick (last_by tick controls) (from-later (tick + 1) end more (omega (arith, below)) all) is);
}

-- none left yet, where the session begins
pub answers-none : (full : ℕ → Bool) (set : RxSet) (frames : List Piece) (begin : ℕ) → AreAnswers full set frames begin begin []
answers-none full set frames begin = record { kinds = tt; within = tt; follow = tt; waits = tt; owed = λ tick from below is. absurd (omega (arith, from, below)); in_time = λ tick from below is. absurd (omega (arith, from, below)) }

-- a tick is over, in which none left
pub answers-on : (full : ℕ → Bool) (set : RxSet) (frames : List Piece) (begin tick : ℕ) (controls : List ControlLeft) → (IsOwed set frames (last_by tick controls) tick → full tick ≡ true) → (IsLate set frames (last_by tick controls) tick → full tick ≡ true) →
    AreAnswers full set frames begin tick controls → AreAnswers full set frames begin (tick + 1) controls
answers-on full set frames begin tick controls owed in_time are = record {
  kinds = are.kinds;
  within = all-weaker (λ (control : ControlLeft). (begin ≤ control.tick) × (control.tick < tick)) (λ (control : ControlLeft). (begin ≤ control.tick) × (control.tick < tick + 1)) controls (λ control is. (is.0, omega (arith, is.1))) are.within;
  follow = are.follow;
  waits = are.waits;
  owed = λ at from below is. elim (cases_lt at tick) [
    | inl before ↦ are.owed at from before is
    | inr after ↦ let same : at ≡ tick = omega (arith, below, after) in subst (λ (t : ℕ). full t ≡ true) (sym same) (owed (subst (λ (t : ℕ). IsOwed set frames (last_by t controls) t) same is))
  ];
  in_time = λ at from below is. elim (cases_lt at tick) [
    | inl before ↦ are.in_time at from before is
    | inr after ↦ let same : at ≡ tick = omega (arith, below, after) in subst (λ (t : ℕ). full t ≡ true) (sym same) (in_time (subst (λ (t : ℕ). IsLate set frames (last_by t controls) t) same is))
  ];
}

-- one leaves in a tick
pub answers-left : (full : ℕ → Bool) (set : RxSet) (frames : List Piece) (begin tick : ℕ) (kind : ControlKind) (controls : List ControlLeft) → begin ≤ tick → IsOfSession set kind → MayFollow full set frames controls tick →
    waits_in tick frames (record { tick = tick; kind = kind } ∷ controls) ≤ set.wft_max + 1 → (IsOwedAfter set frames tick kind tick → ⊥) → (IsLateIn set frames tick kind tick → ⊥) →
    AreAnswers full set frames begin tick controls → AreAnswers full set frames begin (tick + 1) (record { tick = tick; kind = kind } ∷ controls)
answers-left full set frames begin tick kind controls from of may few owed late are =
    let control : ControlLeft = record { tick = tick; kind = kind } in
    record {
      kinds = (of, are.kinds);
      within = ((from, omega arith), all-weaker (λ (c : ControlLeft). (begin ≤ c.tick) × (c.tick < tick)) (λ (c : ControlLeft). (begin ≤ c.tick) × (c.tick < tick + 1)) controls (λ c is. (is.0, omega (arith, is.1))) are.within);
      follow = (may, are.follow);
      waits = (few, are.waits);
      owed = λ at above below is. elim (cases_lt at tick) [
        | inl before ↦ are.owed at above before (subst (λ (c : Option ControlLeft). IsOwed set frames c at) (last-before at control controls before) is)
        | inr after ↦ let same : at ≡ tick = omega (arith, below, after) in absurd (owed (subst (λ (c : Option ControlLeft). IsOwed set frames c tick) (last-now-is tick) (subst (λ (t : ℕ). IsOwed set frames (last_by t (control ∷ controls)) t) same is)))
      ];
      in_time = λ at above below is. elim (cases_lt at tick) [
        | inl before ↦ are.in_time at above before (subst (λ (c : Option ControlLeft). IsLate set frames c at) (last-before at control controls before) is)
        | inr after ↦ let same : at ≡ tick = omega (arith, below, after) in absurd (late (subst (λ (c : Option ControlLeft). IsLate set frames c tick) (last-now-is tick) (subst (λ (t : ℕ). IsLate set frames (last_by t (control ∷ controls)) t) same is)))
      ];
    }
  where
    last-now-is : (at : ℕ) → last_by at (record { tick = at; kind = kind } ∷ controls) ≡ Some (record { tick = at; kind = kind })
    last-now-is at = last-now at kind controls
