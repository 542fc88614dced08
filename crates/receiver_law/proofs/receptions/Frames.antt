-- A frame that counts, in a reception in progress: it goes on, or a further flow control is asked for.
use Rattle.std.proofs.Common.{◌≡◌, ◌≢◌, ℕ, ◌+◌, ◌-◌, ◌<◌, ◌≤◌, suc, zero, Bool, Option, Some, None, List, [], ◌∷◌, ◌++◌, length, max, refl, ap, sym, ◌∙◌, subst, arith, append_assoc}
use Rattle.std.specs.List.{AllByRecursion}
use Rattle.std.proofs.lemmas.List.{length-append}
use Rattle.gw_base.proofs.Lists.{all-push, all-weaker}
use Rattle.hub_core.specs.declared.record.RxWait.{RxWait}
use Rattle.hub_core.specs.declared.record.RxWait.TheVariants.{Box, Room, Cf}
use Rattle.tp_attempts.specs.Cuts.{Cut}
use Rattle.tp_attempts.specs.Seen.{Seen}
use Rattle.tp_attempts.specs.Walk.{Piece, last_place, walk_of}
use Rattle.tp_attempts.proofs.Walks.{last_place-more}
use Rattle.tp_receiver.specs.Receptions.{gone_on, one_less}
use Rattle.tp_receiver.specs.State.{Reception}
use Rattle.tp_receiver.specs.declared.set.RxSet.{RxSet}
use Rattle.tp_unit.specs.Unit.{Meaning}
use Rattle.receiver_law.specs.FlowControls.{AreAnswers, HaveCome, IsFullFrom, MayFollow}
use Rattle.receiver_law.specs.ReceptionCauses.{AfterFrame}
use Rattle.receiver_law.specs.Receptions.{ControlKind, Continue, ControlLeft, Refuse, Wait, counted, waits_in}
use Rattle.receiver_law.proofs.receptions.Answers.{answers-more, follow-later}
use Rattle.receiver_law.proofs.receptions.Counting.{ComeBy, counted-all, counted-append, waits-end}
use Rattle.receiver_law.proofs.receptions.Going.{IsAsking, IsBlockOn, IsGoing, IsUnder, LetsYet, WaitsFor, WaitsSo}

-- one frame of a block more, which isn't the last one
block-on : (from by block tick : ℕ) (left : Option ℕ) (frames : List Piece) (piece : Piece) → piece.at ≡ tick → from ≤ tick → left ≢ Some 1 → IsBlockOn from by block left frames → IsBlockOn from by block (one_less left) (frames ++ piece ∷ [])
block-on from by block tick left frames piece at le other on =
    let not_one : on.rest ≢ 1 = λ is. other (on.left_is ∙ ap Some is) in
    record {
      rest = on.rest - 1;
      left_is = ap one_less on.left_is;
      some = more on.rest on.some not_one;
      before = on.before;
      after = on.after ++ piece ∷ [];
      are = ap (λ (f : List Piece). f ++ piece ∷ []) on.are ∙ append_assoc on.before on.after (piece ∷ []);
      early = on.early;
      late = all-push (λ (p : Piece). from ≤ p.at) on.after piece on.late (omega (arith, at, le));
      sum = omega (arith, on.sum, on.some, length-append on.after (piece ∷ []));
    }
  where
    more : (rest : ℕ) → 0 < rest → rest ≢ 1 → 0 < rest - 1
    more zero some other = omega (arith, some)
    more (suc zero) some other = absurd (other refl)
    more (suc (suc rest)) some other = omega arith

lets-on : (from by tick waits : ℕ) (kind : ControlKind) (left : Option ℕ) (frames : List Piece) (piece : Piece) → piece.at ≡ tick → from ≤ tick → left ≢ Some 1 → LetsYet from by kind left waits frames → LetsYet from by kind (one_less left) 0 (frames ++ piece ∷ [])
lets-on from by tick waits (Continue zero) left frames piece at le other lets = (ap one_less lets.0, refl)
lets-on from by tick waits (Continue (suc block)) left frames piece at le other lets = (block-on from by (suc block) tick left frames piece at le other lets.0, refl)
lets-on from by tick waits Wait left frames piece at le other lets = ap one_less lets
lets-on from by tick waits Refuse left frames piece at le other lets = absurd lets

waits-so : (kind : ControlKind) (now : ℕ) → now ≡ 0 → WaitsSo kind 0 now
waits-so (Continue block) now none = tt
waits-so Wait now none = (omega (arith, none), omega arith)
waits-so Refuse now none = tt

-- what is so of a reception, with a frame more
pub under-more : (full : ℕ → Bool) (set : RxSet) (tick more : ℕ) (busy : Reception) (attempt next : Cut Seen) (start piece : Piece) (frames : List Piece) (controls : List ControlLeft) → piece.at ≡ tick → (walk_of set.a next).pieces ≡ (walk_of set.a attempt).pieces ++ piece ∷ [] →
    IsUnder full set tick busy attempt start frames controls → IsUnder full set tick (gone_on busy more tick) next start (frames ++ piece ∷ []) controls
under-more full set tick more busy attempt next start piece frames controls at is so = record {
  pieces = is ∙ ap (λ (p : List Piece). p ++ piece ∷ []) so.pieces;
  begin = so.begin;
  by = so.by;
  early = all-push (λ (p : Piece). p.at ≤ tick) frames piece so.early (omega (arith, at));
  answers = answers-more full set frames (piece ∷ []) busy.begin tick controls (omega (arith, at), tt) so.answers;
  waits = omega arith;
}

pub all-left : (full : ℕ → Bool) (set : RxSet) (frames : List Piece) (begin tick : ℕ) (controls : List ControlLeft) → AreAnswers full set frames begin tick controls → AllByRecursion (λ (control : ControlLeft). control.tick < tick) controls
all-left full set frames begin tick controls are = all-weaker (λ (control : ControlLeft). (begin ≤ control.tick) × (control.tick < tick)) (λ (control : ControlLeft). control.tick < tick) controls (λ control is. is.1) are.within

max-last : (left tick at : ℕ) → left < tick → at ≡ tick → tick ≡ max left at
max-last left tick at below is = omega (arith, below, is)

waits-for-more : (full : ℕ → Bool) (set : RxSet) (tick more : ℕ) (lies : Option Meaning) (busy : Reception) (start piece : Piece) (frames : List Piece) (controls : List ControlLeft) (wait : RxWait) → busy.wait ≡ wait → piece.at ≡ tick → 1 ≤ set.n_cr → busy.left ≢ Some 1 →
    ComeBy tick frames → AllByRecursion (λ (control : ControlLeft). control.tick < tick) controls → WaitsFor full set tick tick lies busy start frames controls wait → WaitsFor full set tick tick lies (gone_on busy more tick) start (frames ++ piece ∷ []) controls wait
waits-for-more full set tick more lies busy start piece frames controls Box is at some other early all so =
    let none : waits_in tick (frames ++ piece ∷ []) controls ≡ 0 = waits-end tick frames piece controls at all in
    rw is (record {
      kind = so.kind;
      lies_is = so.lies_is;
      of = so.of;
      lets = lets-on busy.since busy.since tick busy.waits so.kind busy.left frames piece at so.by other so.lets;
      kept = so.kept;
      from = so.from;
      by = so.by;
      early = so.early;
      may = follow-later full set frames (piece ∷ []) controls busy.since busy.since (omega arith) so.may;
      waits = waits-so so.kind (waits_in tick (frames ++ piece ∷ []) controls) none;
      in_time = so.in_time;
    })
waits-for-more full set tick more lies busy start piece frames controls Room is at some other early all so =
    let none : waits_in tick (frames ++ piece ∷ []) controls ≡ 0 = waits-end tick frames piece controls at all in
    rw is (record {
      earlier = so.earlier;
      newest = so.newest;
      left_is = ap one_less so.left_is;
      few = omega (arith, none);
      many = omega arith;
      lies_is = so.lies_is;
      in_time = so.in_time;
    })
waits-for-more full set tick more lies busy start piece frames controls Cf is at some other early all so =
    let below : so.left < tick = (subst (AllByRecursion (λ (control : ControlLeft). control.tick < tick)) so.newest all).0 in
    rw is (record {
      left = so.left;
      block = so.block;
      earlier = so.earlier;
      newest = so.newest;
      from = so.from;
      from_by = so.from_by;
      kept = so.kept;
      lets = lets-on so.from so.left tick busy.waits (Continue so.block) busy.left frames piece at (omega (arith, so.from_by, below)) other so.lets;
      lies_is = so.lies_is;
      since_is = max-last so.left tick (last_place start.at (frames ++ piece ∷ [])) below (last_place-more start.at frames piece ∙ at);
      up_to = all-push (λ (p : Piece). p.at ≤ tick) frames piece early (omega (arith, at));
      in_time = omega (arith, some);
    })

-- a frame that isn't the last one of its block
pub going-more : (full : ℕ → Bool) (set : RxSet) (tick more : ℕ) (lies : Option Meaning) (busy : Reception) (attempt next : Cut Seen) (piece : Piece) (controls : List ControlLeft) → piece.at ≡ tick → 1 ≤ set.n_cr → busy.left ≢ Some 1 →
    (walk_of set.a next).pieces ≡ (walk_of set.a attempt).pieces ++ piece ∷ [] → IsGoing full set tick tick lies busy attempt controls → IsGoing full set tick tick lies (gone_on busy more tick) next controls
going-more full set tick more lies busy attempt next piece controls at some other is so = record {
  start = so.start;
  frames = so.frames ++ piece ∷ [];
  under = under-more full set tick more busy attempt next so.start piece so.frames controls at is so.under;
  waits_for = waits-for-more full set tick more lies busy so.start piece so.frames controls busy.wait refl at some other so.under.early (all-left full set so.frames busy.begin tick controls so.under.answers) so.waits_for;
}

-- the last frame of a block
block-over : (full : ℕ → Bool) (from by block left tick : ℕ) (frames : List Piece) (piece : Piece) → piece.at ≡ tick → from ≤ by → by ≤ tick → IsFullFrom full from by → ComeBy tick frames → IsBlockOn from by block (Some 1) frames → HaveCome full (frames ++ piece ∷ []) block by tick
block-over full from by block left tick frames piece at from_by by_now kept early on = record {
  from = from;
  by = from_by;
  boxed = kept;
  enough =
      let one : on.rest ≡ 1 = cc in
      let now : ComeBy tick (on.before ++ on.after) = subst (ComeBy tick) on.are early in
      let after : counted from tick (on.after ++ piece ∷ []) ≡ length (on.after ++ piece ∷ []) = counted-all from tick (on.after ++ piece ∷ []) (all-push (λ (p : Piece). from ≤ p.at) on.after piece on.late (omega (arith, at, from_by, by_now))) (all-push (λ (p : Piece). p.at ≤ tick) on.after piece (all-back on.before on.after now) (omega (arith, at))) in
      let all : counted from tick (frames ++ piece ∷ []) ≡ counted from tick on.before + counted from tick (on.after ++ piece ∷ []) = ap (λ (f : List Piece). counted from tick (f ++ piece ∷ [])) on.are ∙ ap (counted from tick) (append_assoc on.before on.after (piece ∷ [])) ∙ counted-append from tick on.before (on.after ++ piece ∷ []) in
      omega (arith, on.sum, one, all, after, length-append on.after (piece ∷ []));
}
  where
    all-back : (xs ys : List Piece) → ComeBy tick (xs ++ ys) → ComeBy tick ys
    all-back [] ys all = all
    all-back (x ∷ xs) ys all = all-back xs ys all.1

may-after : (full : ℕ → Bool) (set : RxSet) (tick due : ℕ) (lies : Option Meaning) (busy : Reception) (start piece : Piece) (frames : List Piece) (controls : List ControlLeft) (wait : RxWait) → piece.at ≡ tick → busy.left ≡ Some 1 → ComeBy tick frames →
    AllByRecursion (λ (control : ControlLeft). control.tick < tick) controls → WaitsFor full set tick due lies busy start frames controls wait → MayFollow full set (frames ++ piece ∷ []) controls tick
may-after full set tick due lies busy start piece frames controls Box at one early all so = follow-later full set frames (piece ∷ []) controls busy.since tick so.by so.may
may-after full set tick due lies busy start piece frames controls Room at one early all so = let clash : Some 0 ≡ Some 1 = sym so.left_is ∙ one in cc
may-after full set tick due lies busy start piece frames controls Cf at one early all so =
    let below : so.left < tick = (subst (AllByRecursion (λ (control : ControlLeft). control.tick < tick)) so.newest all).0 in
    subst (λ (c : List ControlLeft). MayFollow full set (frames ++ piece ∷ []) c tick) (sym so.newest) (of so.block (subst (λ (l : Option ℕ). LetsYet so.from so.left (Continue so.block) l busy.waits frames) one so.lets) below)
  where
    of : (block : ℕ) → LetsYet so.from so.left (Continue block) (Some 1) busy.waits frames → so.left < tick → (0 < block) × HaveCome full (frames ++ piece ∷ []) block so.left tick
    of zero lets below = let clash : Some 1 ≡ None = lets.0 in cc
    of (suc block) lets below = (omega arith, block-over full so.from so.left (suc block) so.left tick frames piece at so.from_by (omega (arith, below)) so.kept early lets.0)

pub going-asks : (full : ℕ → Bool) (set : RxSet) (tick more : ℕ) (lies : Option Meaning) (busy : Reception) (attempt next : Cut Seen) (piece : Piece) (controls : List ControlLeft) → piece.at ≡ tick → busy.left ≡ Some 1 →
    (walk_of set.a next).pieces ≡ (walk_of set.a attempt).pieces ++ piece ∷ [] → IsGoing full set tick tick lies busy attempt controls → IsAsking full set tick (gone_on busy more tick) next controls
going-asks full set tick more lies busy attempt next piece controls at one is so =
    let all : AllByRecursion (λ (control : ControlLeft). control.tick < tick) controls = all-left full set so.frames busy.begin tick controls so.under.answers in
    let none : waits_in tick (so.frames ++ piece ∷ []) controls ≡ 0 = waits-end tick so.frames piece controls at all in
    record {
      start = so.start;
      frames = so.frames ++ piece ∷ [];
      under = under-more full set tick more busy attempt next so.start piece so.frames controls at is so.under;
      may = may-after full set tick tick lies busy so.start piece so.frames controls busy.wait at one so.under.early all so.waits_for;
      few = omega (arith, none);
      many = omega arith;
      asked = AfterFrame (last_place-more so.start.at so.frames piece ∙ at);
    }
