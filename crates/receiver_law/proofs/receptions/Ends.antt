-- A reception ends, and its record comes of its cause.
use Rattle.hub_core.specs.declared.record.RxWait.{RxWait}
use Rattle.std.proofs.Common.{◌≡◌, ◌⊎◌, inl, inr, suc, zero, ℕ, ◌+◌, ◌<◌, ◌≤◌, Bool, true, false, if◌then◌else◌, drop, Option, Some, List, [], ◌∷◌, ◌++◌, length, refl, ap, sym, ◌∙◌, subst, arith, append-nil, None}
use Rattle.std.specs.List.{AllByRecursion}
use Rattle.gw_base.proofs.Lists.{all-push, all-weaker}
use Rattle.hub_core.specs.declared.record.RxLimit.TheVariants.{Box as BoxLimit}
use Rattle.hub_core.specs.declared.record.RxWait.TheVariants.{Box, Cf, Room}
use Rattle.hub_core.specs.declared.record.SessionResult.{SessionResult}
use Rattle.hub_core.specs.declared.record.SessionResult.TheVariants.{RxTimeout, WaitOver, NoReaders}
use Rattle.tp_attempts.specs.Cuts.{Cut}
use Rattle.tp_attempts.specs.Seen.{Seen}
use Rattle.tp_attempts.specs.Walk.{Piece, joined, walk_of}
use Rattle.tp_receiver.specs.Receptions.{ended}
use Rattle.tp_receiver.specs.State.{Reception}
use Rattle.tp_receiver.specs.declared.set.RxSet.{RxSet}
use Rattle.tp_unit.specs.Unit.{Meaning}
use Rattle.receiver_law.specs.FlowControls.{AreAnswers, IsFirst, IsLate, bound_of, IsOver, IsSpent, LetsNoneCome, MayFollow}
use Rattle.receiver_law.specs.ReceptionCauses.{ArePut, FoundByGrant, IsBoxLate, IsNextIn, IsUnread, IsWaitOver}
use Rattle.receiver_law.specs.Receptions.{Continue, ControlLeft, Received, counted, frames_of, last_by, ControlKind, Wait, Refuse}
use Rattle.receiver_law.specs.Source.{is_overflow, is_run_end}
use Rattle.receiver_law.proofs.receptions.Answers.{answers-more}
use Rattle.receiver_law.proofs.receptions.Counting.{ComeBy, last-newest, counted-later}
use Rattle.receiver_law.proofs.receptions.Frames.{all-left}
use Rattle.receiver_law.proofs.receptions.Going.{IsAsking, IsBoxed, IsForFrame, IsGoing, IsUnder, LetsYet, WaitsFor}
use Rattle.receiver_law.proofs.receptions.Passing.{fewer-came}
use Rattle.receiver_law.proofs.receptions.Settled.{CauseSo, IsSettled}

-- what is told of it
abbrev pub received : RxSet → Reception → Cut Seen → List ControlLeft → SessionResult → (tick : ℕ) → Received
received set busy attempt controls result tick = record { start = attempt.start; told = ended set busy result tick; controls = controls }

bound-is : (set : RxSet) (busy : Reception) (result : SessionResult) (tick : ℕ) → is_run_end result ≡ false → bound_of (ended set busy result tick) ≡ tick
bound-is set busy result tick other = ap (λ (b : Bool). if b then tick + 1 else tick) other

frames-are : (address : ℕ) (attempt : Cut Seen) (start : Piece) (frames : List Piece) → (walk_of address attempt).pieces ≡ start ∷ frames → frames_of address attempt ≡ frames
frames-are address attempt start frames are = ap (drop 1) are

differ : {b : Bool} → b ≡ false → b ≡ true → ⊥
differ is_not is = cc

-- a reception that a first frame began is over
pub settles : (full : ℕ → Bool) (set : RxSet) (tick over : ℕ) (starts : List ℕ) (busy : Reception) (attempt : Cut Seen) (start : Piece) (frames : List Piece) (controls : List ControlLeft) (result : SessionResult) → is_overflow result ≡ false → is_run_end result ≡ false → tick ≤ over → IsFirst attempt.start.meaning →
    IsUnder full set tick busy attempt start frames controls → CauseSo full set over starts attempt (received set busy attempt controls result tick) result → IsSettled full set tick over starts attempt (received set busy attempt controls result tick)
settles full set tick over starts busy attempt start frames controls result other before le first so cause = record {
  start = refl;
  ended = omega (arith, bound-is set busy result tick before, le);
  none = λ is. absurd (is first);
  session = λ is opened.
      subst (λ (t : ℕ). AreAnswers full set (frames_of set.a attempt) busy.begin t controls) (sym (bound-is set busy result tick before))
      (subst (λ (f : List Piece). AreAnswers full set f busy.begin tick controls) (sym (frames-are set.a attempt start frames so.pieces)) so.answers);
  refusal = λ is refused. absurd (differ other refused);
  cause = cause;
}

-- a frame that is counted by the attempt and not put
pub under-found : (full : ℕ → Bool) (set : RxSet) (tick : ℕ) (busy : Reception) (attempt next : Cut Seen) (start piece : Piece) (frames : List Piece) (controls : List ControlLeft) → piece.at ≡ tick → (walk_of set.a next).pieces ≡ (walk_of set.a attempt).pieces ++ piece ∷ [] →
    IsUnder full set tick busy attempt start frames controls → IsUnder full set tick busy next start (frames ++ piece ∷ []) controls
under-found full set tick busy attempt next start piece frames controls at is so = record {
  pieces = is ∙ ap (λ (p : List Piece). p ++ piece ∷ []) so.pieces;
  begin = so.begin;
  by = so.by;
  early = all-push (λ (p : Piece). p.at ≤ tick) frames piece so.early (omega (arith, at));
  answers = answers-more full set frames (piece ∷ []) busy.begin tick controls (omega (arith, at), tt) so.answers;
  waits = so.waits;
}

-- a frame that is passed over, or whose number is wrong
pub under-same : (full : ℕ → Bool) (set : RxSet) (tick : ℕ) (busy : Reception) (attempt next : Cut Seen) (start : Piece) (frames : List Piece) (controls : List ControlLeft) → (walk_of set.a next).pieces ≡ (walk_of set.a attempt).pieces → IsUnder full set tick busy attempt start frames controls →
    IsUnder full set tick busy next start frames controls
under-same full set tick busy attempt next start frames controls is so = record { pieces = is ∙ so.pieces; begin = so.begin; by = so.by; early = so.early; answers = so.answers; waits = so.waits }

pub going-same : (full : ℕ → Bool) (set : RxSet) (tick over : ℕ) (lies : Option Meaning) (busy : Reception) (attempt next : Cut Seen) (controls : List ControlLeft) → (walk_of set.a next).pieces ≡ (walk_of set.a attempt).pieces → IsGoing full set tick over lies busy attempt controls →
    IsGoing full set tick over lies busy next controls
going-same full set tick over lies busy attempt next controls is so = record { start = so.start; frames = so.frames; under = under-same full set tick busy attempt next so.start so.frames controls is so.under; waits_for = so.waits_for }

-- the next frame finds too little room, or that no destination reads
abbrev pub next-in : (pieces : List Piece) (bytes tick : ℕ) (piece : Piece) (all : List Piece) → all ≡ pieces ++ piece ∷ [] → bytes ≡ length (joined pieces) → piece.at ≡ tick → IsNextIn all bytes tick piece
next-in pieces bytes tick piece all are sum at = record { put = pieces; rest = []; are = are; sum = sum; at = at }

-- where no frame is let come of a reception in progress, none of its flow controls does
spent-later : (full : ℕ → Bool) (set : RxSet) (frames : List Piece) (left : ℕ) (kind : ControlKind) (tick later : ℕ) → tick ≤ later → IsOver full set frames left kind tick → IsSpent full frames left kind later
spent-later full set frames left (Continue block) tick later le is = (is.0, record { from = is.1.from; by = is.1.by; boxed = is.1.boxed; enough = omega (arith, is.1.enough, counted-later is.1.from tick later frames le) })
spent-later full set frames left Wait tick later le is = tt
spent-later full set frames left Refuse tick later le is = is

none-later : (full : ℕ → Bool) (set : RxSet) (frames : List Piece) (controls : List ControlLeft) (tick later : ℕ) → tick ≤ later → MayFollow full set frames controls tick → LetsNoneCome full frames controls later
none-later full set frames [] tick later le is = tt
none-later full set frames (control ∷ earlier) tick later le is = spent-later full set frames control.tick control.kind tick later le is

not-yet : (from by waits : ℕ) (kind : ControlKind) (left : Option ℕ) (frames : List Piece) → left ≡ Some 0 → LetsYet from by kind left waits frames → kind ≡ Wait
not-yet from by waits (Continue zero) left frames is lets = let clash : None ≡ Some 0 = sym lets.0 ∙ is in cc
not-yet from by waits (Continue (suc block)) left frames is lets = let both : Some lets.0.rest ≡ Some 0 = sym lets.0.left_is ∙ is in let none : lets.0.rest ≡ 0 = cc in absurd (omega (arith, none, lets.0.some))
not-yet from by waits Wait left frames is lets = refl
not-yet from by waits Refuse left frames is lets = absurd lets

pub lets-none : (full : ℕ → Bool) (set : RxSet) (tick due : ℕ) (lies : Option Meaning) (busy : Reception) (attempt : Cut Seen) (controls : List ControlLeft) → busy.left ≡ Some 0 → (so : IsGoing full set tick due lies busy attempt controls) → LetsNoneCome full so.frames controls tick
lets-none full set tick due lies busy attempt controls none so = of busy.wait so.waits_for
  where
    of : (wait : RxWait) → WaitsFor full set tick due lies busy so.start so.frames controls wait → LetsNoneCome full so.frames controls tick
    of Box waits = none-later full set so.frames controls busy.since tick waits.by waits.may
    of Room waits = subst (λ (c : List ControlLeft). LetsNoneCome full so.frames c tick) (sym waits.newest) tt
    of Cf waits = let clash : Continue waits.block ≡ Wait = not-yet waits.from waits.left busy.waits (Continue waits.block) busy.left so.frames none waits.lets in absurd cc

-- a flow control that is asked for finds that no destination reads, or that too many asked to wait
asked-put : (set : RxSet) (attempt : Cut Seen) (busy : Reception) (start : Piece) (frames : List Piece) → (walk_of set.a attempt).pieces ≡ start ∷ frames → busy.bytes ≡ length (joined (walk_of set.a attempt).pieces) → ArePut (walk_of set.a attempt).pieces busy.bytes (start ∷ frames)
asked-put set attempt busy start frames are sum = record { rest = []; are = are ∙ sym (append-nil (start ∷ frames)); sum = sum ∙ ap (λ (p : List Piece). length (joined p)) are }

pub asked-unread : (full : ℕ → Bool) (set : RxSet) (tick : ℕ) (busy : Reception) (attempt : Cut Seen) (controls : List ControlLeft) → busy.bytes ≡ length (joined (walk_of set.a attempt).pieces) → IsAsking full set tick busy attempt controls → IsUnread set attempt (received set busy attempt controls NoReaders tick)
asked-unread full set tick busy attempt controls sum so = FoundByGrant (so.start ∷ so.frames) (asked-put set attempt busy so.start so.frames so.under.pieces sum) so.asked

pub asked-over : (full : ℕ → Bool) (set : RxSet) (tick : ℕ) (busy : Reception) (attempt : Cut Seen) (controls : List ControlLeft) → busy.bytes ≡ length (joined (walk_of set.a attempt).pieces) → set.wft_max ≤ busy.waits → IsAsking full set tick busy attempt controls →
    IsWaitOver set attempt (received set busy attempt controls WaitOver tick)
asked-over full set tick busy attempt controls sum most so = record {
  put = so.start ∷ so.frames;
  are_put = asked-put set attempt busy so.start so.frames so.under.pieces sum;
  many = omega (arith, most, so.many);
  asked = so.asked;
}

-- its flow control lay in the box for too long
pub box-late : (full : ℕ → Bool) (set : RxSet) (tick : ℕ) (lies : Option Meaning) (busy : Reception) (attempt : Cut Seen) (controls : List ControlLeft) → busy.wait ≡ Box → busy.since + set.n_ar ≤ tick → IsGoing full set tick tick lies busy attempt controls →
    IsBoxLate full set (received set busy attempt controls (RxTimeout BoxLimit) tick)
box-late full set tick lies busy attempt controls box late so =
    let boxed : IsBoxed full set tick tick lies busy so.frames controls = subst (WaitsFor full set tick tick lies busy so.start so.frames controls) box so.waits_for in
    record { since = busy.since; limit = omega (arith, late, boxed.in_time); lies = record { from = boxed.from; kept = boxed.kept; none_later = boxed.early } }

all-late : (limit since tick : ℕ) (frames : List Piece) → since + limit ≤ tick → ComeBy since frames → AllByRecursion (λ (piece : Piece). piece.at ≤ tick → piece.at + limit ≤ tick) frames
all-late limit since tick frames late all = all-weaker (λ (piece : Piece). piece.at ≤ since) (λ (piece : Piece). piece.at ≤ tick → piece.at + limit ≤ tick) frames (λ piece by early. omega (arith, by, late)) all

-- a frame is let come yet
pub lets-come : (from left block tick : ℕ) (on_left : Option ℕ) (waits : ℕ) (frames : List Piece) → ComeBy tick frames → LetsYet from left (Continue block) on_left waits frames → (block ≡ 0) ⊎ (counted (left + 1) tick frames < block)
lets-come from left zero tick on_left waits frames early lets = inl refl
lets-come from left (suc block) tick on_left waits frames early lets = inr (fewer-came from left (suc block) tick on_left frames early lets.0)

-- a consecutive frame is late
pub frame-late : (full : ℕ → Bool) (set : RxSet) (tick : ℕ) (lies : Option Meaning) (busy : Reception) (attempt : Cut Seen) (controls : List ControlLeft) → busy.wait ≡ Cf → busy.since + set.n_cr ≤ tick → IsGoing full set tick tick lies busy attempt controls → IsLate set (frames_of set.a attempt) (last_by tick controls) tick
frame-late full set tick lies busy attempt controls cf late so =
    let awaits : IsForFrame full set tick tick lies busy so.start so.frames controls = subst (WaitsFor full set tick tick lies busy so.start so.frames controls) cf so.waits_for in
    let newest : ControlLeft = record { tick = awaits.left; kind = Continue awaits.block } in
    let below : awaits.left < tick = (subst (AllByRecursion (λ (control : ControlLeft). control.tick < tick)) awaits.newest (all-left full set so.frames busy.begin tick controls so.under.answers)).0 in
    let last : last_by tick controls ≡ Some newest = ap (last_by tick) awaits.newest ∙ last-newest tick newest awaits.earlier (omega (arith, below)) in
    subst (λ (f : List Piece). IsLate set f (last_by tick controls) tick) (sym (frames-are set.a attempt so.start so.frames so.under.pieces))
    (subst (λ (c : Option ControlLeft). IsLate set so.frames c tick) (sym last) (record {
      limit = omega (arith, late, awaits.since_is);
      lets = lets-come awaits.from awaits.left awaits.block tick busy.left busy.waits so.frames so.under.early awaits.lets;
      silent = all-late set.n_cr busy.since tick so.frames late awaits.up_to;
    }))
