-- The law of receptions, where a bus is said to be full in more ticks.
use Rattle.std.proofs.Common.{◌≡◌, ℕ, ◌+◌, Bool, true, List, [], ◌∷◌, drop}
use Rattle.gw_base.proofs.Lists.{zip-weaker}
use Rattle.hub_core.specs.declared.record.RxLimit.TheVariants.{Box as BoxLimit, Cf as CfLimit}
use Rattle.hub_core.specs.declared.record.RxWait.{RxWait}
use Rattle.hub_core.specs.declared.record.RxWait.TheVariants.{Box, Room, Cf}
use Rattle.hub_core.specs.declared.record.SessionResult.{SessionResult}
use Rattle.hub_core.specs.declared.record.SessionResult.TheVariants.{Whole, Overflow, WrongSn, RxTimeout, Restarted, NoRoom, WaitOver, NoReaders, Cancelled, RunEnd}
use Rattle.tp_attempts.specs.Attempts.{attempts_in}
use Rattle.tp_attempts.specs.Cuts.{Cut}
use Rattle.tp_attempts.specs.Seen.{Seen}
use Rattle.tp_attempts.specs.Walk.{Piece}
use Rattle.tp_receiver.specs.declared.set.RxSet.{RxSet}
use Rattle.receiver_law.specs.Channel.{SourceChannel}
use Rattle.receiver_law.specs.FlowControls.{AreAnswers, FollowOneAnother, IsFullFrom, IsOver, MayFollow, IsSpent, LetsNoneCome}
use Rattle.receiver_law.specs.ReceptionCauses.{HasCause, IsReception, LiesSince, ReceptionLaw, StillWaits}
use Rattle.receiver_law.specs.Receptions.{ControlKind, Continue, ControlLeft, Received, Refuse, Wait}

module _ (full other : ℕ → Bool) (more : (tick : ℕ) → full tick ≡ true → other tick ≡ true) where
  full-from : (from to : ℕ) → IsFullFrom full from to → IsFullFrom other from to
  full-from from to so tick above below = more tick (so tick above below)

  over : (set : RxSet) (frames : List Piece) (left : ℕ) (kind : ControlKind) (tick : ℕ) → IsOver full set frames left kind tick → IsOver other set frames left kind tick
  over set frames left (Continue block) tick so = (so.0, record { from = so.1.from; by = so.1.by; boxed = full-from so.1.from left so.1.boxed; enough = so.1.enough })
  over set frames left Wait tick so = so
  over set frames left Refuse tick so = so

  spent : (frames : List Piece) (left : ℕ) (kind : ControlKind) (tick : ℕ) → IsSpent full frames left kind tick → IsSpent other frames left kind tick
  spent frames left (Continue block) tick so = (so.0, record { from = so.1.from; by = so.1.by; boxed = full-from so.1.from left so.1.boxed; enough = so.1.enough })
  spent frames left Wait tick so = so
  spent frames left Refuse tick so = so

  lets-none : (frames : List Piece) (controls : List ControlLeft) (tick : ℕ) → LetsNoneCome full frames controls tick → LetsNoneCome other frames controls tick
  lets-none frames [] tick so = tt
  lets-none frames (control ∷ earlier) tick so = spent frames control.tick control.kind tick so

  may-follow : (set : RxSet) (frames : List Piece) (controls : List ControlLeft) (tick : ℕ) → MayFollow full set frames controls tick → MayFollow other set frames controls tick
  may-follow set frames [] tick so = tt
  may-follow set frames (control ∷ earlier) tick so = over set frames control.tick control.kind tick so

  follow : (set : RxSet) (frames : List Piece) (controls : List ControlLeft) → FollowOneAnother full set frames controls → FollowOneAnother other set frames controls
  follow set frames [] so = tt
  follow set frames (control ∷ earlier) so = (may-follow set frames earlier control.tick so.0, follow set frames earlier so.1)

  answers : (set : RxSet) (frames : List Piece) (begin end : ℕ) (controls : List ControlLeft) → AreAnswers full set frames begin end controls → AreAnswers other set frames begin end controls
  answers set frames begin end controls so = record {
    kinds = so.kinds;
    within = so.within;
    follow = follow set frames controls so.follow;
    waits = so.waits;
    owed = λ tick from below is. more tick (so.owed tick from below is);
    in_time = λ tick from below is. more tick (so.in_time tick from below is);
  }

  lies : (begin since to : ℕ) (controls : List ControlLeft) → LiesSince full begin since to controls → LiesSince other begin since to controls
  lies begin since to controls so = record { from = so.from; kept = full-from since to so.kept; none_later = so.none_later }

  waits : (set : RxSet) (last : ℕ) (attempt : Cut Seen) (one : Received) (since : ℕ) (wait : RxWait) → StillWaits full set last attempt one since wait → StillWaits other set last attempt one since wait
  waits set last attempt one since Box so = (lies one.told.begin.0 since (last + 1) one.controls so.0, so.1)
  waits set last attempt one since Room so = so
  waits set last attempt one since Cf so = so

  cause : (r : SourceChannel) (attempt : Cut Seen) (one : Received) (result : SessionResult) → HasCause full r attempt one result → HasCause other r attempt one result
  cause r attempt one Whole so = so
  cause r attempt one (Overflow change free need) so = so
  cause r attempt one (WrongSn want got) so = so
  cause r attempt one (RxTimeout BoxLimit) so = record { since = so.since; limit = so.limit; lies = lies one.told.begin.0 so.since one.told.end.0 one.controls so.lies }
  cause r attempt one (RxTimeout CfLimit) so = so
  cause r attempt one Restarted so = so
  cause r attempt one (NoRoom room need) so = record { piece = so.piece; next = so.next; need_is = so.need_is; little = so.little; none = lets-none (drop 1 so.next.put) one.controls one.told.end.0 so.none }
  cause r attempt one WaitOver so = so
  cause r attempt one NoReaders so = so
  cause r attempt one Cancelled so = so
  cause r attempt one (RunEnd wait since) so = (so.0, so.1, waits r.rx r.last attempt one since.0 wait so.2)

  reception : (r : SourceChannel) (attempt : Cut Seen) (one : Received) → IsReception full r attempt one → IsReception other r attempt one
  reception r attempt one so = record {
    answered = record {
      start = so.answered.start;
      none = so.answered.none;
      session = λ first opened. answers r.rx _ one.told.begin.0 _ one.controls (so.answered.session first opened);
      refusal = λ first refused. let is = so.answered.refusal first refused in record { kinds = is.kinds; within = is.within; once = is.once; owed = λ tick from to by none gone. more tick (is.owed tick from to by none gone) };
    };
    caused = cause r attempt one one.told.result so.caused;
  }

  pub law-fuller : (r : SourceChannel) → ReceptionLaw full r → ReceptionLaw other r
  law-fuller r law = record {
    receptions = law.receptions;
    are = zip-weaker (IsReception full r) (IsReception other r) (attempts_in r.rx.functional r.seen) law.receptions (λ attempt one is. reception r attempt one is) law.are;
    sessions = law.sessions;
    controls = law.controls;
  }
