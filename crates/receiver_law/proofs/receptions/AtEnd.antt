-- The receptions of a whole run: those that were over, and the one that the run's end ends.
use Rattle.std.proofs.Common.{◌≡◌, inl, inr, ℕ, ◌+◌, ◌<◌, ◌≤◌, zero, suc, max, Bool, drop, Option, Some, List, [], ◌∷◌, ◌++◌, map, reverse, refl, ap, sym, ◌∙◌, subst, arith, append-nil}
use Rattle.std.specs.Prelude.{slice_get}
use Rattle.std.specs.List.{AllZip}
use Rattle.std.proofs.lemmas.Grind.{flat_map-append}
use Rattle.std.proofs.lemmas.List.{map-append}
use Rattle.gw_base.proofs.Lists.{zip-push, zip-weaker}
use Rattle.hub_core.specs.declared.record.RxLimit.TheVariants.{Box as BoxLimit, Cf as CfLimit}
use Rattle.hub_core.specs.declared.record.RxWait.{RxWait}
use Rattle.hub_core.specs.declared.record.RxWait.TheVariants.{Box, Room, Cf}
use Rattle.hub_core.specs.declared.record.SessionRecord.{SessionRecord}
use Rattle.hub_core.specs.declared.record.SessionResult.{SessionResult}
use Rattle.hub_core.specs.declared.record.SessionResult.TheVariants.{Whole, Overflow, WrongSn, RxTimeout, Restarted, NoRoom, WaitOver, NoReaders, Cancelled, RunEnd}
use Rattle.tp_attempts.specs.Attempts.{attempts_in}
use Rattle.tp_attempts.specs.Cuts.{Cut}
use Rattle.tp_attempts.specs.Seen.{Seen}
use Rattle.tp_attempts.specs.Walk.{Piece, last_place}
use Rattle.tp_receiver.specs.State.{Reception}
use Rattle.tp_receiver.specs.Table.{ended}
use Rattle.tp_unit.specs.Unit.{Meaning}
use Rattle.receiver_law.specs.Channel.{SourceChannel}
use Rattle.receiver_law.specs.FlowControls.{AreAnswers, NoneBegins}
use Rattle.receiver_law.specs.ReceptionCauses.{HasCause, IsReception, ReceptionLaw, StillWaits}
use Rattle.receiver_law.specs.Receptions.{ControlLeft, Received, controls_of, counted, written_as}
use Rattle.receiver_law.specs.Source.{Tells}
use Rattle.receiver_law.proofs.receptions.Counting.{counted-later}
use Rattle.receiver_law.proofs.receptions.Ends.{lets-come, received}
use Rattle.receiver_law.proofs.receptions.Going.{IsGoing, WaitsFor}
use Rattle.receiver_law.proofs.receptions.Settled.{CauseSo, IsSettled, NoneStarts, starts_of}
use Rattle.receiver_law.proofs.receptions.SoFar.{BusySo, IdleSo}

-- the record of the start in a place begins with it
record BeginsThere (records : List SessionRecord) (place tick : ℕ) : Type 0 where
  next : SessionRecord
  is : slice_get records place ≡ Some next
  begins : next.begin.0 ≡ tick

begins-there : (chan address : ℕ) (attempts : List (Cut Seen)) (records : List SessionRecord) (place tick : ℕ) → AllZip (Tells chan address) attempts records → slice_get (starts_of attempts) place ≡ Some tick → BeginsThere records place tick
begins-there chan address [] records place tick tells is = cc
begins-there chan address (attempt ∷ attempts) [] place tick tells is = absurd tells
begins-there chan address (attempt ∷ attempts) (told ∷ records) zero tick tells is = let same : attempt.start.at ≡ tick = cc in record { next = told; is = refl; begins = tells.0.begin ∙ same }
begins-there chan address (attempt ∷ attempts) (told ∷ records) (suc place) tick tells is =
    let there : BeginsThere records place tick = begins-there chan address attempts records place tick tells.1 is in
    record { next = there.next; is = there.is; begins = there.begins }

module _ (full : ℕ → Bool) (r : SourceChannel) (tells : AllZip (Tells r.rx.chan.0 r.rx.a) (attempts_in r.rx.functional r.seen) r.sessions) where
  abbrev starts : List ℕ
  starts = starts_of (attempts_in r.rx.functional r.seen)

  -- one that was over before the run's end
  cause-of : (over : ℕ) (attempt : Cut Seen) (one : Received) (result : SessionResult) → CauseSo full r.rx over starts attempt one result → HasCause full r attempt one result
  cause-of over attempt one Whole so = so.0
  cause-of over attempt one (Overflow change free need) so = tt
  cause-of over attempt one (WrongSn want got) so = tt
  cause-of over attempt one (RxTimeout BoxLimit) so = so
  cause-of over attempt one (RxTimeout CfLimit) so = so.0
  cause-of over attempt one Restarted so =
      let there : BeginsThere r.sessions (one.told.n + 1) one.told.end.0 = begins-there r.rx.chan.0 r.rx.a (attempts_in r.rx.functional r.seen) r.sessions (one.told.n + 1) one.told.end.0 tells so in
      record { next = there.next; is = there.is; begins = there.begins }
  cause-of over attempt one (NoRoom room need) so = so
  cause-of over attempt one WaitOver so = so
  cause-of over attempt one NoReaders so = so
  cause-of over attempt one Cancelled so = so
  cause-of over attempt one (RunEnd wait since) so = absurd so

  none-starts : (n tick : ℕ) → NoneBegins r.sessions n tick → NoneStarts starts n tick
  none-starts n tick none later at above is =
      let there : BeginsThere r.sessions later at = begins-there r.rx.chan.0 r.rx.a (attempts_in r.rx.functional r.seen) r.sessions later at tells is in omega (arith, there.begins, none later there.next above there.is)

  reception-of : (tick over : ℕ) → r.last < tick → (attempt : Cut Seen) (one : Received) → IsSettled full r.rx tick over starts attempt one → IsReception full r attempt one
  reception-of tick over past attempt one so = record {
    answered = record {
      start = so.start;
      none = so.none;
      session = so.session;
      refusal = λ first refused. let is = so.refusal first refused in record {
        kinds = is.kinds;
        within = is.within;
        once = is.once;
        owed = λ at from to by none gone. is.owed at from to (omega (arith, by, past)) (none-starts one.told.n at none) gone;
      };
    };
    caused = cause-of over attempt one one.told.result so.cause;
  }

  -- the receptions of a run that ends while the receiver is idle
  pub law-idle : (tick over : ℕ) (refusing : Option ℕ) (lies : Option Meaning) → r.last < tick → IdleSo full r.rx r.shape tick over refusing lies r.seen r.sessions r.controls → ReceptionLaw full r
  law-idle tick over refusing lies past so = record {
    receptions = so.parts;
    are = zip-weaker (IsSettled full r.rx tick over starts) (IsReception full r) (attempts_in r.rx.functional r.seen) so.parts (λ attempt one is. reception-of tick over past attempt one is) so.told.settled;
    sessions = so.told.records_are;
    controls = so.told.written_are ∙ ap (map (written_as r.rx r.shape)) (append-nil (controls_of so.parts));
  }

  -- what the one that goes on waits for
  still-waits : (busy : Reception) (attempt : Cut Seen) (own : List ControlLeft) (lies : Option Meaning) (wait : RxWait) (so : IsGoing full r.rx (r.last + 1) (r.last + 1) lies busy attempt own) → WaitsFor full r.rx (r.last + 1) (r.last + 1) lies busy so.start so.frames own wait →
      StillWaits full r.rx r.last attempt (received r.rx busy attempt own (RunEnd wait (record { 0 = busy.since })) r.last) busy.since wait
  still-waits busy attempt own lies Box so waits = (record { from = waits.from; kept = waits.kept; none_later = waits.early }, omega (arith, waits.in_time))
  still-waits busy attempt own lies Room so waits = record { earlier = waits.earlier; newest = waits.newest; in_time = omega (arith, waits.in_time) }
  still-waits busy attempt own lies Cf so waits = record {
    left = waits.left;
    block = waits.block;
    earlier = waits.earlier;
    newest = waits.newest;
    lets = elim (lets-come waits.from waits.left waits.block (r.last + 1) busy.left busy.waits so.frames so.under.early waits.lets) [
      | inl all ↦ inl all
      | inr fewer ↦ inr (subst (λ (f : List Piece). counted (waits.left + 1) r.last f < waits.block) (sym (ap (drop 1) so.under.pieces)) (omega (arith, fewer, counted-later (waits.left + 1) r.last (r.last + 1) so.frames (omega arith))))
    ];
    since_is = waits.since_is ∙ ap (max waits.left) (sym (ap (last_place busy.begin) so.under.pieces));
    in_time = omega (arith, waits.in_time);
  }

  -- the receptions of a run that ends while one goes on
  pub law-busy : (refusing : Option ℕ) (lies : Option Meaning) (busy : Reception) (records : List SessionRecord) → r.sessions ≡ records ++ ended r.rx busy (RunEnd busy.wait (record { 0 = busy.since })) r.last ∷ [] → busy.since ≤ r.last →
      BusySo full r.rx r.shape (r.last + 1) (r.last + 1) refusing lies busy r.seen records r.controls → ReceptionLaw full r
  law-busy refusing lies busy records told by so =
      let one : Received = received r.rx busy so.attempt so.own (RunEnd busy.wait (record { 0 = busy.since })) r.last in
      let before = zip-weaker (IsSettled full r.rx (r.last + 1) (r.last + 1) starts) (IsReception full r) so.earlier so.parts (λ attempt part is. reception-of (r.last + 1) (r.last + 1) (omega arith) attempt part is) so.told.settled in
      let last : IsReception full r so.attempt one =
      record {
        answered = record {
          start = refl;
          none = λ other. absurd (other so.first);
          session = λ first opened. subst (λ (f : List Piece). AreAnswers full r.rx f busy.begin (r.last + 1) so.own) (sym (ap (drop 1) so.going.under.pieces)) so.going.under.answers;
          refusal = λ first refused. cc;
        };
        caused = (refl, by, still-waits busy so.attempt so.own lies busy.wait so.going so.going.waits_for);
      } in
      record {
        receptions = so.parts ++ one ∷ [];
        are = subst (λ (a : List (Cut Seen)). AllZip (IsReception full r) a (so.parts ++ one ∷ [])) (sym so.cut) (zip-push (IsReception full r) so.earlier so.parts so.attempt one before last);
        sessions = told ∙ ap (λ (t : List SessionRecord). t ++ one.told ∷ []) so.told.records_are ∙ sym (map-append (λ (p : Received). p.told) so.parts (one ∷ []));
        controls = so.told.written_are ∙ ap (map (written_as r.rx r.shape)) (sym (flat_map-append (λ (p : Received). reverse p.controls) so.parts (one ∷ []) ∙ ap (λ (c : List ControlLeft). controls_of so.parts ++ c) (append-nil (reverse so.own))));
      }
