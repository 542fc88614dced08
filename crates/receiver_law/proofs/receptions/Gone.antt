-- A flow control leaves the box: it answers the reception in progress, or refuses a message of an earlier start.
use Rattle.std.proofs.Common.{◌≡◌, ℕ, ◌+◌, ◌<◌, ◌≤◌, Bool, true, false, Option, Some, None, List, [], ◌∷◌, ◌++◌, length, map, reverse, refl, ap, sym, ◌∙◌, subst, arith, append-nil, append_assoc}
use Rattle.std.specs.List.{AllByRecursion, AllZip}
use Rattle.std.proofs.lemmas.Grind.{flat_map-append}
use Rattle.std.proofs.lemmas.List.{length-map, map-append, reverse-append}
use Rattle.gw_base.proofs.Lists.{all-weaker, zip-long}
use Rattle.hub_core.specs.declared.record.RxWait.{RxWait}
use Rattle.hub_core.specs.declared.record.RxWait.TheVariants.{Box, Room, Cf}
use Rattle.hub_core.specs.declared.record.SessionRecord.{SessionRecord}
use Rattle.hub_core.specs.declared.record.SessionResult.{SessionResult}
use Rattle.hub_core.specs.declared.record.SessionResult.TheVariants.{Whole, Overflow, WrongSn, RxTimeout, Restarted, NoRoom, WaitOver, NoReaders, Cancelled, RunEnd}
use Rattle.tp_attempts.specs.Attempts.{attempts_in}
use Rattle.tp_attempts.specs.Cuts.{Cut}
use Rattle.tp_attempts.specs.Seen.{Seen}
use Rattle.tp_receiver.specs.Grant.{overflow}
use Rattle.tp_receiver.specs.State.{Reception, RxDid, RxState}
use Rattle.tp_receiver.specs.Table.{FromBox, LeftRow, NotAwaited}
use Rattle.tp_receiver.specs.declared.set.RxSet.{RxSet}
use Rattle.tp_unit.specs.Box.{Written, box_then, written_of}
use Rattle.tp_unit.specs.Unit.{Keeps, Meaning}
use Rattle.tp_unit.specs.declared.shape.Shape.{Shape}
use Rattle.receiver_law.specs.Receptions.{ControlLeft, Received, Refuse, controls_of, control_of, last_by, written_as}
use Rattle.receiver_law.specs.Source.{CountsFrom, is_overflow}
use Rattle.receiver_law.proofs.receptions.Going.{WaitsFor}
use Rattle.receiver_law.proofs.receptions.Leaving.{HasGone, awaiting, leaves}
use Rattle.receiver_law.proofs.receptions.Settled.{CauseSo, IsSettled, RefusalSo, starts_of}
use Rattle.receiver_law.proofs.receptions.SoFar.{AreTold, BusySo, IdleSo, IsQuiet, IsRefusing, IsUnanswered, SoBy, SoFar}
use Rattle.receiver_law.proofs.receptions.Ticks.{last-of, last-split, length-starts, told-on}
use Rattle.receiver_law.proofs.receptions.Timing.{busy-told}

-- one item of a list is changed
zip-change : {A B : Type 0} (P : A → B → Type 0) (xs : List A) (front after : List B) (old new : B) → ((x : A) → P x old → P x new) → AllZip P xs (front ++ old ∷ after) → AllZip P xs (front ++ new ∷ after)
zip-change P [] [] after old new change all = absurd all
zip-change P [] (y ∷ front) after old new change all = absurd all
zip-change P (x ∷ xs) [] after old new change all = (change x all.0, all.1)
zip-change P (x ∷ xs) (y ∷ front) after old new change all = (all.0, zip-change P xs front after old new change all.1)

-- an overflow comes of no cause of the channel's
cause-overflow : (full : ℕ → Bool) (set : RxSet) (over : ℕ) (starts : List ℕ) (attempt : Cut Seen) (one : Received) (result : SessionResult) → is_overflow result ≡ true → CauseSo full set over starts attempt one result
cause-overflow full set over starts attempt one Whole is = cc
cause-overflow full set over starts attempt one (Overflow change free need) is = tt
cause-overflow full set over starts attempt one (WrongSn want got) is = cc
cause-overflow full set over starts attempt one (RxTimeout limit) is = cc
cause-overflow full set over starts attempt one Restarted is = cc
cause-overflow full set over starts attempt one (NoRoom room need) is = cc
cause-overflow full set over starts attempt one WaitOver is = cc
cause-overflow full set over starts attempt one NoReaders is = cc
cause-overflow full set over starts attempt one Cancelled is = cc
cause-overflow full set over starts attempt one (RunEnd wait since) is = cc

module _ (full : ℕ → Bool) (set : RxSet) (shape : Shape) where
  -- the refusal that left in that tick
  abbrev refused_in : (tick : ℕ) → Received → Received
  refused_in tick one = record one { controls = record { tick = tick; kind = Refuse } ∷ [] }

  refused-settled : (tick over : ℕ) (starts : List ℕ) (one : Received) → IsUnanswered one → one.told.begin.0 ≤ tick → tick < one.told.begin.0 + set.n_ar → (attempt : Cut Seen) → IsSettled full set tick over starts attempt one → IsSettled full set tick over starts attempt (refused_in tick one)
  refused-settled tick over starts one unanswered from to attempt so =
      let is : RefusalSo full set tick starts one.told one.controls = so.refusal unanswered.first unanswered.refused in
      record {
        start = so.start;
        ended = so.ended;
        none = λ other. absurd (other unanswered.first);
        session = λ first opened. let clash : true ≡ false = sym unanswered.refused ∙ opened in cc;
        refusal = λ first refused. record {
          kinds = (refl, tt);
          within = ((from, to), tt);
          once = omega arith;
          by = (omega arith, tt);
          owed = λ at above below before none gone. is.owed at above below before none (ap (last_by at) unanswered.none);
        };
        cause = cause-overflow full set over starts attempt (refused_in tick one) one.told.result unanswered.refused;
      }

  quiet-none : (after : List Received) → AllByRecursion IsQuiet after → controls_of after ≡ []
  quiet-none [] all = refl
  quiet-none (one ∷ after) all = rw (all.0.none, quiet-none after all.1) refl

  written-more : (tick : ℕ) (front after : List Received) (one : Received) → one.controls ≡ [] → AllByRecursion IsQuiet after → controls_of (front ++ refused_in tick one ∷ after) ≡ controls_of (front ++ one ∷ after) ++ record { tick = tick; kind = Refuse } ∷ []
  written-more tick front after one none quiet =
      let controls : Received → List ControlLeft = λ p. reverse p.controls in
      let control : ControlLeft = record { tick = tick; kind = Refuse } in
      let empty : controls_of after ≡ [] = quiet-none after quiet in
      let new : controls_of (refused_in tick one ∷ after) ≡ control ∷ [] = ap (λ (c : List ControlLeft). control ∷ c) empty in
      let old : controls_of (one ∷ after) ≡ [] = ap (λ (c : List ControlLeft). reverse c ++ controls_of after) none ∙ empty in
      let before : controls_of (front ++ one ∷ after) ≡ controls_of front = flat_map-append controls front (one ∷ after) ∙ ap (λ (c : List ControlLeft). controls_of front ++ c) old ∙ append-nil (controls_of front) in
      flat_map-append controls front (refused_in tick one ∷ after) ∙ ap (λ (c : List ControlLeft). controls_of front ++ c) new ∙ ap (λ (c : List ControlLeft). c ++ control ∷ []) (sym before)

  told-same : (tick : ℕ) (front after : List Received) (one : Received) → map (λ (p : Received). p.told) (front ++ refused_in tick one ∷ after) ≡ map (λ (p : Received). p.told) (front ++ one ∷ after)
  told-same tick [] after one = refl
  told-same tick (p ∷ front) after one = ap (λ (l : List SessionRecord). p.told ∷ l) (told-same tick front after one)

  -- what is said of the newest start, once the refusal left
  abbrev IsAnsweredOr : Received → Type 0
  IsAnsweredOr one = IsUnanswered one → ⊥

  idle-left : (tick since : ℕ) (meaning : Meaning) (seen : List Seen) (records : List SessionRecord) (written : List Written) → CountsFrom 0 (map (λ (told : SessionRecord). told.n) records) → (so : IdleSo full set shape tick (tick + 1) (Some since) (Some meaning) seen records written) →
      IdleSo full set shape (tick + 1) (tick + 1) None None seen records (written ++ written_of shape tick (Some meaning))
  idle-left tick since meaning seen records written counts so =
      let starts : List ℕ = starts_of (attempts_in set.functional seen) in
      let attempts : List (Cut Seen) = attempts_in set.functional seen in
      let it : IsRefusing set tick (tick + 1) since (Some meaning) so.parts = so.box in
      let parts : List Received = it.front ++ refused_in tick it.one ∷ it.after in
      let control : ControlLeft = record { tick = tick; kind = Refuse } in
      let is : meaning ≡ overflow = let both : Some meaning ≡ Some overflow = it.lies_is in cc in
      let left : AllByRecursion IsAnsweredOr it.after = all-weaker IsQuiet IsAnsweredOr it.after (λ one quiet unanswered. quiet.other unanswered.first unanswered.refused) it.quiet in
      let gone : IsAnsweredOr (refused_in tick it.one) = λ unanswered. let clash : control ∷ [] ≡ [] = unanswered.none in cc in
      let newest : (front : List Received) (one : Received) → parts ≡ front ++ one ∷ [] → IsAnsweredOr one = λ front one are. last-of IsAnsweredOr it.front (refused_in tick it.one) it.after front one are gone left in
      let told : AreTold full set shape tick (tick + 1) starts attempts records (written ++ written_of shape tick (Some meaning)) [] parts =
      record {
        settled = zip-change (IsSettled full set tick (tick + 1) starts) attempts it.front it.after it.one (refused_in tick it.one)
            (λ attempt settled. refused-settled tick (tick + 1) starts it.one it.unanswered (omega (arith, it.begins, it.by)) (omega (arith, it.begins, it.in_time)) attempt settled)
            (subst (λ (p : List Received). AllZip (IsSettled full set tick (tick + 1) starts) attempts p) it.are so.told.settled);
        records_are = so.told.records_are ∙ ap (map (λ (p : Received). p.told)) it.are ∙ sym (told-same tick it.front it.after it.one);
        written_are =
            let before : written ≡ map (written_as set shape) (controls_of so.parts) = so.told.written_are ∙ ap (map (written_as set shape)) (append-nil (controls_of so.parts)) in
            ap (λ (w : List Written). w ++ written_of shape tick (Some meaning)) (before ∙ ap (λ (p : List Received). map (written_as set shape) (controls_of p)) it.are)
            ∙ ap (λ (m : Meaning). map (written_as set shape) (controls_of (it.front ++ it.one ∷ it.after)) ++ written_of shape tick (Some m)) is
            ∙ sym (map-append (written_as set shape) (controls_of (it.front ++ it.one ∷ it.after)) (control ∷ []))
            ∙ ap (map (written_as set shape)) (sym (append-nil (controls_of parts) ∙ written-more tick it.front it.after it.one it.unanswered.none it.quiet));
        by = so.told.by;
      } in
      let same : length parts ≡ length starts = sym (zip-long (IsSettled full set tick (tick + 1) starts) attempts parts told.settled) ∙ sym (length-map attempts (λ (attempt : Cut Seen). attempt.start.at)) in
      record {
        parts = parts;
        told = told-on full set shape tick (tick + 1) starts attempts records (written ++ written_of shape tick (Some meaning)) [] parts counts (length-starts full set shape seen) (λ k one is_one at owing.
            let split = last-split parts k one is_one (omega (arith, same, at)) in
            absurd (newest split.0 one split.1 (record { first = owing.0; refused = owing.1; none = owing.4 }))) told;
        last = λ front one are unanswered. absurd (newest front one are unanswered);
        box = refl;
      }

  busy-left : (tick : ℕ) (refusing : Option ℕ) (meaning : Meaning) (busy : Reception) (seen : List Seen) (records : List SessionRecord) (written : List Written) → 1 ≤ set.n_cr → 1 ≤ set.n_br → CountsFrom 0 (map (λ (told : SessionRecord). told.n) records) → busy.wait ≡ Box →
      BusySo full set shape tick (tick + 1) refusing (Some meaning) busy seen records written → BusySo full set shape (tick + 1) (tick + 1) refusing None (awaiting busy tick) seen records (written ++ written_of shape tick (Some meaning))
  busy-left tick refusing meaning busy seen records written some pause counts box so =
      let gone : HasGone full set tick (Some meaning) busy so.attempt so.own = leaves full set tick (Some meaning) busy so.attempt so.own some pause box so.going in
      let control : ControlLeft = record { tick = tick; kind = gone.kind } in
      let is : meaning ≡ control_of set gone.kind = let both : Some meaning ≡ Some (control_of set gone.kind) = gone.lies_is in cc in
      let on = busy-told full set shape tick (Some meaning) busy so.earlier so.attempt records written so.own so.parts seen counts so.cut so.told in
      record {
        earlier = so.earlier;
        attempt = so.attempt;
        own = control ∷ so.own;
        parts = so.parts;
        cut = so.cut;
        told = record {
          settled = on.settled;
          records_are = on.records_are;
          written_are =
              ap (λ (w : List Written). w ++ written_of shape tick (Some meaning)) so.told.written_are
              ∙ ap (λ (m : Meaning). map (written_as set shape) (controls_of so.parts ++ reverse so.own) ++ written_of shape tick (Some m)) is
              ∙ sym (map-append (written_as set shape) (controls_of so.parts ++ reverse so.own) (control ∷ []))
              ∙ ap (map (written_as set shape)) (append_assoc (controls_of so.parts) (reverse so.own) (control ∷ []) ∙ ap (λ (c : List ControlLeft). controls_of so.parts ++ c) (sym (reverse-append (control ∷ []) so.own)));
          by = on.by;
        };
        first = so.first;
        none = so.none;
        going = gone.going;
      }

  -- the flow control that lies in the box leaves
  pub gone : (old : RxState) (busy : Option Reception) (m : RxDid) (meaning : Meaning) (seen : List Seen) (records : List SessionRecord) (written : List Written) → 1 ≤ set.n_cr → 1 ≤ set.n_br → CountsFrom 0 (map (λ (told : SessionRecord). told.n) records) → old.busy ≡ busy →
      SoBy full set shape m.tick (m.tick + 1) old.refusing (Some meaning) busy seen records written → LeftRow old busy m →
      SoFar full set shape (m.tick + 1) (m.tick + 1) m.new (box_then m.act None) seen (records ++ m.records) (written ++ written_of shape m.tick (Some meaning))
  gone old None m meaning seen records written some pause counts was so row = finish-left (record old { refusing = None }) row.new row.act_is row.records (subst (λ (b : Option Reception). SoBy full set shape (m.tick + 1) (m.tick + 1) None None b seen records (written ++ written_of shape m.tick (Some meaning))) (sym was) (of old.refusing so))
    where
      of : (refusing : Option ℕ) → IdleSo full set shape m.tick (m.tick + 1) refusing (Some meaning) seen records written → IdleSo full set shape (m.tick + 1) (m.tick + 1) None None seen records (written ++ written_of shape m.tick (Some meaning))
      of None idle_so = let clash : Some meaning ≡ None = idle_so.box in cc
      of (Some since) idle_so = idle-left m.tick since meaning seen records written counts idle_so

      finish-left : (state : RxState) → m.new ≡ state → m.act ≡ Keeps → m.records ≡ [] → SoFar full set shape (m.tick + 1) (m.tick + 1) state None seen records (written ++ written_of shape m.tick (Some meaning)) →
          SoFar full set shape (m.tick + 1) (m.tick + 1) m.new (box_then m.act None) seen (records ++ m.records) (written ++ written_of shape m.tick (Some meaning))
      finish-left state new act told so_left = rw (new, act, told, append-nil) so_left
  gone old (Some busy) m meaning seen records written some pause counts was so (FromBox box row) =
      rw (row.new, row.act, row.records, append-nil) (busy-left m.tick old.refusing meaning busy seen records written some pause counts box so)
  gone old (Some busy) m meaning seen records written some pause counts was so (NotAwaited other row) = absurd (never busy.wait refl so.going.waits_for)
    where
      never : (wait : RxWait) → busy.wait ≡ wait → WaitsFor full set m.tick (m.tick + 1) (Some meaning) busy so.going.start so.going.frames so.own wait → ⊥
      never Box is waits = other is
      never Room is waits = let clash : Some meaning ≡ None = waits.lies_is in cc
      never Cf is waits = let clash : Some meaning ≡ None = waits.lies_is in cc
