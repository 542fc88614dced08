-- The receptions of a source channel so far.
use Rattle.std.proofs.Common.{◌≡◌, ◌⊎◌, ℕ, ◌+◌, ◌≤◌, Bool, true, false, Option, Some, None, List, [], ◌∷◌, ◌++◌, map, reverse, refl, ap, sym, ◌∙◌, subst, arith, append_assoc, append-nil}
use Rattle.std.specs.List.{AllByRecursion, AllZip}
use Rattle.std.proofs.lemmas.Grind.{flat_map-append}
use Rattle.std.proofs.lemmas.List.{map-append, same_from_push}
use Rattle.gw_base.proofs.Lists.{all-push, zip-push, zip-weaker}
use Rattle.hub_core.specs.declared.record.SessionRecord.{SessionRecord}
use Rattle.tp_attempts.proofs.Cuts.{cuts-begin, cuts-grow, grow, grow_after, zip-grow}
use Rattle.tp_attempts.specs.Attempts.{attempts_in}
use Rattle.tp_attempts.specs.Cuts.{Cut}
use Rattle.tp_attempts.specs.Seen.{Seen, is_start}
use Rattle.tp_receiver.specs.Grant.{overflow}
use Rattle.tp_receiver.specs.State.{Reception, RxState}
use Rattle.tp_receiver.specs.declared.set.RxSet.{RxSet}
use Rattle.tp_unit.specs.Box.{Written}
use Rattle.tp_unit.specs.Unit.{Meaning}
use Rattle.tp_unit.specs.declared.shape.Shape.{Shape}
use Rattle.receiver_law.specs.FlowControls.{IsFirst}
use Rattle.receiver_law.specs.Receptions.{ControlLeft, Received, controls_of, written_as}
use Rattle.receiver_law.specs.Source.{is_overflow}
use Rattle.receiver_law.proofs.receptions.Going.{IsGoing}
use Rattle.receiver_law.proofs.receptions.Settled.{IsSettled, settled-frame, settled-later, starts_of}

-- the receptions that are over, of these attempts, where all starts came in such ticks; what was written is their flow controls and those of
-- the one that is in progress
pub record AreTold (full : ℕ → Bool) (set : RxSet) (shape : Shape) (tick over : ℕ) (starts : List ℕ) (attempts : List (Cut Seen)) (records : List SessionRecord) (written : List Written) (own : List ControlLeft) (parts : List Received) : Type 0 where
  pub settled : AllZip (IsSettled full set tick over starts) attempts parts
  pub records_are : records ≡ map (λ (one : Received). one.told) parts
  pub written_are : written ≡ map (written_as set shape) (controls_of parts ++ reverse own)
  pub by : AllByRecursion (λ (at : ℕ). at ≤ tick) starts

-- a first frame that found no buffer, and whose flow control hasn't left
pub record IsUnanswered (one : Received) : Type 0 where
  pub first : IsFirst one.start.meaning
  pub refused : is_overflow one.told.result ≡ true
  pub none : one.controls ≡ []

-- no flow control leaves for it any more
pub record IsQuiet (one : Received) : Type 0 where
  pub none : one.controls ≡ []
  pub other : IsFirst one.start.meaning → is_overflow one.told.result ≡ true → ⊥

-- its flow control lies in the box since that tick
pub record IsRefusing (set : RxSet) (tick over since : ℕ) (lies : Option Meaning) (parts : List Received) : Type 0 where
  pub lies_is : lies ≡ Some overflow
  pub by : since ≤ tick
  pub in_time : over ≤ since + set.n_ar
  pub front : List Received
  pub one : Received
  pub after : List Received
  pub are : parts ≡ front ++ one ∷ after
  pub unanswered : IsUnanswered one
  pub begins : one.told.begin.0 ≡ since
  pub quiet : AllByRecursion IsQuiet after

abbrev pub BoxSo : RxSet → (tick over : ℕ) → Option ℕ → Option Meaning → List Received → Type 0
BoxSo set tick over None lies parts = lies ≡ None
BoxSo set tick over (Some since) lies parts = IsRefusing set tick over since lies parts

-- where the newest start found no buffer, its flow control lies in the box, has left, or was revoked
abbrev pub LastSo : RxSet → (tick : ℕ) → Option ℕ → List Received → Type 0
LastSo set tick refusing parts = (front : List Received) (one : Received) → parts ≡ front ++ one ∷ [] → IsUnanswered one → (refusing ≡ Some one.told.begin.0) ⊎ (one.told.begin.0 + set.n_ar ≤ tick)

pub record IdleSo (full : ℕ → Bool) (set : RxSet) (shape : Shape) (tick over : ℕ) (refusing : Option ℕ) (lies : Option Meaning) (seen : List Seen) (records : List SessionRecord) (written : List Written) : Type 0 where
  pub parts : List Received
  pub told : AreTold full set shape tick over (starts_of (attempts_in set.functional seen)) (attempts_in set.functional seen) records written [] parts
  pub last : LastSo set tick refusing parts
  pub box : BoxSo set tick over refusing lies parts

pub record BusySo (full : ℕ → Bool) (set : RxSet) (shape : Shape) (tick over : ℕ) (refusing : Option ℕ) (lies : Option Meaning) (busy : Reception) (seen : List Seen) (records : List SessionRecord) (written : List Written) : Type 0 where
  pub earlier : List (Cut Seen)
  pub attempt : Cut Seen
  pub own : List ControlLeft
  pub parts : List Received
  pub cut : attempts_in set.functional seen ≡ earlier ++ attempt ∷ []
  pub told : AreTold full set shape tick over (starts_of (attempts_in set.functional seen)) earlier records written own parts
  pub first : IsFirst attempt.start.meaning
  pub none : refusing ≡ None
  pub going : IsGoing full set tick over lies busy attempt own

abbrev pub SoBy : (full : ℕ → Bool) → RxSet → Shape → (tick over : ℕ) → (refusing : Option ℕ) → Option Meaning → Option Reception → List Seen → List SessionRecord → List Written → Type 0
SoBy full set shape tick over refusing lies None seen records written = IdleSo full set shape tick over refusing lies seen records written
SoBy full set shape tick over refusing lies (Some busy) seen records written = BusySo full set shape tick over refusing lies busy seen records written

abbrev pub SoFar : (full : ℕ → Bool) → RxSet → Shape → (tick over : ℕ) → RxState → Option Meaning → List Seen → List SessionRecord → List Written → Type 0
SoFar full set shape tick over state lies seen records written = SoBy full set shape tick over state.refusing lies state.busy seen records written

-- one reception more is over
pub told-more : (full : ℕ → Bool) (set : RxSet) (shape : Shape) (tick over : ℕ) (starts : List ℕ) (attempts : List (Cut Seen)) (records : List SessionRecord) (written : List Written) (parts : List Received) (attempt : Cut Seen) (one : Received) → IsSettled full set tick over starts attempt one →
    AreTold full set shape tick over starts attempts records written one.controls parts → AreTold full set shape tick over starts (attempts ++ attempt ∷ []) (records ++ one.told ∷ []) written [] (parts ++ one ∷ [])
told-more full set shape tick over starts attempts records written parts attempt one is so = record {
  settled = zip-push (IsSettled full set tick over starts) attempts parts attempt one so.settled is;
  records_are = ap (λ (r : List SessionRecord). r ++ one.told ∷ []) so.records_are ∙ sym (map-append (λ (p : Received). p.told) parts (one ∷ []));
  written_are = so.written_are ∙ ap (map (written_as set shape)) (sym (append-nil (controls_of (parts ++ one ∷ [])) ∙ flat_map-append (λ (p : Received). reverse p.controls) parts (one ∷ []) ∙ ap (λ (c : List ControlLeft). controls_of parts ++ c) (append-nil (reverse one.controls))));
  by = so.by;
}

-- a start that comes in this tick
pub told-start : (full : ℕ → Bool) (set : RxSet) (shape : Shape) (tick over : ℕ) (starts : List ℕ) (attempts : List (Cut Seen)) (records : List SessionRecord) (written : List Written) (own : List ControlLeft) (parts : List Received) →
    AreTold full set shape tick over starts attempts records written own parts → AreTold full set shape tick over (starts ++ tick ∷ []) attempts records written own parts
told-start full set shape tick over starts attempts records written own parts so = record {
  settled = zip-weaker (IsSettled full set tick over starts) (IsSettled full set tick over (starts ++ tick ∷ [])) attempts parts (λ attempt one is. settled-later full set tick over over starts (tick ∷ []) attempt one (omega arith) is) so.settled;
  records_are = so.records_are;
  written_are = so.written_are;
  by = all-push (λ (at : ℕ). at ≤ tick) starts tick so.by (omega arith);
}

-- a frame that is no start
starts-grow_after : (frame : Seen) (attempt : Cut Seen) (later : List (Cut Seen)) → starts_of (grow_after frame attempt later) ≡ starts_of (attempt ∷ later)
starts-grow_after frame attempt [] = refl
starts-grow_after frame attempt (next ∷ later) = ap (λ starts. attempt.start.at ∷ starts) (starts-grow_after frame next later)

starts-grow : (frame : Seen) (attempts : List (Cut Seen)) → starts_of (grow frame attempts) ≡ starts_of attempts
starts-grow frame [] = refl
starts-grow frame (attempt ∷ later) = starts-grow_after frame attempt later

pub starts-same : (functional : Bool) (seen : List Seen) (frame : Seen) → is_start functional frame.meaning ≡ false → starts_of (attempts_in functional (seen ++ frame ∷ [])) ≡ starts_of (attempts_in functional seen)
starts-same functional seen frame other = ap starts_of (cuts-grow (λ (s : Seen). is_start functional s.meaning) seen frame other) ∙ starts-grow frame (attempts_in functional seen)

pub idle-frame : (full : ℕ → Bool) (set : RxSet) (shape : Shape) (tick over : ℕ) (refusing : Option ℕ) (lies : Option Meaning) (seen : List Seen) (records : List SessionRecord) (written : List Written) (frame : Seen) → is_start set.functional frame.meaning ≡ false → over ≤ frame.at →
    IdleSo full set shape tick over refusing lies seen records written → IdleSo full set shape tick over refusing lies (seen ++ frame ∷ []) records written
idle-frame full set shape tick over refusing lies seen records written frame other by so =
    let starts : List ℕ = starts_of (attempts_in set.functional seen) in
    let same : starts_of (attempts_in set.functional (seen ++ frame ∷ [])) ≡ starts = starts-same set.functional seen frame other in
    let P : List (Cut Seen) → Type 0 = λ attempts. AllZip (IsSettled full set tick over starts) attempts so.parts in
    record {
      parts = so.parts;
      told = subst (λ (s : List ℕ). AreTold full set shape tick over s (attempts_in set.functional (seen ++ frame ∷ [])) records written [] so.parts) (sym same) (record {
        settled = subst P (sym (cuts-grow (λ (s : Seen). is_start set.functional s.meaning) seen frame other))
            (zip-grow (IsSettled full set tick over starts) frame (attempts_in set.functional seen) so.parts (settled-frame full set tick over starts frame by) so.told.settled);
        records_are = so.told.records_are;
        written_are = so.told.written_are;
        by = so.told.by;
      });
      last = so.last;
      box = so.box;
    }

-- the starts with a new one
pub starts-more : (functional : Bool) (seen : List Seen) (frame : Seen) → is_start functional frame.meaning ≡ true → starts_of (attempts_in functional (seen ++ frame ∷ [])) ≡ starts_of (attempts_in functional seen) ++ frame.at ∷ []
starts-more functional seen frame start = ap starts_of (cuts-begin (λ (s : Seen). is_start functional s.meaning) seen frame start) ∙ map-append (λ (attempt : Cut Seen). attempt.start.at) (attempts_in functional seen) (record { start = frame; after = [] } ∷ [])

-- a reception that is over is the last one
pub last-quiet : (set : RxSet) (tick : ℕ) (refusing : Option ℕ) (parts : List Received) (one : Received) → (IsFirst one.start.meaning → is_overflow one.told.result ≡ true → ⊥) → LastSo set tick refusing (parts ++ one ∷ [])
last-quiet set tick refusing parts one other front last are is =
    let same : one ≡ last = (same_from_push parts front one last are).1 in
    let P : Received → Type 0 = λ p. IsUnanswered p in
    let it : IsUnanswered one = subst P (sym same) is in
    absurd (other it.first it.refused)

pub box-quiet : (set : RxSet) (tick over : ℕ) (refusing : Option ℕ) (lies : Option Meaning) (parts : List Received) (one : Received) → IsQuiet one → BoxSo set tick over refusing lies parts → BoxSo set tick over refusing lies (parts ++ one ∷ [])
box-quiet set tick over None lies parts one quiet so = so
box-quiet set tick over (Some since) lies parts one quiet so = record {
  lies_is = so.lies_is;
  by = so.by;
  in_time = so.in_time;
  front = so.front;
  one = so.one;
  after = so.after ++ one ∷ [];
  are = ap (λ (p : List Received). p ++ one ∷ []) so.are ∙ append_assoc so.front (so.one ∷ so.after) (one ∷ []);
  unanswered = so.unanswered;
  begins = so.begins;
  quiet = all-push IsQuiet so.after one so.quiet quiet;
}
