-- A start that comes, by the rows of the receiver's table.
use Rattle.receiver_law.proofs.receptions.RoomSteps.{IsTight}
use Rattle.std.proofs.Common.{◌≡◌, inl, inr, ℕ, ◌+◌, ◌≤◌, Bool, true, false, not, Option, Some, None, List, [], ◌∷◌, ◌++◌, length, refl, ap, sym, ◌∙◌, subst, arith, append-nil, append_assoc}
use Rattle.std.specs.Prelude.{slice_get}
use Rattle.std.proofs.lemmas.List.{length-append, length-map, same_from_push}
use Rattle.gw_base.proofs.Lists.{zip-long}
use Rattle.hub_core.proofs.Growing.{slice_get-pushed}
use Rattle.hub_core.specs.View.{Event}
use Rattle.hub_core.specs.declared.record.SessionRecord.{SessionRecord}
use Rattle.hub_core.specs.declared.record.SessionResult.TheVariants.{Whole, Restarted}
use Rattle.tp_attempts.proofs.Cuts.{cuts-begin}
use Rattle.tp_attempts.specs.Attempts.{attempts_in}
use Rattle.tp_attempts.specs.Cuts.{Cut}
use Rattle.tp_attempts.specs.Seen.{Seen, is_start}
use Rattle.tp_receiver.specs.Grant.{overflow}
use Rattle.tp_receiver.specs.State.{Reception, RxDid, RxState, Came, idle}
use Rattle.tp_receiver.specs.Table.{Begins, Completes, FirstRow, Interrupts, NoBuffer, NoBufferFirst, Opened, RxStep, Starts, after_opening, begun, ended, later_act, refused, revoking}
use Rattle.tp_receiver.specs.declared.set.RxSet.{RxSet}
use Rattle.tp_unit.specs.Box.{Written, box_then}
use Rattle.tp_unit.specs.Unit.{BoxMeaning, Keeps, Meaning, Offers, Revokes, SingleFrame, FirstFrame, ConsecutiveFrame, FlowControl, NoUnit}
use Rattle.tp_unit.specs.declared.shape.Shape.{Shape}
use Rattle.receiver_law.specs.FlowControls.{IsFirst}
use Rattle.receiver_law.specs.ReceptionCauses.{AfterFrame}
use Rattle.receiver_law.specs.Receptions.{Received}
use Rattle.receiver_law.proofs.receptions.Answers.{answers-none}
use Rattle.receiver_law.proofs.receptions.Asked.{asked-so, finish, lies-over, over-so}
use Rattle.receiver_law.proofs.receptions.Consecutive.{consecutive, passes}
use Rattle.receiver_law.proofs.receptions.Ends.{received, settles}
use Rattle.receiver_law.proofs.receptions.Going.{IsAsking, IsUnder}
use Rattle.receiver_law.proofs.receptions.Settled.{IsSettled, starts_of}
use Rattle.receiver_law.proofs.receptions.SoFar.{AreTold, BoxSo, IdleSo, IsUnanswered, SoBy, SoFar, starts-more, told-more, told-start}
use Rattle.receiver_law.proofs.records.SourceLaws.{HoldsBy}

module _ (full : ℕ → Bool) (set : RxSet) (shape : Shape) where
  -- what is so before a start of this tick, whose tick is among the starts already
  record IsCleared (tick : ℕ) (refusing : Option ℕ) (lies : Option Meaning) (seen : List Seen) (records : List SessionRecord) (written : List Written) : Type 0 where
    parts : List Received
    told : AreTold full set shape tick tick (starts_of (attempts_in set.functional seen) ++ tick ∷ []) (attempts_in set.functional seen) records written [] parts
    box : BoxSo set tick tick refusing lies parts

  -- what the receiver was at ends
  cleared : (old : RxState) (busy : Option Reception) (m : RxDid) (calls : List Event) (before : ℕ) (lies : Option Meaning) (seen : List Seen) (records : List SessionRecord) (written : List Written) → HoldsBy set old.next old.seq busy calls before seen records →
      SoBy full set shape m.tick m.tick old.refusing lies busy seen records written → Interrupts set old busy m → IsCleared m.tick old.refusing (box_then m.act lies) seen (records ++ m.records) written
  cleared old None m calls before lies seen records written known so row =
      rw (row.act, row.records, append-nil) (record { parts = so.parts; told = told-start full set shape m.tick m.tick (starts_of (attempts_in set.functional seen)) (attempts_in set.functional seen) records written [] so.parts so.told; box = so.box })
  cleared old (Some busy) m calls before lies seen records written known so row =
      let starts : List ℕ = starts_of (attempts_in set.functional seen) in
      let told = told-start full set shape m.tick m.tick starts so.earlier records written so.own so.parts so.told in
      let many : length starts ≡ busy.n + 1 = length-map (attempts_in set.functional seen) (λ (attempt : Cut Seen). attempt.start.at) ∙ ap length so.cut ∙ length-append so.earlier (so.attempt ∷ [])
      ∙ ap (λ n. n + 1) (zip-long (IsSettled full set m.tick m.tick starts) so.earlier so.parts so.told.settled ∙ sym (length-map so.parts (λ (one : Received). one.told)) ∙ sym (ap length so.told.records_are) ∙ sym known.0.n_is) in
      let restarted : slice_get (starts ++ m.tick ∷ []) (busy.n + 1) ≡ Some m.tick = slice_get-pushed starts m.tick (busy.n + 1) many in
      let one : Received = received set busy so.attempt so.own Restarted m.tick in
      let settled : IsSettled full set m.tick m.tick (starts ++ m.tick ∷ []) so.attempt one =
      settles full set m.tick m.tick (starts ++ m.tick ∷ []) busy so.attempt so.going.start so.going.frames so.own Restarted refl refl (omega arith) so.first so.going.under restarted in
      let both = told-more full set shape m.tick m.tick (starts ++ m.tick ∷ []) so.earlier records written so.parts so.attempt one settled told in
      let none : box_then (revoking busy.wait) lies ≡ None = lies-over full set m.tick m.tick lies busy so.attempt so.own so.going in
      rw (row.act, row.records) (record {
        parts = so.parts ++ one ∷ [];
        told = subst (λ (a : List (Cut Seen)). AreTold full set shape m.tick m.tick (starts ++ m.tick ∷ []) a (records ++ one.told ∷ []) written [] (so.parts ++ one ∷ [])) (sym so.cut) both;
        box = subst (λ (r : Option ℕ). BoxSo set m.tick m.tick r (box_then (revoking busy.wait) lies) (so.parts ++ one ∷ [])) (sym so.none) none;
      })

  -- the attempts with the start
  start-cut : (seen : List Seen) (frame : Seen) → is_start set.functional frame.meaning ≡ true → attempts_in set.functional (seen ++ frame ∷ []) ≡ attempts_in set.functional seen ++ record { start = frame; after = [] } ∷ []
  start-cut seen frame start = cuts-begin (λ (s : Seen). is_start set.functional s.meaning) seen frame start

  start-told : (tick size : ℕ) (meaning : Meaning) (seen : List Seen) (records : List SessionRecord) (written : List Written) (parts : List Received) → is_start set.functional meaning ≡ true →
      AreTold full set shape tick tick (starts_of (attempts_in set.functional seen) ++ tick ∷ []) (attempts_in set.functional seen) records written [] parts →
      AreTold full set shape tick tick (starts_of (attempts_in set.functional (seen ++ record { at = tick; size = size; meaning = meaning } ∷ []))) (attempts_in set.functional seen) records written [] parts
  start-told tick size meaning seen records written parts start so =
      subst (λ (s : List ℕ). AreTold full set shape tick tick s (attempts_in set.functional seen) records written [] parts) (sym (starts-more set.functional seen (record { at = tick; size = size; meaning = meaning }) start)) so

  -- a start that has its record at once, and none of a session that a first frame began
  at-once : (tick size : ℕ) (meaning : Meaning) (refusing : Option ℕ) (lies : Option Meaning) (seen : List Seen) (records : List SessionRecord) (written : List Written) (told : SessionRecord) (cleared : IsCleared tick refusing lies seen records written) → is_start set.functional meaning ≡ true → (IsFirst meaning → ⊥) →
      IsSettled full set tick tick (starts_of (attempts_in set.functional (seen ++ record { at = tick; size = size; meaning = meaning } ∷ []))) (record { start = record { at = tick; size = size; meaning = meaning }; after = [] }) (record { start = record { at = tick; size = size; meaning = meaning }; told = told; controls = [] }) →
      IdleSo full set shape tick tick refusing lies (seen ++ record { at = tick; size = size; meaning = meaning } ∷ []) (records ++ told ∷ []) written
  at-once tick size meaning refusing lies seen records written told cleared start other settled =
      let frame : Seen = record { at = tick; size = size; meaning = meaning } in
      over-so full set shape tick tick refusing lies (seen ++ frame ∷ []) records written (attempts_in set.functional seen) (record { start = frame; after = [] }) (record { start = frame; told = told; controls = [] }) cleared.parts (start-cut seen frame start) (λ first refused. other first) (inr refl) settled
      cleared.box (start-told tick size meaning seen records written cleared.parts start cleared.told)

  -- a first frame that finds no buffer
  refuses : (tick size len next number free need : ℕ) (bytes : List ℕ) (refusing : Option ℕ) (lies : Option Meaning) (seen : List Seen) (records : List SessionRecord) (written : List Written) → is_start set.functional (FirstFrame len bytes) ≡ true → IsCleared tick refusing lies seen records written →
      IdleSo full set shape tick tick (Some tick) (Some overflow) (seen ++ record { at = tick; size = size; meaning = FirstFrame len bytes } ∷ []) (records ++ refused set next len tick number free need ∷ []) written
  refuses tick size len next number free need bytes refusing lies seen records written start cleared =
      let frame : Seen = record { at = tick; size = size; meaning = FirstFrame len bytes } in
      let attempt : Cut Seen = record { start = frame; after = [] } in
      let told : SessionRecord = refused set next len tick number free need in
      let one : Received = record { start = frame; told = told; controls = [] } in
      let starts : List ℕ = starts_of (attempts_in set.functional (seen ++ frame ∷ [])) in
      let unanswered : IsUnanswered one = record { first = tt; refused = refl; none = refl } in
      let settled : IsSettled full set tick tick starts attempt one = record {
        start = refl;
        ended = omega arith;
        none = λ is. absurd (is tt);
        session = λ first opened. cc;
        refusal = λ first refused. record { kinds = tt; within = tt; once = omega arith; by = tt; owed = λ at from to below none gone. absurd (omega (arith, from, below)) };
        cause = tt;
      } in
      record {
        parts = cleared.parts ++ one ∷ [];
        told = subst (λ (a : List (Cut Seen)). AreTold full set shape tick tick starts a (records ++ told ∷ []) written [] (cleared.parts ++ one ∷ [])) (sym (start-cut seen frame start))
            (told-more full set shape tick tick starts (attempts_in set.functional seen) records written cleared.parts attempt one settled (start-told tick size (FirstFrame len bytes) seen records written cleared.parts start cleared.told));
        last = λ front last are is. let same : one ≡ last = (same_from_push cleared.parts front one last are).1 in inl (ap (λ (p : Received). Some p.told.begin.0) same);
        box = record { lies_is = refl; by = omega arith; in_time = omega arith; front = cleared.parts; one = one; after = []; are = refl; unanswered = unanswered; begins = refl; quiet = tt };
      }

  -- a start, where no reception is in progress
  begins : (old : RxState) (size : ℕ) (meaning : Meaning) (m : RxDid) (lies : Option Meaning) (seen : List Seen) (records : List SessionRecord) (written : List Written) → 1 ≤ set.n_ar → is_start set.functional meaning ≡ true → IsCleared m.tick old.refusing lies seen records written → Begins set (idle old) size meaning m →
      SoFar full set shape m.tick m.tick m.new (box_then m.act lies) (seen ++ record { at = m.tick; size = size; meaning = meaning } ∷ []) (records ++ m.records) written
  begins old size (SingleFrame bytes) m lies seen records written some start so (NoBuffer row) =
      finish full set shape m.tick m (record (idle old) { next = old.next + 1; refusing = old.refusing }) Keeps lies (seen ++ record { at = m.tick; size = size; meaning = SingleFrame bytes } ∷ []) records (refused set old.next (length bytes) m.tick row.number row.free row.need ∷ []) written row.new row.act_is row.records
      (at-once m.tick size (SingleFrame bytes) old.refusing lies seen records written (refused set old.next (length bytes) m.tick row.number row.free row.need) so start (λ first. first)
      (record { start = refl; ended = omega arith; none = λ is. refl; session = λ first. absurd first; refusal = λ first. absurd first; cause = tt }))
  begins old size (SingleFrame bytes) m lies seen records written some start so (Completes opened opening opens row) =
      let busy : Reception = begun old.next (length bytes) size (length bytes) m.tick opened in
      finish full set shape m.tick (record m { calls = row.rest }) (idle (after_opening (idle old))) Keeps lies (seen ++ record { at = m.tick; size = size; meaning = SingleFrame bytes } ∷ []) records (ended set busy Whole m.tick ∷ []) written row.row.new row.row.act row.row.records
      (at-once m.tick size (SingleFrame bytes) old.refusing lies seen records written (ended set busy Whole m.tick) so start (λ first. first)
      (record { start = refl; ended = omega arith; none = λ is. refl; session = λ first. absurd first; refusal = λ first. absurd first; cause = (refl, omega (arith, ap length (append-nil bytes))) }))
  begins old size (FirstFrame len bytes) m lies seen records written some start so (NoBufferFirst more row) =
      finish full set shape m.tick m (record (idle old) { next = old.next + 1; refusing = Some m.tick }) (Offers overflow) lies (seen ++ record { at = m.tick; size = size; meaning = FirstFrame len bytes } ∷ []) records (refused set old.next len m.tick row.number row.free row.need ∷ []) written row.new row.act_is row.records
      (refuses m.tick size len old.next row.number row.free row.need bytes old.refusing lies seen records written start so)
  begins old size (FirstFrame len bytes) m lies seen records written some start so (Opened more opened opening opens row) =
      let frame : Seen = record { at = m.tick; size = size; meaning = FirstFrame len bytes } in
      let attempt : Cut Seen = record { start = frame; after = [] } in
      let busy : Reception = begun old.next len size (length bytes) m.tick opened in
      let under : IsUnder full set m.tick busy attempt (record { at = m.tick; bytes = bytes }) [] [] = record { pieces = refl; begin = refl; by = omega arith; early = tt; answers = answers-none full set [] m.tick; waits = omega arith } in
      let asks : IsAsking full set m.tick busy attempt [] = record { start = record { at = m.tick; bytes = bytes }; frames = []; under = under; may = tt; few = omega arith; many = omega arith; asked = AfterFrame refl } in
      asked-so full set shape m.tick (after_opening (idle old)) busy (record m { calls = row.rest }) lies (seen ++ frame ∷ []) records written (attempts_in set.functional seen) attempt [] so.parts (start-cut seen frame start) tt (inr refl) (omega arith) (omega (arith, some)) (ap length (sym (append-nil bytes)))
      asks so.box (start-told m.tick size (FirstFrame len bytes) seen records written so.parts start so.told) row.row
  begins old size (ConsecutiveFrame number bytes) m lies seen records written some start so row = absurd row
  begins old size (FlowControl status block_size separation) m lies seen records written some start so row = absurd row
  begins old size (NoUnit why) m lies seen records written some start so row = absurd row

  box-twice : (earlier next : BoxMeaning) (lies : Option Meaning) → box_then (later_act earlier next) lies ≡ box_then next (box_then earlier lies)
  box-twice earlier Keeps lies = refl
  box-twice earlier (Offers meaning) lies = refl
  box-twice earlier Revokes lies = refl

  -- a start, in either state
  starts : (old : RxState) (size : ℕ) (meaning : Meaning) (m : RxDid) (calls : List Event) (before : ℕ) (lies : Option Meaning) (seen : List Seen) (records : List SessionRecord) (written : List Written) → 1 ≤ set.n_ar → is_start set.functional meaning ≡ true → HoldsBy set old.next old.seq old.busy calls before seen records →
      SoFar full set shape m.tick m.tick old lies seen records written → Starts set old size meaning m → SoFar full set shape m.tick m.tick m.new (box_then m.act lies) (seen ++ record { at = m.tick; size = size; meaning = meaning } ∷ []) (records ++ m.records) written
  starts old size meaning m calls before lies seen records written some start known so row =
      let A : ℕ → Type 0 = λ t. SoBy full set shape t t old.refusing lies old.busy seen records written in
      let B : ℕ → Type 0 = λ t. IsCleared t old.refusing (box_then row.earlier.act lies) seen (records ++ row.earlier.records) written in
      let clear : IsCleared row.earlier.tick old.refusing (box_then row.earlier.act lies) seen (records ++ row.earlier.records) written = cleared old old.busy row.earlier calls before lies seen records written known (subst A (sym row.earlier_tick) so) row.interrupts in
      let all = begins old size meaning row.later (box_then row.earlier.act lies) seen (records ++ row.earlier.records) written some start (subst B (row.earlier_tick ∙ sym row.later_tick) clear) row.begins in
      let C : ℕ → Type 0 = λ t. SoFar full set shape t t row.later.new (box_then row.later.act (box_then row.earlier.act lies)) (seen ++ record { at = t; size = size; meaning = meaning } ∷ []) ((records ++ row.earlier.records) ++ row.later.records) written in
      let seen_all : List Seen = seen ++ record { at = m.tick; size = size; meaning = meaning } ∷ [] in
      finish full set shape m.tick m row.later.new (later_act row.earlier.act row.later.act) lies seen_all records (row.earlier.records ++ row.later.records) written row.new row.act row.records
      (subst (λ (l : Option Meaning). SoFar full set shape m.tick m.tick row.later.new l seen_all (records ++ (row.earlier.records ++ row.later.records)) written) (sym (box-twice row.earlier.act row.later.act lies))
      (subst (λ (r : List SessionRecord). SoFar full set shape m.tick m.tick row.later.new (box_then row.later.act (box_then row.earlier.act lies)) seen_all r written) (append_assoc records row.earlier.records row.later.records) (subst C row.later_tick all)))

  -- a frame that no attempt looks at
  ignored : (old : RxState) (m : RxDid) (lies : Option Meaning) (seen : List Seen) (records : List SessionRecord) (written : List Written) (frame : Seen) → m.new ≡ old → m.act ≡ Keeps → m.records ≡ [] → SoFar full set shape m.tick m.tick old lies (seen ++ frame ∷ []) records written →
      SoFar full set shape m.tick m.tick m.new (box_then m.act lies) (seen ++ frame ∷ []) (records ++ m.records) written
  ignored old m lies seen records written frame new act told so =
      finish full set shape m.tick m old Keeps lies (seen ++ frame ∷ []) records [] written new act told (subst (λ (r : List SessionRecord). SoFar full set shape m.tick m.tick old lies (seen ++ frame ∷ []) r written) (sym (append-nil records)) so)

  first : (old : RxState) (size len : ℕ) (bytes : List ℕ) (functional : Bool) (m : RxDid) (calls : List Event) (before : ℕ) (lies : Option Meaning) (seen : List Seen) (records : List SessionRecord) (written : List Written) → 1 ≤ set.n_ar → set.functional ≡ functional → HoldsBy set old.next old.seq old.busy calls before seen records →
      SoFar full set shape m.tick m.tick old lies seen records written → FirstRow set old size (FirstFrame len bytes) functional m → SoFar full set shape m.tick m.tick m.new (box_then m.act lies) (seen ++ record { at = m.tick; size = size; meaning = FirstFrame len bytes } ∷ []) (records ++ m.records) written
  first old size len bytes true m calls before lies seen records written some is known so row =
      ignored old m lies seen records written _ row.new row.act row.records (passes full set shape m.tick old.refusing lies old.busy seen records written (record { at = m.tick; size = size; meaning = FirstFrame len bytes }) refl (ap not is) (λ walk. refl) so)
  first old size len bytes false m calls before lies seen records written some is known so row = starts old size (FirstFrame len bytes) m calls before lies seen records written some (ap not is) known so row

  -- a frame
  pub came : (old : RxState) (size : ℕ) (meaning : Meaning) (m : RxDid) (calls : List Event) (before : ℕ) (lies : Option Meaning) (seen : List Seen) (records : List SessionRecord) (written : List Written) → 1 ≤ set.n_cr → 1 ≤ set.n_ar → IsTight set old m → HoldsBy set old.next old.seq old.busy calls before seen records →
      SoFar full set shape m.tick m.tick old lies seen records written → RxStep set old (Came size meaning) m → SoFar full set shape m.tick m.tick m.new (box_then m.act lies) (seen ++ record { at = m.tick; size = size; meaning = meaning } ∷ []) (records ++ m.records) written
  came old size (SingleFrame bytes) m calls before lies seen records written some some_ar tight known so row = starts old size (SingleFrame bytes) m calls before lies seen records written some_ar refl known so row
  came old size (FirstFrame len bytes) m calls before lies seen records written some some_ar tight known so row = first old size len bytes set.functional m calls before lies seen records written some_ar refl known so row
  came old size (ConsecutiveFrame number bytes) m calls before lies seen records written some some_ar tight known so row = consecutive full set shape old old.busy size number bytes m calls before lies seen records written some some_ar refl tight known so row
  came old size (FlowControl status block_size separation) m calls before lies seen records written some some_ar tight known so row =
      ignored old m lies seen records written _ row.new row.act row.records (passes full set shape m.tick old.refusing lies old.busy seen records written (record { at = m.tick; size = size; meaning = FlowControl status block_size separation }) refl refl (λ walk. refl) so)
  came old size (NoUnit why) m calls before lies seen records written some some_ar tight known so row =
      ignored old m lies seen records written _ row.new row.act row.records (passes full set shape m.tick old.refusing lies old.busy seen records written (record { at = m.tick; size = size; meaning = NoUnit why }) refl refl (λ walk. refl) so)
