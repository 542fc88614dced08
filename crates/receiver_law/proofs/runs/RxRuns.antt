-- A run of a receiver, turn by turn and tick by tick.
use Rattle.receiver_law.proofs.receptions.RoomSteps.{IsTight, looks-front, tight-so}
use Rattle.receiver_law.specs.Looks.{LooksKeepRoom}
use Rattle.std.proofs.Common.{◌≡◌, inl, inr, ◌⊎◌, ℕ, ◌+◌, ◌-◌, ◌<◌, ◌≤◌, zero, suc, Bool, true, Option, Some, None, List, [], ◌∷◌, ◌++◌, map, refl, ap, sym, ◌∙◌, subst, arith, append-nil, append_assoc}
use Rattle.std.specs.List.{AllByRecursion}
use Rattle.hub_core.proofs.Turns.{happened-front}
use Rattle.hub_core.specs.Turns.{Part, calls_by, came_by, now_of, records_by, state_after, tick_after, turns_of}
use Rattle.hub_core.specs.View.{Event}
use Rattle.hub_core.specs.declared.record.RxWait.{RxWait}
use Rattle.hub_core.specs.declared.record.RxWait.TheVariants.{Box, Room, Cf}
use Rattle.hub_core.specs.declared.record.SessionRecord.{SessionRecord}
use Rattle.tp_attempts.specs.Seen.{Seen}
use Rattle.tp_receiver.specs.Runs.{HasReceived, control_after, controls_by, frames_in}
use Rattle.tp_receiver.specs.State.{Reception, RxEvent, RxState, RxTurn, Came, Timer, FcLeft, RunEnd, rx_new}
use Rattle.tp_receiver.specs.Table.{FromBox, LeftRow, NotAwaited, RxStep, awaited_after}
use Rattle.tp_receiver.specs.declared.set.RxSet.{RxSet}
use Rattle.tp_unit.specs.Box.{Leaves, Nothing, Stays, Went, Written}
use Rattle.tp_unit.specs.Unit.{Meaning}
use Rattle.tp_unit.specs.declared.shape.Shape.{Shape}
use Rattle.receiver_law.specs.Receptions.{Received}
use Rattle.receiver_law.specs.Laws.{HasLimits}
use Rattle.receiver_law.specs.Parts.{CameIn}
use Rattle.receiver_law.specs.RxRun.{AreRxParts, IsLeftIn, IsRxIdle, IsRxPart}
use Rattle.receiver_law.specs.Source.{CountsFrom}
use Rattle.receiver_law.proofs.receptions.Counting.{last-by}
use Rattle.receiver_law.proofs.receptions.Going.{IsGoing, WaitsFor}
use Rattle.receiver_law.proofs.receptions.Gone.{gone}
use Rattle.receiver_law.proofs.receptions.SoFar.{IdleSo, SoBy, SoFar}
use Rattle.receiver_law.proofs.receptions.Starting.{came}
use Rattle.receiver_law.proofs.receptions.Timing.{idle-over, passes-on, timed}
use Rattle.receiver_law.proofs.records.SourceLaws.{HoldsBy, holds}

-- records are numbered from 0
numbers : (set : RxSet) (next seq : ℕ) (busy : Option Reception) (calls : List Event) (now : ℕ) (seen : List Seen) (records : List SessionRecord) → HoldsBy set next seq busy calls now seen records → CountsFrom 0 (map (λ (told : SessionRecord). told.n) records)
numbers set next seq None calls now seen records so = so.told.numbers
numbers set next seq (Some busy) calls now seen records so = so.0.told.numbers

pub numbered : (set : RxSet) (turns : List RxTurn) → HasReceived set turns → CountsFrom 0 (map (λ (told : SessionRecord). told.n) (records_by turns))
numbered set turns happened = numbers set (state_after rx_new turns).next (state_after rx_new turns).seq (state_after rx_new turns).busy (calls_by turns) (now_of turns) (came_by frames_in turns) (records_by turns) (holds set turns happened)

module _ (full : ℕ → Bool) (set : RxSet) (shape : Shape) (limits : HasLimits set) where
  -- what is so after turns
  abbrev pub Holds : (tick over : ℕ) → List RxTurn → Type 0
  Holds tick over turns = SoFar full set shape tick over (state_after rx_new turns) (control_after turns) (came_by frames_in turns) (records_by turns) (controls_by shape turns)

  -- a reception waits since that tick or an earlier one
  abbrev pub WaitsSince : ℕ → Option Reception → Type 0
  WaitsSince tick busy = (on : Reception) → busy ≡ Some on → on.since ≤ tick

  came-step : (tick : ℕ) (turn : RxTurn) (turns : List RxTurn) (event : RxEvent) → turn.event ≡ event → CameIn tick event turn.did.tick → RxStep set (state_after rx_new turns) turn.event turn.did → HasReceived set turns → IsTight set (state_after rx_new turns) turn.did → Holds tick tick turns → Holds tick tick (turn ∷ turns)
  came-step tick turn turns (Came size meaning) is at row happened tight so =
      let step : RxStep set (state_after rx_new turns) (Came size meaning) turn.did = subst (λ (e : RxEvent). RxStep set (state_after rx_new turns) e turn.did) is row in
      let here : Holds turn.did.tick turn.did.tick turns = subst (λ (t : ℕ). Holds t t turns) (sym at) so in
      let all = came full set shape (state_after rx_new turns) size meaning turn.did (calls_by turns) (now_of turns) (control_after turns) (came_by frames_in turns) (records_by turns) (controls_by shape turns) limits.n_cr limits.n_ar tight (holds set turns happened) here step in
      subst (λ (t : ℕ). Holds t t (turn ∷ turns)) at (rw (is, append-nil) all)
  came-step tick turn turns Timer is at row happened tight so = absurd at
  came-step tick turn turns FcLeft is at row happened tight so = absurd at
  came-step tick turn turns RunEnd is at row happened tight so = absurd at

  all-came : (tick : ℕ) (frames earlier : List RxTurn) → AllByRecursion (λ (turn : RxTurn). CameIn tick turn.event turn.did.tick) frames → HasReceived set (frames ++ earlier) → LooksKeepRoom set (calls_by (frames ++ earlier)) → Holds tick tick earlier → Holds tick tick (frames ++ earlier)
  all-came tick [] earlier all happened keep so = so
  all-came tick (turn ∷ frames) earlier all happened keep so =
      came-step tick turn (frames ++ earlier) turn.event refl all.0 happened.1 happened.2 (tight-so set turn (frames ++ earlier) happened keep) (all-came tick frames earlier all.1 happened.2 (looks-front set (turn ∷ []) (frames ++ earlier) keep) so)

  timer-step : (tick : ℕ) (turn : RxTurn) (turns : List RxTurn) → turn.event ≡ Timer → turn.did.tick ≡ tick → RxStep set (state_after rx_new turns) turn.event turn.did → HasReceived set turns → Holds tick tick turns → Holds tick (tick + 1) (turn ∷ turns)
  timer-step tick turn turns is at row happened so =
      let step : RxStep set (state_after rx_new turns) Timer turn.did = subst (λ (e : RxEvent). RxStep set (state_after rx_new turns) e turn.did) is row in
      let here : Holds turn.did.tick turn.did.tick turns = subst (λ (t : ℕ). Holds t t turns) (sym at) so in
      let all = timed full set shape (state_after rx_new turns) (state_after rx_new turns).busy turn.did (calls_by turns) (now_of turns) (control_after turns) (came_by frames_in turns) (records_by turns) (controls_by shape turns) limits.n_ar refl (holds set turns happened) here step in
      subst (λ (t : ℕ). Holds t (t + 1) (turn ∷ turns)) at (rw (is, append-nil) (rw append-nil all))

  -- since when a reception waits, once the timer's turn is over
  going-since : (tick : ℕ) (lies : Option Meaning) (busy : Reception) (attempt : _) (own : _) → IsGoing full set tick (tick + 1) lies busy attempt own → busy.since ≤ tick
  going-since tick lies busy attempt own so = of busy.wait so.waits_for
    where
      of : (wait : RxWait) → WaitsFor full set tick (tick + 1) lies busy so.start so.frames own wait → busy.since ≤ tick
      of Box waits = waits.by
      of Room waits = omega (arith, (subst (AllByRecursion (λ c. (busy.begin ≤ c.tick) × (c.tick < tick))) waits.newest so.under.answers.within).0.1)
      of Cf waits = omega (arith, waits.since_is, (subst (AllByRecursion (λ c. (busy.begin ≤ c.tick) × (c.tick < tick))) waits.newest so.under.answers.within).0.1, last-by tick so.start.at so.frames (omega (arith, so.under.begin, so.under.by)) so.under.early)

  so-since : (tick : ℕ) (refusing : Option ℕ) (lies : Option Meaning) (busy : Option Reception) (seen : List Seen) (records : List SessionRecord) (written : List Written) → SoBy full set shape tick (tick + 1) refusing lies busy seen records written → WaitsSince tick busy
  so-since tick refusing lies None seen records written so on is = cc
  so-since tick refusing lies (Some busy) seen records written so on is = let same : busy ≡ on = cc in subst (λ (b : Reception). b.since ≤ tick) same (going-since tick lies busy so.attempt so.own so.going)

  left-since : (old : RxState) (busy : Option Reception) (turn : RxTurn) → old.busy ≡ busy → WaitsSince turn.did.tick busy → LeftRow old busy turn.did → WaitsSince turn.did.tick turn.did.new.busy
  left-since old None turn was since row on is = let none : None ≡ Some on = sym was ∙ sym (ap (λ (s : RxState). s.busy) row.new) ∙ is in cc
  left-since old (Some busy) turn was since (FromBox box row) on is =
      let both : Some (record busy { wait = awaited_after busy.left; since = turn.did.tick }) ≡ Some on = sym (ap (λ (s : RxState). s.busy) row.new) ∙ is in
      let same : record busy { wait = awaited_after busy.left; since = turn.did.tick } ≡ on = cc in subst (λ (b : Reception). b.since ≤ turn.did.tick) same (omega arith)
  left-since old (Some busy) turn was since (NotAwaited other row) on is = since on (sym (ap (λ (s : RxState). s.busy) row.new) ∙ is)

  -- a flow control that leaves
  left-step : (tick : ℕ) (meaning : Meaning) (turn : RxTurn) (turns : List RxTurn) → turn.event ≡ FcLeft → turn.did.tick ≡ tick → control_after turns ≡ Some meaning → RxStep set (state_after rx_new turns) turn.event turn.did → HasReceived set turns → Holds tick (tick + 1) turns → WaitsSince tick (state_after rx_new turns).busy →
      Holds (tick + 1) (tick + 1) (turn ∷ turns) × WaitsSince tick (state_after rx_new (turn ∷ turns)).busy
  left-step tick meaning turn turns is at lies row happened so since =
      let step : RxStep set (state_after rx_new turns) FcLeft turn.did = subst (λ (e : RxEvent). RxStep set (state_after rx_new turns) e turn.did) is row in
      let here : SoFar full set shape turn.did.tick (turn.did.tick + 1) (state_after rx_new turns) (Some meaning) (came_by frames_in turns) (records_by turns) (controls_by shape turns) =
      subst (λ (l : Option Meaning). SoFar full set shape turn.did.tick (turn.did.tick + 1) (state_after rx_new turns) l (came_by frames_in turns) (records_by turns) (controls_by shape turns)) lies (subst (λ (t : ℕ). Holds t (t + 1) turns) (sym at) so) in
      let all = gone full set shape (state_after rx_new turns) (state_after rx_new turns).busy turn.did meaning (came_by frames_in turns) (records_by turns) (controls_by shape turns) limits.n_cr limits.n_br (numbered set turns happened) refl here step in (
        subst (λ (t : ℕ). Holds (t + 1) (t + 1) (turn ∷ turns)) at (rw (is, lies) (rw append-nil all)),
        subst (λ (t : ℕ). WaitsSince t turn.did.new.busy) at (left-since (state_after rx_new turns) (state_after rx_new turns).busy turn refl (subst (λ (t : ℕ). WaitsSince t (state_after rx_new turns).busy) (sym at) since) step),
      )

  -- what is so once a tick is over
  pub record IsPast (tick : ℕ) (turns : List RxTurn) : Type 0 where
    pub holds : Holds tick tick turns
    pub since : (on : Reception) → (state_after rx_new turns).busy ≡ Some on → on.since < tick

  past : (tick : ℕ) (turns : List RxTurn) → Holds (tick + 1) (tick + 1) turns × WaitsSince tick (state_after rx_new turns).busy → IsPast (tick + 1) turns
  past tick turns both = record { holds = both.0; since = λ on is. omega (arith, both.1 on is) }

  leaves-by : (tick : ℕ) (lies : Option Meaning) (left before : List RxTurn) → control_after before ≡ lies → Leaves (IsLeftIn tick) full tick lies left → HasReceived set (left ++ before) → HasReceived set before → Holds tick (tick + 1) before → IsPast (tick + 1) (left ++ before)
  leaves-by tick lies left before is (Nothing none gone_is) happened earlier so =
      subst (λ (l : List RxTurn). IsPast (tick + 1) (l ++ before)) (sym gone_is)
      (past tick before (stay before earlier (inl (is ∙ none)) so, so-since tick (state_after rx_new before).refusing (control_after before) (state_after rx_new before).busy (came_by frames_in before) (records_by before) (controls_by shape before) so))
    where
      stay : (turns : List RxTurn) → HasReceived set turns → (control_after turns ≡ None) ⊎ (full tick ≡ true) → Holds tick (tick + 1) turns → Holds (tick + 1) (tick + 1) turns
      stay turns received still all = passes-on full set shape tick (state_after rx_new turns).refusing (control_after turns) (state_after rx_new turns).busy (came_by frames_in turns) (records_by turns) (controls_by shape turns) (numbered set turns received) still all
  leaves-by tick lies left before is (Stays meaning some gone_is busy) happened earlier so =
      subst (λ (l : List RxTurn). IsPast (tick + 1) (l ++ before)) (sym gone_is)
      (past tick before (
        passes-on full set shape tick (state_after rx_new before).refusing (control_after before) (state_after rx_new before).busy (came_by frames_in before) (records_by before) (controls_by shape before) (numbered set before earlier) (inr busy) so,
        so-since tick (state_after rx_new before).refusing (control_after before) (state_after rx_new before).busy (came_by frames_in before) (records_by before) (controls_by shape before) so,
      ))
  leaves-by tick lies left before is (Went meaning turn some left_is went) happened earlier so =
      let row : HasReceived set (turn ∷ before) = subst (λ (l : List RxTurn). HasReceived set (l ++ before)) left_is happened in
      subst (λ (l : List RxTurn). IsPast (tick + 1) (l ++ before)) (sym left_is)
      (past tick (turn ∷ before) (left-step tick meaning turn before went.0 went.1 (is ∙ some) row.1 earlier so
      (so-since tick (state_after rx_new before).refusing (control_after before) (state_after rx_new before).busy (came_by frames_in before) (records_by before) (controls_by shape before) so)))

  -- a part of a tick
  part-step : (earlier : List RxTurn) (part : Part RxTurn) → IsRxPart full earlier part → HasReceived set (part.turns ++ earlier) → LooksKeepRoom set (calls_by (part.turns ++ earlier)) → Holds part.tick part.tick earlier → IsPast (part.tick + 1) (part.turns ++ earlier)
  part-step earlier part did happened keep so =
      let before : List RxTurn = did.timer ∷ (did.came ++ earlier) in
      let is : part.turns ++ earlier ≡ did.left ++ before = ap (λ t. t ++ earlier) did.turns_are ∙ append_assoc did.left (did.timer ∷ did.came) earlier in
      let all : HasReceived set (did.left ++ before) = subst (HasReceived set) is happened in
      let here : HasReceived set before = happened-front _ did.left before all in
      let keep_all : LooksKeepRoom set (calls_by (did.left ++ before)) = subst (λ (t : List RxTurn). LooksKeepRoom set (calls_by t)) is keep in
      let keep_frames : LooksKeepRoom set (calls_by (did.came ++ earlier)) = looks-front set (did.timer ∷ []) (did.came ++ earlier) (looks-front set did.left before keep_all) in
      let frames : Holds part.tick part.tick (did.came ++ earlier) = all-came part.tick did.came earlier did.came_only here.2 keep_frames so in
      subst (IsPast (part.tick + 1)) (sym is)
      (leaves-by part.tick (control_after before) did.left before refl did.left_is all here (timer-step part.tick did.timer (did.came ++ earlier) did.timer_is did.timer_tick here.1 here.2 frames))

  -- ticks that are left out, while the receiver is idle and its box is empty
  skip-one : (tick : ℕ) (refusing : Option ℕ) (seen : List Seen) (records : List SessionRecord) (written : List Written) → CountsFrom 0 (map (λ (told : SessionRecord). told.n) records) → IdleSo full set shape tick tick refusing None seen records written → IdleSo full set shape (tick + 1) (tick + 1) refusing None seen records written
  skip-one tick None seen records written counts so = passes-on full set shape tick None None None seen records written counts (inl refl) (idle-over full set shape tick None None seen records written so refl)
  skip-one tick (Some since) seen records written counts so = let clash : None ≡ Some _ = so.box.lies_is in cc

  skip : (tick more : ℕ) (refusing : Option ℕ) (seen : List Seen) (records : List SessionRecord) (written : List Written) → CountsFrom 0 (map (λ (told : SessionRecord). told.n) records) → IdleSo full set shape tick tick refusing None seen records written → IdleSo full set shape (tick + more) (tick + more) refusing None seen records written
  skip tick zero refusing seen records written counts so = let same : tick + 0 ≡ tick = omega arith in subst (λ (t : ℕ). IdleSo full set shape t t refusing None seen records written) (sym same) so
  skip tick (suc more) refusing seen records written counts so =
      let same : tick + 1 + more ≡ tick + suc more = omega arith in
      subst (λ (t : ℕ). IdleSo full set shape t t refusing None seen records written) same (skip (tick + 1) more refusing seen records written counts (skip-one tick refusing seen records written counts so))

  pub idle-later : (tick later : ℕ) (turns : List RxTurn) → tick ≤ later → IsRxIdle turns → HasReceived set turns → Holds tick tick turns → IdleSo full set shape later later (state_after rx_new turns).refusing None (came_by frames_in turns) (records_by turns) (controls_by shape turns)
  idle-later tick later turns le idle happened so =
      let here : IdleSo full set shape tick tick (state_after rx_new turns).refusing None (came_by frames_in turns) (records_by turns) (controls_by shape turns) =
      subst (λ (l : Option Meaning). IdleSo full set shape tick tick (state_after rx_new turns).refusing l (came_by frames_in turns) (records_by turns) (controls_by shape turns)) idle.box
      (subst (λ (b : Option Reception). SoBy full set shape tick tick (state_after rx_new turns).refusing (control_after turns) b (came_by frames_in turns) (records_by turns) (controls_by shape turns)) idle.receiver so) in
      let same : tick + (later - tick) ≡ later = omega (arith, le) in
      subst (λ (t : ℕ). IdleSo full set shape t t (state_after rx_new turns).refusing None (came_by frames_in turns) (records_by turns) (controls_by shape turns)) same
      (skip tick (later - tick) (state_after rx_new turns).refusing (came_by frames_in turns) (records_by turns) (controls_by shape turns) (numbered set turns happened) here)

  -- all parts so far
  nothing-came : IsPast 0 []
  nothing-came = record {
    holds = record {
      parts = [];
      told = record { settled = tt; records_are = refl; written_are = refl; by = tt };
      last = λ front one are is. absurd (never front one are);
      box = refl;
    };
    since = λ on is. cc;
  }
    where
      never : (front : List Received) (one : Received) → [] ≡ front ++ one ∷ [] → ⊥
      never [] one is = cc
      never (x ∷ front) one is = cc

  pub parts-so : (parts : List (Part RxTurn)) → AreRxParts full parts → HasReceived set (turns_of parts) → LooksKeepRoom set (calls_by (turns_of parts)) → IsPast (tick_after parts) (turns_of parts)
  parts-so [] are happened keep = nothing-came
  parts-so (part ∷ earlier) are happened keep =
      let before : HasReceived set (turns_of earlier) = happened-front _ part.turns (turns_of earlier) happened in
      let so : IsPast (tick_after earlier) (turns_of earlier) = parts-so earlier are.1 before (looks-front set part.turns (turns_of earlier) keep) in
      part-step (turns_of earlier) part are.0.part_is happened keep (elim are.0.next [
        | inr next ↦ subst (λ (t : ℕ). Holds t t (turns_of earlier)) (sym next) so.holds
        | inl idle ↦
            let later : IdleSo full set shape part.tick part.tick (state_after rx_new (turns_of earlier)).refusing None (came_by frames_in (turns_of earlier)) (records_by (turns_of earlier)) (controls_by shape (turns_of earlier)) = idle-later (tick_after earlier) part.tick (turns_of earlier) are.0.later idle before so.holds in
            subst (λ (b : Option Reception). SoBy full set shape part.tick part.tick (state_after rx_new (turns_of earlier)).refusing (control_after (turns_of earlier)) b (came_by frames_in (turns_of earlier)) (records_by (turns_of earlier)) (controls_by shape (turns_of earlier))) (sym idle.receiver)
            (subst (λ (l : Option Meaning). IdleSo full set shape part.tick part.tick (state_after rx_new (turns_of earlier)).refusing l (came_by frames_in (turns_of earlier)) (records_by (turns_of earlier)) (controls_by shape (turns_of earlier))) (sym idle.box) later)
      ])
