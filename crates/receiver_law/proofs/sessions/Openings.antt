-- The sessions that a receiver's calls make: their cells are what was put, and its records tell their lengths and buffers.
use Rattle.std.proofs.Common.{◌≡◌, ℕ, ◌+◌, ◌<◌, Bool, true, false, Option, Some, None, if◌then◌else◌, List, [], ◌∷◌, ◌++◌, length, map, refl, ap, sym, ◌∙◌, subst, arith, append-nil, append_assoc, eq-eqb}
use Rattle.std.specs.Prelude.{◌-◌}
use Rattle.std.specs.List.{flat_map}
use Rattle.gw_base.specs.Cell.{counted}
use Rattle.hub_core.specs.Calls.{freed_by}
use Rattle.hub_core.specs.Turns.{calls_by, state_after, records_by}
use Rattle.hub_core.specs.View.{View, Event, Session, Change, empty_view, session_new, grow, grows, Took, Refused, Entered, Asked, Put, Published, Closed}
use Rattle.hub_core.proofs.Growing.{at_one-same}
use Rattle.hub_core.specs.declared.record.OpenedAt.{OpenedAt}
use Rattle.hub_core.specs.declared.record.SessionRecord.{SessionRecord}
use Rattle.hub_core.specs.declared.record.SessionResult.{SessionResult}
use Rattle.hub_core.specs.declared.record.SessionResult.TheVariants.{Whole, Overflow, WrongSn, RxTimeout, Restarted, NoRoom, WaitOver, NoReaders, Cancelled, RunEnd as EndOfRun}
use Rattle.tp_receiver.specs.declared.set.RxSet.{RxSet}
use Rattle.tp_receiver.specs.Effects.{Ends, Forgets, HasConsecutive, EndsAt, IsUnused, Looks, Opens, Puts, Refuses, RxDone, RxEffect, RxStage, Waits, first_stage, used_after}
use Rattle.tp_receiver.specs.Grant.{need_of}
use Rattle.tp_receiver.specs.Runs.{HasReceived}
use Rattle.tp_receiver.specs.State.{Reception, RxState, RxEvent, Came, Timer, FcLeft, RunEnd, RxTurn, rx_new}
use Rattle.tp_receiver.specs.Table.{Opens as OpensSession, begun, puts}
use Rattle.tp_receiver.proofs.Through.{IsThrough, step-through}
use Rattle.hub_core.proofs.Sides.{Fill, fill-adds, fill-changes, fill-join, fill-none, fill-pushes, fill-same}
use Rattle.receiver_law.proofs.sessions.Entries.{entry_by, writing, entries_told, entry_going, outcome_by, need_by, need_at, need_in, needs_by, IsBelow, Enters, enters-none, enters-join}

fill-took : (group path n number buf size need : ℕ) → Fill (writing path) n (Took group number buf size need ∷ [])
unfolding grow
fill-took group path n number buf size need = fill-same (writing path) n (Took group number buf size need) refl (λ k. refl) (λ v. refl)

fill-refused : (group path n number free need : ℕ) → Fill (writing path) n (Refused group number free need ∷ [])
unfolding grow
fill-refused group path n number free need = fill-same (writing path) n (Refused group number free need) refl (λ k. refl) (λ v. refl)

fill-entered : (path n seq buf number size len readers : ℕ) → Fill (writing path) n (Entered path seq buf number size len readers ∷ [])
unfolding grow
fill-entered path n seq buf number size len readers =
    let s : Session = session_new buf number size len readers in
    fill-pushes (writing path) n (Entered path seq buf number size len readers) s refl (λ k. refl) (λ v. at_one-same path (v.sessions path ++ s ∷ []) v.sessions) refl

fill-asked : (path n seq room readers : ℕ) → Fill (writing path) n (Asked path seq room readers ∷ [])
unfolding grow
fill-asked path n seq room readers = fill-changes (writing path) n seq (Asked path seq room readers) (λ s. record s { room = room; readers = readers }) refl (λ k. refl) (λ v. at_one-same path _ v.sessions) (λ s. refl) (λ s. refl)

fill-closed : (path n seq : ℕ) (freed : List Change) → Fill (writing path) n (Closed path seq freed ∷ [])
unfolding grow
fill-closed path n seq freed = fill-changes (writing path) n seq (Closed path seq freed) (λ s. record s { stands = false }) refl (λ k. refl) (λ v. at_one-same path _ v.sessions) (λ s. refl) (λ s. refl)

fill-published : (path n seq bytes : ℕ) → Fill (writing path) n (Published path seq bytes ∷ [])
unfolding grow
fill-published path n seq bytes =
    fill-changes (writing path) n seq (Published path seq bytes) (λ s. record s { shown = length s.cells; told = s.told + bytes }) refl (λ k. refl) (λ v. at_one-same path _ v.sessions) (λ s. refl) (λ s. refl)

fill-put : (path n seq cell : ℕ) → seq < n → Fill (writing path) n (Put path seq cell ∷ [])
unfolding grow
fill-put path n seq cell below =
    fill-adds (writing path) n seq cell (Put path seq cell) (λ s. record s { cells = s.cells ++ cell ∷ []; room = s.room - 1 }) refl (λ k. rw (eq-eqb path path refl) refl) (λ v. at_one-same path _ v.sessions) (λ s. refl) (λ s. refl) below

fill-cells : (path n seq count : ℕ) (cells : List ℕ) → seq < n → Fill (writing path) n (map (λ cell. Put path seq cell) cells ++ Published path seq count ∷ [])
fill-cells path n seq count [] below = fill-published path n seq count
fill-cells path n seq count (cell ∷ cells) below =
    fill-join (writing path) n n (Put path seq cell ∷ []) (map (λ cell. Put path seq cell) cells ++ Published path seq count ∷ []) (omega arith) (fill-put path n seq cell below) (fill-cells path n seq count cells below)

none-puts : {B : Type 0} (by : Event → List B) (path seq count : ℕ) (cells : List ℕ) → ((cell : ℕ) → by (Put path seq cell) ≡ []) → by (Published path seq count) ≡ [] → flat_map by (map (λ cell. Put path seq cell) cells ++ Published path seq count ∷ []) ≡ []
none-puts by path seq count [] put none = rw none refl
none-puts by path seq count (cell ∷ cells) put none = rw (put cell) (none-puts by path seq count cells put none)

-- the needs of a step so far: that of its start, once its frame is used
abbrev needs_so : RxSet → RxEvent → Bool → List ℕ
needs_so set event used = if used then need_in set event else []

-- what an effect adds
record EntersBy (set : RxSet) (event : RxEvent) (old : RxStage) (calls : List Event) (records : List SessionRecord) (new : RxStage) : Type 0 where
  more : List ℕ
  enters : Enters set.path.0 old.state.seq more old.state.busy calls records new.state.seq new.state.busy
  needs : needs_so set event old.used ++ more ≡ needs_so set event new.used

opens-so : (set : RxSet) (next seq len size count tick : ℕ) (bytes : List ℕ) (opened : OpenedAt) (opening : List Event) → OpensSession set seq size len bytes opened opening → Enters set.path.0 seq (need_of set size len (length bytes) ∷ []) None opening [] (seq + 1) (Some (begun next len size count tick opened))
opens-so set next seq len size count tick bytes opened opening row =
    let path : ℕ = set.path.0 in
    let took : Event = Took set.group.0 opened.change opened.buf.0 row.buffer row.need in
    let entered : Event = Entered path seq opened.buf.0 opened.change row.buffer len set.readers in
    let put : List Event = puts path seq row.cells in
    rw row.calls_are (record {
      fill = fill-join (writing path) seq seq (took ∷ []) (entered ∷ put) (omega arith) (fill-took set.group.0 path seq opened.change opened.buf.0 row.buffer row.need)
          (fill-join (writing path) seq (seq + 1) (entered ∷ []) put refl (fill-entered path seq seq opened.buf.0 opened.change row.buffer len set.readers) (fill-cells path (seq + 1) seq (counted row.cells) row.cells (omega arith)));
      count = rw (none-puts entry_by path seq (counted row.cells) row.cells (λ cell. refl) refl) refl;
      entries = rw (none-puts entry_by path seq (counted row.cells) row.cells (λ cell. refl) refl) refl;
      outcomes = rw (none-puts outcome_by path seq (counted row.cells) row.cells (λ cell. refl) refl) refl;
      needs_are = rw (none-puts need_by path seq (counted row.cells) row.cells (λ cell. refl) refl, row.need_is) refl;
      below = omega (arith, row.seq_is);
    })

-- calls on the session that is going on, which open nothing and ask for no buffer
going : (path seq : ℕ) (busy new : Reception) (calls : List Event) → busy.opened.seq < seq → new.len ≡ busy.len → new.opened ≡ busy.opened → Fill (writing path) seq calls → flat_map entry_by calls ≡ [] → flat_map outcome_by calls ≡ [] → flat_map need_by calls ≡ [] →
    Enters path seq [] (Some busy) calls [] seq (Some new)
going path seq busy new calls below len opened fill entries outcomes needs = record {
  fill = fill;
  count = rw entries (omega arith);
  entries = rw (entries, len, opened) refl;
  outcomes = rw (outcomes, opened) refl;
  needs_are = needs;
  below = subst (λ (o : OpenedAt). o.seq < seq) (sym opened) below;
}

pub below-of : (n : ℕ) (was : Option Reception) (busy : Reception) → was ≡ Some busy → IsBelow n was → busy.opened.seq < n
below-of n was busy is below = subst (IsBelow n) is below

-- an end uses its frame where its number is wrong, and that is no start
needs-ended : (set : RxSet) (event : RxEvent) (old : RxStage) (busy : Reception) (result : SessionResult) → EndsAt set event old busy result → needs_so set event old.used ++ [] ≡ needs_so set event (used_after result old.used)
needs-ended set event old busy Whole at = append-nil (needs_so set event old.used)
needs-ended set event old busy (Overflow change free need) at = absurd at
needs-ended set event old busy (WrongSn want got) at = let came : HasConsecutive set event old busy at.2.0 got at.2.1 = at.2.2 in rw (came.unused, came.came) refl
needs-ended set event old busy (RxTimeout limit) at = append-nil (needs_so set event old.used)
needs-ended set event old busy Restarted at = append-nil (needs_so set event old.used)
needs-ended set event old busy (NoRoom room need) at = append-nil (needs_so set event old.used)
needs-ended set event old busy WaitOver at = append-nil (needs_so set event old.used)
needs-ended set event old busy NoReaders at = append-nil (needs_so set event old.used)
needs-ended set event old busy Cancelled at = append-nil (needs_so set event old.used)
needs-ended set event old busy (EndOfRun wait since) at = append-nil (needs_so set event old.used)

-- each effect
enters-effect : (set : RxSet) (event : RxEvent) (tick : ℕ) (old : RxStage) (done : RxDone) → RxEffect set event tick old done → IsBelow old.state.seq old.state.busy → EntersBy set event old done.calls done.records done.new
enters-effect set event tick old done (Refuses e) below = record {
  more = need_at set e.size e.meaning ∷ [];
  enters = rw (e.calls, e.records, e.new, e.of.idle) (record { fill = fill-refused set.group.0 set.path.0 old.state.seq e.number e.free (need_at set e.size e.meaning); count = omega arith; entries = refl; outcomes = refl; needs_are = refl; below = tt });
  needs = rw (e.of.unused, e.new, e.of.came, e.of.start) refl;
}
enters-effect set event tick old done (Opens e) below = record {
  more = need_at set e.size e.meaning ∷ [];
  enters = rw (e.of.idle, e.records, e.new) (opens-so set old.state.next old.state.seq _ e.size _ tick _ e.opened done.calls e.opens);
  needs = rw (e.of.unused, e.new, e.of.came, e.of.start) refl;
}
enters-effect set event tick old done (Looks e) below = record {
  more = [];
  enters = rw (e.calls, e.records, e.new, e.was) (going set.path.0 old.state.seq e.busy e.busy _ (below-of old.state.seq old.state.busy e.busy e.was below) refl refl (fill-asked set.path.0 old.state.seq e.busy.opened.seq e.look.cells e.look.readers) refl refl refl);
  needs = rw (e.new, append-nil) refl;
}
enters-effect set event tick old done (Puts e) below =
    let inside : e.busy.opened.seq < old.state.seq = below-of old.state.seq old.state.busy e.busy e.was below in
    record {
      more = [];
      enters = rw (e.was, e.calls, e.records, e.new) (going set.path.0 old.state.seq e.busy _ _ inside refl refl (fill-cells set.path.0 old.state.seq e.busy.opened.seq (counted e.cells) e.cells inside)
          (none-puts entry_by set.path.0 e.busy.opened.seq (counted e.cells) e.cells (λ cell. refl) refl) (none-puts outcome_by set.path.0 e.busy.opened.seq (counted e.cells) e.cells (λ cell. refl) refl) (none-puts need_by set.path.0 e.busy.opened.seq (counted e.cells) e.cells (λ cell. refl) refl));
      needs = rw (e.of.unused, e.new, e.of.came) refl;
    }
enters-effect set event tick old done (Waits e) below = record {
  more = [];
  enters = rw (e.was, e.calls, e.records, e.new) (going set.path.0 old.state.seq e.busy _ [] (below-of old.state.seq old.state.busy e.busy e.was below) refl refl (fill-none (writing set.path.0) old.state.seq) refl refl refl);
  needs = rw (e.new, append-nil) refl;
}
enters-effect set event tick old done (Forgets e) below = record {
  more = [];
  enters = rw (e.calls, e.records, e.new) (enters-none set.path.0 old.state.seq old.state.busy below);
  needs = rw (e.new, append-nil) refl;
}
enters-effect set event tick old done (Ends e) below = record {
  more = [];
  enters = rw (e.was, e.calls, e.records, e.new) (record { fill = fill-closed set.path.0 old.state.seq e.busy.opened.seq (freed_by e.left); count = omega arith; entries = refl; outcomes = refl; needs_are = refl; below = tt });
  needs = rw e.new (needs-ended set event old e.busy e.result e.at);
}

-- a step so far, after earlier ones
abbrev EntersSo : RxSet → RxEvent → List ℕ → RxStage → List Event → List SessionRecord → Type 0
EntersSo set event needs stage calls records = Enters set.path.0 0 (needs ++ needs_so set event stage.used) None calls records stage.state.seq stage.state.busy

enters-on : (set : RxSet) (event : RxEvent) (tick : ℕ) (needs : List ℕ) (old : RxStage) (done : RxDone) (calls : List Event) (records : List SessionRecord) → RxEffect set event tick old done → EntersSo set event needs old calls records → EntersSo set event needs done.new (calls ++ done.calls) (records ++ done.records)
enters-on set event tick needs old done calls records effect so =
    let by : EntersBy set event old done.calls done.records done.new = enters-effect set event tick old done effect so.below in
    let all : (needs ++ needs_so set event old.used) ++ by.more ≡ needs ++ needs_so set event done.new.used = append_assoc needs (needs_so set event old.used) by.more ∙ ap (λ n. needs ++ n) by.needs in
    subst (λ (n : List ℕ). Enters set.path.0 0 n None (calls ++ done.calls) (records ++ done.records) done.new.state.seq done.new.state.busy) all
    (enters-join set.path.0 0 old.state.seq done.new.state.seq (needs ++ needs_so set event old.used) by.more None old.state.busy done.new.state.busy calls done.calls records done.records so by.enters)

-- a frame that isn't used is no start
needs-unused : (set : RxSet) (event : RxEvent) (state : RxState) (used : Bool) → (used ≡ false → IsUnused set event state) → needs_so set event used ≡ need_in set event
needs-unused set event state true unused = refl
needs-unused set (Came size meaning) state false unused = rw (unused refl).0 refl
needs-unused set Timer state false unused = refl
needs-unused set FcLeft state false unused = refl
needs-unused set RunEnd state false unused = refl

-- a whole run
pub openings : (set : RxSet) (turns : List RxTurn) → HasReceived set turns → Enters set.path.0 0 (needs_by set turns) None (calls_by turns) (records_by turns) (state_after rx_new turns).seq (state_after rx_new turns).busy
openings set [] happened = enters-none set.path.0 0 None tt
openings set (turn ∷ earlier) happened =
    let needs : List ℕ = needs_by set earlier in
    let first : EntersSo set turn.event needs (first_stage (state_after rx_new earlier)) (calls_by earlier) (records_by earlier) = rw append-nil (openings set earlier happened.2) in
    let by : IsThrough set turn.event turn.did (λ last. EntersSo set turn.event needs last (calls_by earlier ++ turn.did.calls) (records_by earlier ++ turn.did.records)) =
    step-through set (state_after rx_new earlier) turn.event turn.did (EntersSo set turn.event needs) (enters-on set turn.event turn.did.tick needs) happened.1 (calls_by earlier) (records_by earlier) first in
    rw (by.state, ← needs-unused set turn.event by.last.state by.last.used by.unused) by.holds

-- the sessions of a view that has these calls' sessions are those that the records tell
pub entries-are : (set : RxSet) (turns : List RxTurn) (v : View) → HasReceived set turns → (state_after rx_new turns).busy ≡ None → v.sessions set.path.0 ≡ (grows (calls_by turns) empty_view).sessions set.path.0 → map (writing set.path.0).fixed (v.sessions set.path.0) ≡ entries_told (records_by turns)
entries-are set turns v happened idle sessions =
    let put = openings set turns happened in
    ap (map (writing set.path.0).fixed) sessions ∙ (put.fill empty_view refl).fixed ∙ put.entries ∙ ap (λ b. entries_told (records_by turns) ++ entry_going b) idle ∙ append-nil (entries_told (records_by turns))
