-- What was put of each session, by the effects of a receiver's steps: a consecutive frame is put after a look at which destinations read.
use Rattle.std.proofs.Common.{◌≡◌, ◌≢◌, ℕ, ◌+◌, ◌<◌, ◌≤◌, Bool, true, false, Option, Some, None, List, [], ◌∷◌, ◌++◌, length, drop, take, refl, ap, sym, ◌∙◌, subst, arith, append-nil, append_assoc}
use Rattle.std.specs.List.{AllByRecursion, AllZip}
use Rattle.std.proofs.lemmas.List.{append_cancel_left}
use Rattle.std.proofs.lemmas.List.Sums.{sum_by-cons}
use Rattle.cell_stream.specs.Packing.{IsPacked}
use Rattle.flow_plan.specs.Cells.{cells_for}
use Rattle.gw_base.proofs.Lists.{all-push, zip-push}
use Rattle.hub_core.proofs.Growing.{grows-append}
use Rattle.gw_base.specs.Cell.{counted}
use Rattle.hub_core.specs.Turns.{calls_by, came_by, now_of, records_by, state_after}
use Rattle.hub_core.specs.View.{Event, Refused, View, empty_view, grows}
use Rattle.hub_core.specs.declared.port.Room.{Room}
use Rattle.hub_core.specs.declared.record.OpenedAt.{OpenedAt}
use Rattle.hub_core.specs.declared.record.SessionRecord.{SessionRecord}
use Rattle.hub_core.specs.declared.record.SessionResult.{SessionResult}
use Rattle.hub_core.specs.declared.record.SessionResult.TheVariants.{Whole, Overflow, WrongSn, RxTimeout, Restarted, NoRoom, WaitOver, NoReaders, Cancelled, RunEnd as EndOfRun}
use Rattle.tp_attempts.proofs.Cuts.{cuts-begin, cuts-grow, cuts-more, zip-grow}
use Rattle.tp_attempts.proofs.Walks.{walk_of-more}
use Rattle.tp_attempts.specs.Attempts.{attempts_in}
use Rattle.tp_attempts.specs.Cuts.{Cut}
use Rattle.tp_attempts.specs.Seen.{Seen, bytes_of, is_start, len_of}
use Rattle.tp_attempts.specs.Walk.{Piece, Walk, look_at, walk_of}
use Rattle.tp_receiver.proofs.Through.{IsThrough, step-through}
use Rattle.tp_receiver.specs.Effects.{Ends, EndsAt, Forgets, HasConsecutive, IsPassed, IsUnused, Looks, Opens, Puts, Refuses, RxDone, RxEffect, RxStage, Waits, used_after}
use Rattle.tp_receiver.specs.Runs.{HasReceived, cells_in, frames_in}
use Rattle.tp_receiver.specs.State.{Reception, RxDid, RxEvent, RxState, RxTurn, Came, Timer, FcLeft, RunEnd, rx_new}
use Rattle.tp_receiver.specs.Table.{due as busy_due, begun, ended, gone_on, puts, refused}
use Rattle.tp_receiver.specs.declared.set.RxSet.{RxSet}
use Rattle.tp_unit.specs.Unit.{Meaning, ConsecutiveFrame}
use Rattle.receiver_law.specs.PutCells.{cells_of}
use Rattle.receiver_law.specs.Source.{sessions_in}
use Rattle.receiver_law.proofs.receptions.Walks.{walk-counts, walk-ends}
use Rattle.receiver_law.proofs.records.JointReceivers.{KnownAt, known-effect, known-first}
use Rattle.receiver_law.proofs.records.SoFarSteps.{pieces-some}
use Rattle.receiver_law.proofs.records.SoFars.{IsBusy, IsIdle}
use Rattle.receiver_law.proofs.records.SourceLaws.{HoldsAt, HoldsIn, Holds, busy-at, holds, holds-effect, holds-first, holds-later, idle-at, passes, seen_so, unused-busy}
use Rattle.receiver_law.proofs.records.Tellings.{with_frame}
use Rattle.receiver_law.proofs.sessions.Stores.{cells_in-others, cells_in-puts}
use Rattle.receiver_law.proofs.records.PutCells.{BusyCells, CellsBy, IdleCells, TellsCells, attempt-of, below-told, busy-keeps, cells-more, cells_put, drop-first, ends-cells, none-more, packed-most, put-more, tells-grow, tells-keep}
use Rattle.receiver_law.proofs.records.PutLooks.{IsLookIn, LooksIn, looks-effect, looks-more}

module _ (Sees : (seq tick : ℕ) → Type 0) where
  -- what holds at a stage of a step
  abbrev CellsAt : RxSet → ℕ → RxEvent → List Seen → RxStage → List Event → List SessionRecord → Type 0
  CellsAt set tick event seen stage calls records = CellsBy Sees set stage.state.seq stage.state.busy calls (seen_so seen tick event stage.used) records

  idle-cells : (set : RxSet) (tick : ℕ) (event : RxEvent) (seen : List Seen) (seq : ℕ) (busy : Option Reception) (used : Bool) (calls : List Event) (records : List SessionRecord) → busy ≡ None → used ≡ false → CellsBy Sees set seq busy calls (seen_so seen tick event used) records → IdleCells Sees set seq calls seen records
  idle-cells set tick event seen seq busy used calls records is unused so =
      subst (λ (u : Bool). IdleCells Sees set seq calls (seen_so seen tick event u) records) unused (subst (λ (b : Option Reception). CellsBy Sees set seq b calls (seen_so seen tick event used) records) is so)

  busy-cells : (set : RxSet) (seq : ℕ) (was : Option Reception) (busy : Reception) (calls : List Event) (seen : List Seen) (records : List SessionRecord) → was ≡ Some busy → CellsBy Sees set seq was calls seen records → BusyCells Sees set seq busy calls seen records
  busy-cells set seq was busy calls seen records is so = subst (λ (b : Option Reception). CellsBy Sees set seq b calls seen records) is so

  -- a start begins a reception
  opens-cells : (set : RxSet) (seq now next : ℕ) (frame : Seen) (opened : OpenedAt) (cells : List ℕ) (busy : Reception) (calls more : List Event) (seen : List Seen) (records : List SessionRecord) → is_start set.functional frame.meaning ≡ true → opened.seq ≡ seq → busy.opened ≡ opened → IsPacked (bytes_of frame.meaning) cells →
      ((number : ℕ) → cells_in set.path.0 number more ≡ cells_in set.path.0 number (puts set.path.0 seq cells)) → IsIdle set next seq calls now seen records → IdleCells Sees set seq calls seen records → BusyCells Sees set (seq + 1) busy (calls ++ more) (seen ++ frame ∷ []) records
  opens-cells set seq now next frame opened cells busy calls more seen records start at own packed are known so =
      let others : (number : ℕ) → number ≢ seq → cells_in set.path.0 number more ≡ [] = λ number ne. are number ∙ cells_in-others set.path.0 seq number (counted cells) cells ne in
      let mine : cells_in set.path.0 seq more ≡ cells = are seq ∙ cells_in-puts set.path.0 seq (counted cells) cells in
      let number_is : busy.opened.seq ≡ seq = ap (λ (o : OpenedAt). o.seq) own ∙ at in
      record {
        earlier = attempts_in set.functional seen;
        attempt = record { start = frame; after = [] };
        cut = cuts-begin (λ (s : Seen). is_start set.functional s.meaning) seen frame start;
        told = tells-keep Sees set calls more (length (sessions_in records)) (attempts_in set.functional seen) records (below-told set calls now (attempts_in set.functional seen) records known.told) (λ number below. others number (λ is. absurd (omega (arith, is, below, known.seq_is)))) so.told;
        none = λ number above. none-more set calls more number (others number (λ is. absurd (omega (arith, is, above)))) (so.none number (omega (arith, above)));
        put = omega (
          arith,
          ap (cells_put set (calls ++ more)) number_is,
          put-more set calls more seq,
          ap length (so.none seq (omega arith)),
          ap length mine,
          packed-most (bytes_of frame.meaning) cells packed,
          sum_by-cons (λ (p : Piece). cells_for (length p.bytes)) (record { at = frame.at; bytes = bytes_of frame.meaning }) [],
        );
        found = tt;
      }

  -- a consecutive frame is put
  puts-cells : (set : RxSet) (seq next at size : ℕ) (bytes cells : List ℕ) (busy on : Reception) (calls more : List Event) (seen : List Seen) (records : List SessionRecord) → Sees busy.opened.seq at → on.opened ≡ busy.opened → busy.bytes < busy.len → size ≤ busy.size → busy_due set.a busy ≤ length bytes → IsPacked (take (busy_due set.a busy) bytes) cells →
      ((number : ℕ) → cells_in set.path.0 number more ≡ cells_in set.path.0 number (puts set.path.0 busy.opened.seq cells)) → IsBusy set next seq busy calls at seen records → BusyCells Sees set seq busy calls seen records →
      BusyCells Sees set seq on (calls ++ more) (seen ++ record { at = at; size = size; meaning = ConsecutiveFrame busy.number bytes } ∷ []) records
  puts-cells set seq next at size bytes cells busy on calls more seen records sight own left short enough packed are known so =
      let mine_at : ℕ = busy.opened.seq in
      let frame : Seen = record { at = at; size = size; meaning = ConsecutiveFrame busy.number bytes } in
      let others : (number : ℕ) → number ≢ mine_at → cells_in set.path.0 number more ≡ [] = λ number ne. are number ∙ cells_in-others set.path.0 mine_at number (counted cells) cells ne in
      let mine : cells_in set.path.0 mine_at more ≡ cells = are mine_at ∙ cells_in-puts set.path.0 mine_at (counted cells) cells in
      let piece : Piece = record { at = at; bytes = take (busy_due set.a busy) bytes } in
      let under = (attempt-of Sees set seq at next busy calls seen records known so).0 in
      let walk = walk-counts set busy calls at at size busy.number bytes so.attempt under left short enough refl in
      record {
        earlier = so.earlier;
        attempt = with_frame so.attempt frame;
        cut = cuts-more (λ (s : Seen). is_start set.functional s.meaning) seen frame so.earlier so.attempt refl so.cut;
        told = tells-keep Sees set calls more (length (sessions_in records)) so.earlier records (below-told set calls at known.earlier records known.told) (λ number below. others number (λ is. absurd (omega (arith, is, below, known.at_is)))) so.told;
        none = λ number above. none-more set calls more number (others number (λ is. absurd (omega (arith, is, above, known.at_is, known.seq_is)))) (so.none number above);
        put = omega (
          arith,
          ap (λ (o : OpenedAt). cells_put set (calls ++ more) o.seq) own,
          put-more set calls more mine_at,
          so.put,
          ap length mine,
          packed-most piece.bytes cells packed,
          cells-more (walk_of set.a so.attempt).pieces piece,
          ap (λ (w : Walk). cells_of w.pieces) walk,
        );
        found = subst (λ (o : OpenedAt). AllByRecursion (λ (p : Piece). Sees o.seq p.at) (drop 1 (walk_of set.a (with_frame so.attempt frame)).pieces)) (sym own)
            (subst (λ (w : Walk). AllByRecursion (λ (p : Piece). Sees mine_at p.at) (drop 1 w.pieces)) (sym walk)
            (subst (λ (l : List Piece). AllByRecursion (λ (p : Piece). Sees mine_at p.at) l) (sym (drop-first (walk_of set.a so.attempt).pieces piece (pieces-some set.a so.attempt)))
            (all-push (λ (p : Piece). Sees mine_at p.at) (drop 1 (walk_of set.a so.attempt).pieces) piece so.found sight)));
      }

  -- a reception ends, by its result
  ends-by : (set : RxSet) (tick : ℕ) (event : RxEvent) (seen : List Seen) (old : RxStage) (busy : Reception) (how : SessionResult) (calls more : List Event) (records : List SessionRecord) → HoldsIn set tick event seen old.state.next old.state.seq (Some busy) old.used calls records →
      BusyCells Sees set old.state.seq busy calls (seen_so seen tick event old.used) records → ((number : ℕ) → cells_in set.path.0 number more ≡ []) → EndsAt set event old busy how →
      IdleCells Sees set old.state.seq (calls ++ more) (seen_so seen tick event (used_after how old.used)) (records ++ ended set busy how tick ∷ [])
  ends-by set tick event seen old busy Whole calls more records known so nothing at = ends-cells Sees set _ tick _ busy Whole tick calls more _ _ records so.attempt known.0 so nothing so.cut refl
  ends-by set tick event seen old busy (Overflow change free need) calls more records known so nothing at = absurd at
  ends-by set tick event seen old busy (WrongSn want got) calls more records known so nothing at =
      let came : HasConsecutive set event old busy at.2.0 got at.2.1 = at.2.2 in
      let frame : Seen = record { at = tick; size = at.2.0; meaning = ConsecutiveFrame got at.2.1 } in
      let known_then : IsBusy set old.state.next old.state.seq busy calls tick seen records = unused-busy set tick event seen _ _ busy old.used calls records came.unused known in
      let so_then : BusyCells Sees set old.state.seq busy calls seen records = subst (λ (u : Bool). BusyCells Sees set old.state.seq busy calls (seen_so seen tick event u) records) came.unused so in
      let under = (attempt-of Sees set old.state.seq tick old.state.next busy calls seen records known_then so_then).0 in
      let wrong : IdleCells Sees set old.state.seq (calls ++ more) (seen ++ frame ∷ []) (records ++ ended set busy (WrongSn want got) tick ∷ []) =
      ends-cells Sees set _ tick _ busy (WrongSn want got) tick calls more seen (seen ++ frame ∷ []) records (with_frame so_then.attempt frame) known_then so_then nothing (cuts-more (λ (s : Seen). is_start set.functional s.meaning) seen frame so_then.earlier so_then.attempt refl so_then.cut)
      (walk-ends set busy calls tick tick at.2.0 got at.2.1 so_then.attempt under (known.1 came.unused) came.looked.short came.looked.enough at.1) in
      rw came.came wrong
  ends-by set tick event seen old busy (RxTimeout limit) calls more records known so nothing at = ends-cells Sees set _ tick _ busy (RxTimeout limit) tick calls more _ _ records so.attempt known.0 so nothing so.cut refl
  ends-by set tick event seen old busy Restarted calls more records known so nothing at = ends-cells Sees set _ tick _ busy Restarted tick calls more _ _ records so.attempt known.0 so nothing so.cut refl
  ends-by set tick event seen old busy (NoRoom room need) calls more records known so nothing at = ends-cells Sees set _ tick _ busy (NoRoom room need) tick calls more _ _ records so.attempt known.0 so nothing so.cut refl
  ends-by set tick event seen old busy WaitOver calls more records known so nothing at = ends-cells Sees set _ tick _ busy WaitOver tick calls more _ _ records so.attempt known.0 so nothing so.cut refl
  ends-by set tick event seen old busy NoReaders calls more records known so nothing at = ends-cells Sees set _ tick _ busy NoReaders tick calls more _ _ records so.attempt known.0 so nothing so.cut refl
  ends-by set tick event seen old busy Cancelled calls more records known so nothing at = absurd at
  ends-by set tick event seen old busy (EndOfRun wait since) calls more records known so nothing at = ends-cells Sees set _ tick _ busy (EndOfRun wait since) tick calls more _ _ records so.attempt known.0 so nothing so.cut refl

  -- each effect
  cells-effect : (set : RxSet) (event : RxEvent) (tick : ℕ) (seen : List Seen) (old : RxStage) (done : RxDone) (calls : List Event) (records : List SessionRecord) → RxEffect set event tick old done → ((busy : Reception) (look : Room) → old.state.busy ≡ Some busy → old.look ≡ Some look → 0 < look.readers → Sees busy.opened.seq tick) →
      HoldsAt set tick event seen old calls records → CellsAt set tick event seen old calls records →
      CellsAt set tick event seen done.new (calls ++ done.calls) (records ++ done.records)
  cells-effect set event tick seen old done calls records (Refuses e) sight known so =
      let frame : Seen = record { at = tick; size = e.size; meaning = e.meaning } in
      let idle : IsIdle set old.state.next old.state.seq calls tick seen records = idle-at set tick event seen _ _ old.state.busy old.used calls records e.of.idle e.of.unused known in
      let cells : IdleCells Sees set old.state.seq calls seen records = idle-cells set tick event seen old.state.seq old.state.busy old.used calls records e.of.idle e.of.unused so in
      let more : List Event = Refused set.group.0 e.number e.free _ ∷ [] in
      let r : SessionRecord = refused set old.state.next (len_of e.meaning) tick e.number e.free _ in
      let P : List (Cut Seen) → Type 0 = λ attempts. AllZip (TellsCells Sees set (calls ++ more)) attempts (records ++ r ∷ []) in
      rw (e.calls, e.records, e.new, e.of.came, e.of.idle) (record {
        told = subst P (sym (cuts-begin (λ (s : Seen). is_start set.functional s.meaning) seen frame e.of.start)) (zip-push (TellsCells Sees set (calls ++ more)) (attempts_in set.functional seen) records (record { start = frame; after = [] }) r
            (tells-keep Sees set calls more (length (sessions_in records)) (attempts_in set.functional seen) records (below-told set calls tick (attempts_in set.functional seen) records idle.told) (λ number below. refl) cells.told) (λ opened at. cc));
        none = λ number above. none-more set calls more number refl (cells.none number above);
      })
  cells-effect set event tick seen old done calls records (Opens e) sight known so =
      let frame : Seen = record { at = tick; size = e.size; meaning = e.meaning } in
      let idle : IsIdle set old.state.next old.state.seq calls tick seen records = idle-at set tick event seen _ _ old.state.busy old.used calls records e.of.idle e.of.unused known in
      let cells : IdleCells Sees set old.state.seq calls seen records = idle-cells set tick event seen old.state.seq old.state.busy old.used calls records e.of.idle e.of.unused so in
      rw (e.records, e.new, e.of.came, append-nil)
      (opens-cells set old.state.seq tick old.state.next frame e.opened e.opens.cells (begun old.state.next (len_of e.meaning) e.size (length (bytes_of e.meaning)) tick e.opened) calls done.calls seen records e.of.start e.opens.seq_is refl e.opens.packed (λ number. ap (cells_in set.path.0 number) e.opens.calls_are) idle cells)
  cells-effect set event tick seen old done calls records (Looks e) sight known so =
      let on = busy-at set tick event seen _ _ old.state.busy e.busy old.used calls records e.was known in
      let cells = busy-cells set old.state.seq old.state.busy e.busy calls (seen_so seen tick event old.used) records e.was so in
      rw (e.calls, e.records, e.new, e.was, append-nil) (busy-keeps Sees set _ tick _ e.busy calls _ (seen_so seen tick event old.used) records (λ number. refl) on.0 cells)
  cells-effect set event tick seen old done calls records (Puts e) sight known so =
      let on = busy-at set tick event seen _ _ old.state.busy e.busy old.used calls records e.was known in
      let cells = busy-cells set old.state.seq old.state.busy e.busy calls (seen_so seen tick event old.used) records e.was so in
      let then : BusyCells Sees set old.state.seq e.busy calls seen records = subst (λ (u : Bool). BusyCells Sees set old.state.seq e.busy calls (seen_so seen tick event u) records) e.of.unused cells in
      rw (e.calls, e.records, e.new, e.of.came, append-nil)
      (puts-cells set _ _ tick e.size e.bytes e.cells e.busy (gone_on e.busy (length (take (busy_due set.a e.busy) e.bytes)) tick) calls _ seen records (sight e.busy e.look e.was e.looked e.some) refl (on.1 e.of.unused) e.of.looked.short e.of.looked.enough e.packed (λ number. refl)
      (unused-busy set tick event seen _ _ e.busy old.used calls records e.of.unused on) then)
  cells-effect set event tick seen old done calls records (Waits e) sight known so =
      let cells = busy-cells set old.state.seq old.state.busy e.busy calls (seen_so seen tick event old.used) records e.was so in
      rw (e.calls, e.records, e.new, append-nil, append-nil) (record { earlier = cells.earlier; attempt = cells.attempt; cut = cells.cut; told = cells.told; none = cells.none; put = cells.put; found = cells.found })
  cells-effect set event tick seen old done calls records (Forgets e) sight known so = rw (e.calls, e.records, e.new, append-nil, append-nil) so
  cells-effect set event tick seen old done calls records (Ends e) sight known so =
      let on = busy-at set tick event seen _ _ old.state.busy e.busy old.used calls records e.was known in
      let cells = busy-cells set old.state.seq old.state.busy e.busy calls (seen_so seen tick event old.used) records e.was so in
      rw (e.records, e.new) (ends-by set tick event seen old e.busy e.result calls done.calls records on cells (λ number. ap (cells_in set.path.0 number) e.calls) e.at)

  -- after the last effect: a frame that isn't used is passed over
  passed-cells : (set : RxSet) (tick size : ℕ) (meaning : Meaning) (seen : List Seen) (next seq : ℕ) (busy : Option Reception) (calls : List Event) (records : List SessionRecord) → HoldsIn set tick (Came size meaning) seen next seq busy false calls records → CellsBy Sees set seq busy calls seen records →
      is_start set.functional meaning ≡ false → ((going : Reception) → busy ≡ Some going → IsPassed set going size meaning) → CellsBy Sees set seq busy calls (seen ++ record { at = tick; size = size; meaning = meaning } ∷ []) records
  passed-cells set tick size meaning seen next seq None calls records known so other passed =
      let frame : Seen = record { at = tick; size = size; meaning = meaning } in
      let P : List (Cut Seen) → Type 0 = λ attempts. AllZip (TellsCells Sees set calls) attempts records in
      record {
        told = subst P (sym (cuts-grow (λ (s : Seen). is_start set.functional s.meaning) seen frame other)) (zip-grow (TellsCells Sees set calls) frame (attempts_in set.functional seen) records (λ attempt told. tells-grow Sees set calls frame attempt told) so.told);
        none = so.none;
      }
  passed-cells set tick size meaning seen next seq (Some busy) calls records known so other passed =
      let frame : Seen = record { at = tick; size = size; meaning = meaning } in
      let same = (attempt-of Sees set seq tick next busy calls seen records known.0 so).1 in
      let A : Cut Seen → Type 0 = λ a. look_at set.a (walk_of set.a a) tick size meaning ≡ walk_of set.a a in
      let walk : walk_of set.a (with_frame so.attempt frame) ≡ walk_of set.a so.attempt = walk_of-more set.a so.attempt frame ∙ subst A same (passes set next seq busy calls seen records tick size meaning known.0 other (passed busy refl)) in
      record {
        earlier = so.earlier;
        attempt = with_frame so.attempt frame;
        cut = cuts-more (λ (s : Seen). is_start set.functional s.meaning) seen frame so.earlier so.attempt other so.cut;
        told = so.told;
        none = so.none;
        put = omega (arith, so.put, ap (λ (w : Walk). cells_of w.pieces) walk);
        found = subst (λ (w : Walk). AllByRecursion (λ (p : Piece). Sees busy.opened.seq p.at) (drop 1 w.pieces)) (sym walk) so.found;
      }

  last-cells : (set : RxSet) (tick : ℕ) (event : RxEvent) (seen : List Seen) (state : RxState) (used : Bool) (calls : List Event) (records : List SessionRecord) → HoldsIn set tick event seen state.next state.seq state.busy used calls records → CellsBy Sees set state.seq state.busy calls (seen_so seen tick event used) records →
      (used ≡ false → IsUnused set event state) → CellsBy Sees set state.seq state.busy calls (seen ++ frames_in tick event) records
  last-cells set tick event seen state true calls records known so unused = so
  last-cells set tick (Came size meaning) seen state false calls records known so unused = passed-cells set tick size meaning seen state.next state.seq state.busy calls records known so (unused refl).0 (unused refl).1
  last-cells set tick Timer seen state false calls records known so unused = rw append-nil so
  last-cells set tick FcLeft seen state false calls records known so unused = rw append-nil so
  last-cells set tick RunEnd seen state false calls records known so unused = rw append-nil so

  -- what holds at a stage, where all calls of the step are these
  abbrev SeenAt : RxSet → ℕ → RxEvent → List Seen → (first whole : List Event) → RxStage → List Event → List SessionRecord → Type 0
  SeenAt set tick event seen first whole stage calls records =
      HoldsAt set tick event seen stage calls records × KnownAt set (grows calls empty_view) records stage × LooksIn set first stage calls × ((rest : List Event) → calls ++ rest ≡ first ++ whole → CellsAt set tick event seen stage calls records)

  -- a look of a step at which destinations read
  abbrev pub SeesIn : RxSet → (first calls : List Event) → (tick : ℕ) → Type 0
  SeesIn set first calls tick = (seq readers : ℕ) → IsLookIn set first calls seq readers → 0 < readers → Sees seq tick

  seen-effect : (set : RxSet) (event : RxEvent) (tick : ℕ) (seen : List Seen) (first whole : List Event) → SeesIn set first whole tick → (old : RxStage) (done : RxDone) (calls : List Event) (records : List SessionRecord) → RxEffect set event tick old done →
      SeenAt set tick event seen first whole old calls records → SeenAt set tick event seen first whole done.new (calls ++ done.calls) (records ++ done.records)
  seen-effect set event tick seen first whole sees old done calls records effect so = (
    holds-effect set event tick seen old done calls records effect so.0,
    subst (λ (v : View). KnownAt set v (records ++ done.records) done.new) (sym (grows-append calls done.calls empty_view)) (known-effect set event tick old done (grows calls empty_view) records effect so.1),
    looks-effect set event tick first old done calls records effect so.1 so.2,
    λ rest is.
        let all : calls ++ (done.calls ++ rest) ≡ first ++ whole = sym (append_assoc calls done.calls rest) ∙ is in
        cells-effect set event tick seen old done calls records effect
        (λ busy look was looked some.
        let at : IsLookIn set first so.2.0 busy.opened.seq look.readers = so.2.2 busy look was looked in
        let same : whole ≡ so.2.0 ++ (done.calls ++ rest) = append_cancel_left first whole _ (sym all ∙ ap (λ c. c ++ (done.calls ++ rest)) so.2.1 ∙ append_assoc first so.2.0 (done.calls ++ rest)) in
        sees busy.opened.seq look.readers (subst (λ (c : List Event). IsLookIn set first c busy.opened.seq look.readers) (sym same) (looks-more set first so.2.0 (done.calls ++ rest) busy.opened.seq look.readers at)) some)
        so.0 (so.3 (done.calls ++ rest) all),
  )

  -- all turns
  abbrev pub AllSee : RxSet → List RxTurn → Type 0
  AllSee set [] = Unit {0}
  AllSee set (turn ∷ earlier) = SeesIn set (calls_by earlier) turn.did.calls turn.did.tick × AllSee set earlier

  cells-by : (set : RxSet) (turns : List RxTurn) → HasReceived set turns → AllSee set turns → CellsBy Sees set (state_after rx_new turns).seq (state_after rx_new turns).busy (calls_by turns) (came_by frames_in turns) (records_by turns)
  cells-by set [] happened see = record { told = tt; none = λ number above. refl }
  cells-by set (turn ∷ earlier) happened see =
      let old : RxState = state_after rx_new earlier in
      let m : RxDid = turn.did in
      let seen : List Seen = came_by frames_in earlier in
      let first : List Event = calls_by earlier in
      let known : Holds set old first m.tick seen (records_by earlier) = holds-later set old.next old.seq old.busy first (now_of earlier) m.tick seen (records_by earlier) happened.0 (holds set earlier happened.2) in
      let before = cells-by set earlier happened.2 see.1 in
      let by : IsThrough set turn.event m (λ last. SeenAt set m.tick turn.event seen first m.calls last (first ++ m.calls) (records_by earlier ++ m.records)) =
      step-through set old turn.event m (SeenAt set m.tick turn.event seen first m.calls) (λ stage done calls records effect so. seen-effect set turn.event m.tick seen first m.calls see.0 stage done calls records effect so) happened.1 first (records_by earlier)
      (holds-first set m.tick turn.event seen old.next old.seq old.busy first (records_by earlier) known, known-first set earlier happened.2, ([], sym (append-nil first), λ busy look was none. cc), λ rest is. before) in
      subst (λ (s : RxState). CellsBy Sees set s.seq s.busy (first ++ m.calls) (seen ++ frames_in m.tick turn.event) (records_by earlier ++ m.records)) (sym by.state)
      (last-cells set m.tick turn.event seen by.last.state by.last.used (first ++ m.calls) (records_by earlier ++ m.records) by.holds.0 (by.holds.3 [] (append-nil (first ++ m.calls))) by.unused)

  idle-by : (set : RxSet) (seq : ℕ) (busy : Option Reception) (calls : List Event) (seen : List Seen) (records : List SessionRecord) → busy ≡ None → CellsBy Sees set seq busy calls seen records → IdleCells Sees set seq calls seen records
  idle-by set seq None calls seen records is so = so
  idle-by set seq (Some busy) calls seen records is so = cc

  -- where no reception is in progress each record tells of its session's cells
  pub cells-told : (set : RxSet) (turns : List RxTurn) → HasReceived set turns → (state_after rx_new turns).busy ≡ None → AllSee set turns → AllZip (TellsCells Sees set (calls_by turns)) (attempts_in set.functional (came_by frames_in turns)) (records_by turns)
  cells-told set turns happened idle see = (idle-by set (state_after rx_new turns).seq (state_after rx_new turns).busy (calls_by turns) (came_by frames_in turns) (records_by turns) idle (cells-by set turns happened see)).told
