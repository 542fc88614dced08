-- A consecutive frame that comes, by the rows of the receiver's table.
use Rattle.receiver_law.proofs.receptions.RoomSteps.{IsTight}
use Rattle.receiver_law.specs.FlowControls.{LetsNoneCome}
use Rattle.flow_plan.specs.Cells.{cells_for}
use Rattle.std.proofs.Common.{◌≡◌, inl, ℕ, ◌+◌, ◌<◌, ◌≤◌, Bool, false, Option, Some, None, List, [], ◌∷◌, ◌++◌, length, take, refl, ap, sym, ◌∙◌, subst, arith, append-nil, drop}
use Rattle.std.proofs.lemmas.List.{length-append, length-take-le}
use Rattle.hub_core.specs.View.{Event}
use Rattle.hub_core.specs.declared.record.SessionRecord.{SessionRecord}
use Rattle.hub_core.specs.declared.record.SessionResult.TheVariants.{Whole, WrongSn, NoRoom, NoReaders}
use Rattle.tp_attempts.proofs.Cuts.{cuts-more}
use Rattle.tp_attempts.proofs.Walks.{joined-more, last_place-more, len-walk_of, walk_of-more}
use Rattle.tp_attempts.specs.Attempts.{attempts_in}
use Rattle.tp_attempts.specs.Cuts.{Cut}
use Rattle.tp_attempts.specs.Seen.{Seen, is_start}
use Rattle.tp_attempts.specs.Walk.{Piece, Walk, joined, last_place, look, walk_of}
use Rattle.tp_receiver.specs.State.{Reception, RxDid, RxState, busy_with, idle}
use Rattle.tp_receiver.specs.Table.{Adds, Carries, ConsecutiveRow, Continues, EndsBlock, Fills, NoneReadsOn, RightNumber, TooLittleRoom, TooLong, TooShort, WrongNumber, due as busy_due, gone_on, revoking}
use Rattle.tp_receiver.specs.declared.set.RxSet.{RxSet}
use Rattle.tp_unit.specs.Box.{Written, box_then}
use Rattle.tp_unit.specs.Unit.{Keeps, Meaning}
use Rattle.tp_unit.specs.declared.shape.Shape.{Shape}
use Rattle.receiver_law.specs.ReceptionCauses.{FoundByFrame}
use Rattle.receiver_law.specs.Receptions.{ControlLeft, Received}
use Rattle.receiver_law.proofs.receptions.Asked.{asked-so, ends-so, finish, lies-over}
use Rattle.receiver_law.proofs.receptions.Ends.{going-same, next-in, settles, under-found, under-same, lets-none}
use Rattle.receiver_law.proofs.receptions.Frames.{going-asks, going-more, under-more}
use Rattle.receiver_law.proofs.receptions.Going.{IsGoing}
use Rattle.receiver_law.proofs.receptions.Settled.{starts_of}
use Rattle.receiver_law.proofs.receptions.SoFar.{AreTold, BoxSo, BusySo, IdleSo, SoBy, SoFar, idle-frame, starts-same}
use Rattle.receiver_law.proofs.receptions.Walks.{consecutive_at, under, walk-counts, walk-ends, walk-long, walk-short}
use Rattle.receiver_law.proofs.records.SoFars.{IsBusy, IsUnderway}
use Rattle.receiver_law.proofs.records.SourceLaws.{HoldsBy}
use Rattle.receiver_law.proofs.records.Tellings.{with_frame}

module _ (full : ℕ → Bool) (set : RxSet) (shape : Shape) where
  -- a frame that is no start: the attempt of the reception in progress has it too
  pub frame-cut : (seen : List Seen) (frame : Seen) (earlier : List (Cut Seen)) (attempt : Cut Seen) → is_start set.functional frame.meaning ≡ false → attempts_in set.functional seen ≡ earlier ++ attempt ∷ [] → attempts_in set.functional (seen ++ frame ∷ []) ≡ earlier ++ with_frame attempt frame ∷ []
  frame-cut seen frame earlier attempt other cut = cuts-more (λ (s : Seen). is_start set.functional s.meaning) seen frame earlier attempt other cut

  pub frame-told : (tick over : ℕ) (seen : List Seen) (frame : Seen) (earlier : List (Cut Seen)) (records : List SessionRecord) (written : List Written) (own : List ControlLeft) (parts : List Received) → is_start set.functional frame.meaning ≡ false →
      AreTold full set shape tick over (starts_of (attempts_in set.functional seen)) earlier records written own parts → AreTold full set shape tick over (starts_of (attempts_in set.functional (seen ++ frame ∷ []))) earlier records written own parts
  frame-told tick over seen frame earlier records written own parts other so = subst (λ (s : List ℕ). AreTold full set shape tick over s earlier records written own parts) (sym (starts-same set.functional seen frame other)) so

  pub busy-frame : (tick over : ℕ) (refusing : Option ℕ) (lies : Option Meaning) (busy on : Reception) (seen : List Seen) (records : List SessionRecord) (written : List Written) (frame : Seen) → is_start set.functional frame.meaning ≡ false → (so : BusySo full set shape tick over refusing lies busy seen records written) →
      IsGoing full set tick over lies on (with_frame so.attempt frame) so.own → BusySo full set shape tick over refusing lies on (seen ++ frame ∷ []) records written
  busy-frame tick over refusing lies busy on seen records written frame other so going = record {
    earlier = so.earlier;
    attempt = with_frame so.attempt frame;
    own = so.own;
    parts = so.parts;
    cut = frame-cut seen frame so.earlier so.attempt other so.cut;
    told = frame-told tick over seen frame so.earlier records written so.own so.parts other so.told;
    first = so.first;
    none = so.none;
    going = going;
  }

  -- one that no attempt looks at
  pub passes : (tick : ℕ) (refusing : Option ℕ) (lies : Option Meaning) (busy : Option Reception) (seen : List Seen) (records : List SessionRecord) (written : List Written) (frame : Seen) → frame.at ≡ tick → is_start set.functional frame.meaning ≡ false → ((walk : Walk) → look set.a walk frame ≡ walk) →
      SoBy full set shape tick tick refusing lies busy seen records written → SoBy full set shape tick tick refusing lies busy (seen ++ frame ∷ []) records written
  passes tick refusing lies None seen records written frame at other passed so = idle-frame full set shape tick tick refusing lies seen records written frame other (omega (arith, at)) so
  passes tick refusing lies (Some busy) seen records written frame at other passed so =
      busy-frame tick tick refusing lies busy busy seen records written frame other so
      (going-same full set tick tick lies busy so.attempt (with_frame so.attempt frame) so.own (ap (λ (w : Walk). w.pieces) (walk_of-more set.a so.attempt frame ∙ passed (walk_of set.a so.attempt))) so.going)

  -- the box where the reception ends
  empty-box : (tick : ℕ) (refusing : Option ℕ) (lies : Option Meaning) (busy : Reception) (seen : List Seen) (records : List SessionRecord) (written : List Written) → (so : BusySo full set shape tick tick refusing lies busy seen records written) → BoxSo set tick tick refusing (box_then (revoking busy.wait) lies) so.parts
  empty-box tick refusing lies busy seen records written so =
      subst (λ (r : Option ℕ). BoxSo set tick tick r (box_then (revoking busy.wait) lies) so.parts) (sym so.none) (lies-over full set tick tick lies busy so.attempt so.own so.going)

  -- the due bytes of a consecutive frame, whose number is right
  carries : (old : RxState) (busy : Reception) (size number : ℕ) (bytes : List ℕ) (m : RxDid) (next seq : ℕ) (calls : List Event) (before : ℕ) (lies : Option Meaning) (seen : List Seen) (records : List SessionRecord) (written : List Written) → 1 ≤ set.n_cr → 1 ≤ set.n_ar → old.busy ≡ Some busy → IsTight set old m → IsBusy set next seq busy calls before seen records →
      busy.bytes < busy.len → size ≤ busy.size → busy_due set.a busy ≤ length bytes → number ≡ busy.number → BusySo full set shape m.tick m.tick old.refusing lies busy seen records written → Carries set (idle old) busy (take (busy_due set.a busy) bytes) m →
      SoFar full set shape m.tick m.tick m.new (box_then m.act lies) (seen ++ consecutive_at m.tick size number bytes ∷ []) (records ++ m.records) written
  carries old busy size number bytes m next seq calls before lies seen records written some some_ar was tight known more short enough right so row = by row
    where
      frame : Seen
      frame = consecutive_at m.tick size number bytes

      due : List ℕ
      due = take (busy_due set.a busy) bytes

      piece : Piece
      piece = record { at = m.tick; bytes = due }

      under_way : IsUnderway set busy calls before so.attempt
      under_way = under set next seq busy calls before seen records known so.earlier so.attempt so.cut

      walk : walk_of set.a (with_frame so.attempt frame) ≡ record (walk_of set.a so.attempt) { pieces = (walk_of set.a so.attempt).pieces ++ piece ∷ [] }
      walk = walk-counts set busy calls before m.tick size number bytes so.attempt under_way more short enough right

      counts : (walk_of set.a (with_frame so.attempt frame)).pieces ≡ (walk_of set.a so.attempt).pieces ++ piece ∷ []
      counts = ap (λ (w : Walk). w.pieces) walk

      sum : busy.bytes + length due ≡ length (joined (walk_of set.a (with_frame so.attempt frame)).pieces)
      sum = omega (arith, under_way.bytes, ap (λ (p : List Piece). length (joined p)) counts, ap length (joined-more (walk_of set.a so.attempt).pieces piece), length-append (joined (walk_of set.a so.attempt).pieces) due)

      cut : attempts_in set.functional (seen ++ frame ∷ []) ≡ so.earlier ++ with_frame so.attempt frame ∷ []
      cut = frame-cut seen frame so.earlier so.attempt refl so.cut

      told : AreTold full set shape m.tick m.tick (starts_of (attempts_in set.functional (seen ++ frame ∷ []))) so.earlier records written so.own so.parts
      told = frame-told m.tick m.tick seen frame so.earlier records written so.own so.parts refl so.told

      starts : List ℕ
      starts = starts_of (attempts_in set.functional (seen ++ frame ∷ []))

      box : BoxSo set m.tick m.tick old.refusing (box_then (revoking busy.wait) lies) so.parts
      box = empty-box m.tick old.refusing lies busy seen records written so

      by : Carries set (idle old) busy due m → SoFar full set shape m.tick m.tick m.new (box_then m.act lies) (seen ++ frame ∷ []) (records ++ m.records) written
      by (NoneReadsOn room readers unread row) =
          ends-so full set shape m.tick (idle old) busy NoReaders (record m { calls = row.rest }) lies (seen ++ frame ∷ []) records written so.earlier (with_frame so.attempt frame) so.own so.parts cut refl (inl so.none)
          (settles full set m.tick m.tick starts busy (with_frame so.attempt frame) so.going.start (so.going.frames ++ piece ∷ []) so.own NoReaders refl refl (omega arith) so.first
          (under-found full set m.tick busy so.attempt (with_frame so.attempt frame) so.going.start piece so.going.frames so.own refl counts so.going.under)
          (FoundByFrame piece (next-in (walk_of set.a so.attempt).pieces busy.bytes m.tick piece (walk_of set.a (with_frame so.attempt frame)).pieces counts under_way.bytes refl))) box told row.row
      by (TooLittleRoom room readers need readers_some need_is little row) =
          let taken : length due ≡ busy_due set.a busy = length-take-le (busy_due set.a busy) bytes enough in
          let left : busy.left ≡ Some 0 = tight busy room readers row.rest was row.calls (omega (arith, little, need_is, ap cells_for taken)) in
          let none : LetsNoneCome full (drop 1 (walk_of set.a so.attempt).pieces) so.own m.tick = subst (λ (f : List Piece). LetsNoneCome full f so.own m.tick) (sym (ap (drop 1) so.going.under.pieces)) (lets-none full set m.tick m.tick lies busy so.attempt so.own left so.going) in
          ends-so full set shape m.tick (idle old) busy (NoRoom room need) (record m { calls = row.rest }) lies (seen ++ frame ∷ []) records written so.earlier (with_frame so.attempt frame) so.own so.parts cut refl (inl so.none)
          (settles full set m.tick m.tick starts busy (with_frame so.attempt frame) so.going.start (so.going.frames ++ piece ∷ []) so.own (NoRoom room need) refl refl (omega arith) so.first
          (under-found full set m.tick busy so.attempt (with_frame so.attempt frame) so.going.start piece so.going.frames so.own refl counts so.going.under)
          (record { piece = piece; next = next-in (walk_of set.a so.attempt).pieces busy.bytes m.tick piece (walk_of set.a (with_frame so.attempt frame)).pieces counts under_way.bytes refl; need_is = need_is; little = little; none = none })) box told row.row
      by (Adds room readers cells readers_some fits packed other row) =
          finish full set shape m.tick m (busy_with (idle old) (gone_on busy (length due) m.tick)) Keeps lies (seen ++ frame ∷ []) records [] written row.row.row.new row.row.row.act row.row.row.records
          (subst (λ (r : List SessionRecord). BusySo full set shape m.tick m.tick old.refusing lies (gone_on busy (length due) m.tick) (seen ++ frame ∷ []) r written) (sym (append-nil records))
          (busy-frame m.tick m.tick old.refusing lies busy (gone_on busy (length due) m.tick) seen records written frame refl so
          (going-more full set m.tick (length due) lies busy so.attempt (with_frame so.attempt frame) piece so.own refl some other counts so.going)))
      by (EndsBlock room readers cells readers_some fits packed one row) =
          asked-so full set shape m.tick (idle old) (gone_on busy (length due) m.tick) (record m { calls = row.row.rest }) lies (seen ++ frame ∷ []) records written so.earlier (with_frame so.attempt frame) so.own so.parts cut so.first (inl so.none) (omega arith) (omega (arith, some_ar)) sum
          (going-asks full set m.tick (length due) lies busy so.attempt (with_frame so.attempt frame) piece so.own refl one counts so.going) box told row.row.row.grants
      by (Fills room readers cells readers_some fits packed whole row) =
          ends-so full set shape m.tick (idle old) (gone_on busy (length due) m.tick) Whole (record m { calls = row.row.rest }) lies (seen ++ frame ∷ []) records written so.earlier (with_frame so.attempt frame) so.own so.parts cut refl (inl so.none)
          (settles full set m.tick m.tick starts (gone_on busy (length due) m.tick) (with_frame so.attempt frame) so.going.start (so.going.frames ++ piece ∷ []) so.own Whole refl refl (omega arith) so.first
          (under-more full set m.tick (length due) busy so.attempt (with_frame so.attempt frame) so.going.start piece so.going.frames so.own refl counts so.going.under)
          (sym (ap (last_place busy.begin) counts ∙ last_place-more busy.begin (walk_of set.a so.attempt).pieces piece), omega (arith, whole, sum, under_way.len, len-walk_of set.a so.attempt, ap (λ (w : Walk). w.len) walk))) box told row.row.row

  -- a consecutive frame, where a reception is in progress
  continues : (old : RxState) (busy : Reception) (size number : ℕ) (bytes : List ℕ) (m : RxDid) (next seq : ℕ) (calls : List Event) (before : ℕ) (lies : Option Meaning) (seen : List Seen) (records : List SessionRecord) (written : List Written) → 1 ≤ set.n_cr → 1 ≤ set.n_ar → old.busy ≡ Some busy → IsTight set old m → IsBusy set next seq busy calls before seen records →
      busy.bytes < busy.len → BusySo full set shape m.tick m.tick old.refusing lies busy seen records written → Continues set (idle old) busy size number bytes m →
      SoFar full set shape m.tick m.tick m.new (box_then m.act lies) (seen ++ consecutive_at m.tick size number bytes ∷ []) (records ++ m.records) written
  continues old busy size number bytes m next seq calls before lies seen records written some some_ar was tight known more so (TooLong long row) =
      let frame : Seen = consecutive_at m.tick size number bytes in
      let under_way = under set next seq busy calls before seen records known so.earlier so.attempt so.cut in
      finish full set shape m.tick m (busy_with (idle old) busy) Keeps lies (seen ++ frame ∷ []) records [] written row.new row.act row.records
      (subst (λ (r : List SessionRecord). BusySo full set shape m.tick m.tick old.refusing lies busy (seen ++ frame ∷ []) r written) (sym (append-nil records))
      (busy-frame m.tick m.tick old.refusing lies busy busy seen records written frame refl so
      (going-same full set m.tick m.tick lies busy so.attempt (with_frame so.attempt frame) so.own (walk-long set busy calls before m.tick size number bytes so.attempt under_way long) so.going)))
  continues old busy size number bytes m next seq calls before lies seen records written some some_ar was tight known more so (TooShort short row) =
      let frame : Seen = consecutive_at m.tick size number bytes in
      let under_way = under set next seq busy calls before seen records known so.earlier so.attempt so.cut in
      finish full set shape m.tick m (busy_with (idle old) busy) Keeps lies (seen ++ frame ∷ []) records [] written row.new row.act row.records
      (subst (λ (r : List SessionRecord). BusySo full set shape m.tick m.tick old.refusing lies busy (seen ++ frame ∷ []) r written) (sym (append-nil records))
      (busy-frame m.tick m.tick old.refusing lies busy busy seen records written frame refl so
      (going-same full set m.tick m.tick lies busy so.attempt (with_frame so.attempt frame) so.own (walk-short set busy calls before m.tick size number bytes so.attempt under_way short) so.going)))
  continues old busy size number bytes m next seq calls before lies seen records written some some_ar was tight known more so (WrongNumber looked other row) =
      let frame : Seen = consecutive_at m.tick size number bytes in
      let under_way = under set next seq busy calls before seen records known so.earlier so.attempt so.cut in
      ends-so full set shape m.tick (idle old) busy (WrongSn busy.number number) m lies (seen ++ frame ∷ []) records written so.earlier (with_frame so.attempt frame) so.own so.parts (frame-cut seen frame so.earlier so.attempt refl so.cut) refl (inl so.none)
      (settles full set m.tick m.tick (starts_of (attempts_in set.functional (seen ++ frame ∷ []))) busy (with_frame so.attempt frame) so.going.start so.going.frames so.own (WrongSn busy.number number) refl refl (omega arith) so.first
      (under-same full set m.tick busy so.attempt (with_frame so.attempt frame) so.going.start so.going.frames so.own (walk-ends set busy calls before m.tick size number bytes so.attempt under_way more looked.short looked.enough other) so.going.under) tt)
      (empty-box m.tick old.refusing lies busy seen records written so) (frame-told m.tick m.tick seen frame so.earlier records written so.own so.parts refl so.told) row
  continues old busy size number bytes m next seq calls before lies seen records written some some_ar was tight known more so (RightNumber looked right row) =
      carries old busy size number bytes m next seq calls before lies seen records written some some_ar was tight known more looked.short looked.enough right so row

  pub consecutive : (old : RxState) (busy : Option Reception) (size number : ℕ) (bytes : List ℕ) (m : RxDid) (calls : List Event) (before : ℕ) (lies : Option Meaning) (seen : List Seen) (records : List SessionRecord) (written : List Written) → 1 ≤ set.n_cr → 1 ≤ set.n_ar → old.busy ≡ busy → IsTight set old m →
      HoldsBy set old.next old.seq busy calls before seen records → SoBy full set shape m.tick m.tick old.refusing lies busy seen records written → ConsecutiveRow set old size number bytes busy m →
      SoFar full set shape m.tick m.tick m.new (box_then m.act lies) (seen ++ consecutive_at m.tick size number bytes ∷ []) (records ++ m.records) written
  consecutive old None size number bytes m calls before lies seen records written some some_ar is tight known so row =
      let frame : Seen = consecutive_at m.tick size number bytes in
      finish full set shape m.tick m old Keeps lies (seen ++ frame ∷ []) records [] written row.new row.act row.records
      (subst (λ (b : Option Reception). SoBy full set shape m.tick m.tick old.refusing lies b (seen ++ frame ∷ []) (records ++ []) written) (sym is)
      (subst (λ (r : List SessionRecord). IdleSo full set shape m.tick m.tick old.refusing lies (seen ++ frame ∷ []) r written) (sym (append-nil records)) (idle-frame full set shape m.tick m.tick old.refusing lies seen records written frame refl (omega arith) so)))
  consecutive old (Some busy) size number bytes m calls before lies seen records written some some_ar is tight known so row = continues old busy size number bytes m old.next old.seq calls before lies seen records written some some_ar is tight known.0 known.1 so row
