-- The timer's turn and a flow control that leaves, by the rows of the receiver's table.
use Rattle.std.proofs.Common.{◌≡◌, inl, inr, ◌⊎◌, ℕ, ◌+◌, ◌≤◌, Bool, true, Option, Some, None, List, [], ◌∷◌, ◌++◌, length, map, refl, ap, sym, ◌∙◌, subst, arith, append-nil}
use Rattle.std.proofs.lemmas.List.{length-append, length-map}
use Rattle.std.proofs.lemmas.Option.{slice_get_within}
use Rattle.gw_base.proofs.Lists.{zip-long}
use Rattle.hub_core.specs.View.{Event}
use Rattle.hub_core.specs.declared.record.RxLimit.TheVariants.{Box as BoxLimit, Cf as CfLimit}
use Rattle.hub_core.specs.declared.record.RxWait.{RxWait}
use Rattle.hub_core.specs.declared.record.RxWait.TheVariants.{Box, Room, Cf}
use Rattle.hub_core.specs.declared.record.SessionRecord.{SessionRecord}
use Rattle.hub_core.specs.declared.record.SessionResult.TheVariants.{RxTimeout}
use Rattle.tp_attempts.specs.Attempts.{attempts_in}
use Rattle.tp_attempts.specs.Cuts.{Cut}
use Rattle.tp_attempts.specs.Seen.{Seen}
use Rattle.tp_receiver.specs.State.{Reception, RxDid, RxState, busy_with, idle}
use Rattle.tp_receiver.specs.Table.{InTime, LiesTooLong, LooksAgain, MayLie, NoneLies, Revoked, TimerRow, Times, TimesRefusal, TooLate, revoking}
use Rattle.tp_receiver.specs.declared.set.RxSet.{RxSet}
use Rattle.tp_unit.specs.Box.{Written, box_then}
use Rattle.tp_unit.specs.Unit.{Keeps, Meaning, Revokes}
use Rattle.tp_unit.specs.declared.shape.Shape.{Shape}
use Rattle.receiver_law.specs.Receptions.{ControlLeft, Received}
use Rattle.receiver_law.specs.Source.{CountsFrom}
use Rattle.receiver_law.proofs.receptions.Asked.{asked-so, ends-so, finish, lies-over}
use Rattle.receiver_law.proofs.receptions.Ends.{box-late, frame-late, settles}
use Rattle.receiver_law.proofs.receptions.Going.{IsGoing, WaitsFor}
use Rattle.receiver_law.proofs.receptions.Grants.{pause-asks}
use Rattle.receiver_law.proofs.receptions.Passing.{goes-on, in-time, stays}
use Rattle.receiver_law.proofs.receptions.Settled.{IsSettled, starts_of}
use Rattle.receiver_law.proofs.receptions.SoFar.{AreTold, BoxSo, BusySo, IdleSo, IsRefusing, SoBy, SoFar}
use Rattle.receiver_law.proofs.receptions.Ticks.{idle-on, told-on, told-over}
use Rattle.receiver_law.proofs.receptions.Walks.{under}
use Rattle.receiver_law.proofs.records.SoFars.{IsBusy}
use Rattle.receiver_law.proofs.records.SourceLaws.{HoldsBy}

module _ (full : ℕ → Bool) (set : RxSet) (shape : Shape) where
  -- nothing changes
  quiet : (tick : ℕ) (old state : RxState) (m : RxDid) (lies : Option Meaning) (seen : List Seen) (records : List SessionRecord) (written : List Written) → tick ≡ m.tick → m.new ≡ state → m.act ≡ Keeps → m.records ≡ [] → SoFar full set shape m.tick (m.tick + 1) state lies seen records written →
      SoFar full set shape m.tick (m.tick + 1) m.new (box_then m.act lies) seen (records ++ m.records) written
  quiet tick old state m lies seen records written at new act told so =
      finish full set shape (m.tick + 1) m state Keeps lies seen records [] written new act told (subst (λ (r : List SessionRecord). SoFar full set shape m.tick (m.tick + 1) state lies seen r written) (sym (append-nil records)) so)

  pub idle-over : (tick : ℕ) (refusing : Option ℕ) (lies : Option Meaning) (seen : List Seen) (records : List SessionRecord) (written : List Written) → (so : IdleSo full set shape tick tick refusing lies seen records written) → BoxSo set tick (tick + 1) refusing lies so.parts →
      IdleSo full set shape tick (tick + 1) refusing lies seen records written
  idle-over tick refusing lies seen records written so box = record {
    parts = so.parts;
    told = told-over full set shape tick tick (tick + 1) (starts_of (attempts_in set.functional seen)) (attempts_in set.functional seen) records written [] so.parts (omega arith) so.told;
    last = so.last;
    box = box;
  }

  -- the timer of an idle receiver
  times-refusal : (old : RxState) (refusing : Option ℕ) (m : RxDid) (lies : Option Meaning) (seen : List Seen) (records : List SessionRecord) (written : List Written) → old.refusing ≡ refusing → old.busy ≡ None → IdleSo full set shape m.tick m.tick refusing lies seen records written → TimesRefusal set old refusing m →
      SoFar full set shape m.tick (m.tick + 1) m.new (box_then m.act lies) seen (records ++ m.records) written
  times-refusal old refusing m lies seen records written is none so row = by row
    where
      keeps : IdleSo full set shape m.tick (m.tick + 1) refusing lies seen records written → SoFar full set shape m.tick (m.tick + 1) old lies seen records written
      keeps idle_so = subst (λ (b : Option Reception). SoBy full set shape m.tick (m.tick + 1) old.refusing lies b seen records written) (sym none) (subst (λ (r : Option ℕ). IdleSo full set shape m.tick (m.tick + 1) r lies seen records written) (sym is) idle_so)

      by : TimesRefusal set old refusing m → SoFar full set shape m.tick (m.tick + 1) m.new (box_then m.act lies) seen (records ++ m.records) written
      by (NoneLies none_lies row) =
          quiet m.tick old old m lies seen records written refl row.new row.act row.records
          (keeps (idle-over m.tick refusing lies seen records written so (subst (λ (r : Option ℕ). BoxSo set m.tick (m.tick + 1) r lies so.parts) (sym none_lies) (subst (λ (r : Option ℕ). BoxSo set m.tick m.tick r lies so.parts) none_lies so.box))))
      by (MayLie since lies_since early row) =
          let it : IsRefusing set m.tick m.tick since lies so.parts = subst (λ (r : Option ℕ). BoxSo set m.tick m.tick r lies so.parts) lies_since so.box in
          quiet m.tick old old m lies seen records written refl row.new row.act row.records
          (keeps (idle-over m.tick refusing lies seen records written so (subst (λ (r : Option ℕ). BoxSo set m.tick (m.tick + 1) r lies so.parts) (sym lies_since) (record {
            lies_is = it.lies_is;
            by = it.by;
            in_time = omega (arith, early);
            front = it.front;
            one = it.one;
            after = it.after;
            are = it.are;
            unanswered = it.unanswered;
            begins = it.begins;
            quiet = it.quiet;
          }))))
      by (Revoked since lies_since late row) =
          finish full set shape (m.tick + 1) m (record old { refusing = None }) Revokes lies seen records [] written row.new row.act_is row.records
          (subst (λ (b : Option Reception). SoBy full set shape m.tick (m.tick + 1) None None b seen (records ++ []) written) (sym none)
          (subst (λ (r : List SessionRecord). IdleSo full set shape m.tick (m.tick + 1) None None seen r written) (sym (append-nil records)) (record {
            parts = so.parts;
            told = told-over full set shape m.tick m.tick (m.tick + 1) (starts_of (attempts_in set.functional seen)) (attempts_in set.functional seen) records written [] so.parts (omega arith) so.told;
            last = λ front one are unanswered. elim (so.last front one are unanswered) [
              | inl same ↦ inr (let begin : Some since ≡ Some one.told.begin.0 = sym lies_since ∙ same in let at : since ≡ one.told.begin.0 = cc in omega (arith, at, late))
              | inr over ↦ inr over
            ];
            box = refl;
          })))

  -- the timer of a busy one
  times : (old : RxState) (busy : Reception) (m : RxDid) (next seq : ℕ) (calls : List Event) (before : ℕ) (lies : Option Meaning) (seen : List Seen) (records : List SessionRecord) (written : List Written) → 1 ≤ set.n_ar → IsBusy set next seq busy calls before seen records → old.busy ≡ Some busy →
      BusySo full set shape m.tick m.tick old.refusing lies busy seen records written → Times set (idle old) busy m → SoFar full set shape m.tick (m.tick + 1) m.new (box_then m.act lies) seen (records ++ m.records) written
  times old busy m next seq calls before lies seen records written some known was so row = by row
    where
      starts : List ℕ
      starts = starts_of (attempts_in set.functional seen)

      told : AreTold full set shape m.tick (m.tick + 1) starts so.earlier records written so.own so.parts
      told = told-over full set shape m.tick m.tick (m.tick + 1) starts so.earlier records written so.own so.parts (omega arith) so.told

      box : BoxSo set m.tick (m.tick + 1) old.refusing (box_then (revoking busy.wait) lies) so.parts
      box = subst (λ (r : Option ℕ). BoxSo set m.tick (m.tick + 1) r (box_then (revoking busy.wait) lies) so.parts) (sym so.none) (lies-over full set m.tick m.tick lies busy so.attempt so.own so.going)

      by : Times set (idle old) busy m → SoFar full set shape m.tick (m.tick + 1) m.new (box_then m.act lies) seen (records ++ m.records) written
      by (InTime early row) =
          quiet m.tick old (busy_with (idle old) busy) m lies seen records written refl row.new row.act row.records (record {
            earlier = so.earlier;
            attempt = so.attempt;
            own = so.own;
            parts = so.parts;
            cut = so.cut;
            told = told;
            first = so.first;
            none = so.none;
            going = in-time full set m.tick lies busy so.attempt so.own early so.going;
          })
      by (LiesTooLong late row) =
          ends-so full set shape (m.tick + 1) (idle old) busy (RxTimeout BoxLimit) m lies seen records written so.earlier so.attempt so.own so.parts so.cut refl (inl so.none)
          (settles full set m.tick (m.tick + 1) starts busy so.attempt so.going.start so.going.frames so.own (RxTimeout BoxLimit) refl refl (omega arith) so.first so.going.under (box-late full set m.tick lies busy so.attempt so.own late.waits late.over so.going)) box told row
      by (LooksAgain late row) =
          asked-so full set shape (m.tick + 1) (idle old) busy m lies seen records written so.earlier so.attempt so.own so.parts so.cut so.first (inl so.none) (omega arith) (omega (arith, some)) (under set next seq busy calls before seen records known so.earlier so.attempt so.cut).bytes
          (pause-asks full set m.tick lies busy so.attempt so.own late.waits late.over so.going) box told row
      by (TooLate late row) =
          ends-so full set shape (m.tick + 1) (idle old) busy (RxTimeout CfLimit) m lies seen records written so.earlier so.attempt so.own so.parts so.cut refl (inl so.none)
          (settles full set m.tick (m.tick + 1) starts busy so.attempt so.going.start so.going.frames so.own (RxTimeout CfLimit) refl refl (omega arith) so.first so.going.under
          (frame-late full set m.tick lies busy so.attempt so.own late.waits late.over so.going, omega arith)) box told row

  pub timed : (old : RxState) (busy : Option Reception) (m : RxDid) (calls : List Event) (before : ℕ) (lies : Option Meaning) (seen : List Seen) (records : List SessionRecord) (written : List Written) → 1 ≤ set.n_ar → old.busy ≡ busy → HoldsBy set old.next old.seq busy calls before seen records →
      SoBy full set shape m.tick m.tick old.refusing lies busy seen records written → TimerRow set old busy m → SoFar full set shape m.tick (m.tick + 1) m.new (box_then m.act lies) seen (records ++ m.records) written
  timed old None m calls before lies seen records written some was known so row = times-refusal old old.refusing m lies seen records written refl was so row
  timed old (Some busy) m calls before lies seen records written some was known so row = times old busy m old.next old.seq calls before lies seen records written some known.0 was so row

  -- the receptions that are over, where one is in progress
  pub busy-told : (at : ℕ) (box : Option Meaning) (going : Reception) (earlier : List (Cut Seen)) (attempt : Cut Seen) (all : List SessionRecord) (out : List Written) (own : List ControlLeft) (parts : List Received) (came : List Seen) → CountsFrom 0 (map (λ (told : SessionRecord). told.n) all) → attempts_in set.functional came ≡ earlier ++ attempt ∷ [] →
      AreTold full set shape at (at + 1) (starts_of (attempts_in set.functional came)) earlier all out own parts → AreTold full set shape (at + 1) (at + 1) (starts_of (attempts_in set.functional came)) earlier all out own parts
  busy-told at box going earlier attempt all out own parts came numbers cut told =
      let starts : List ℕ = starts_of (attempts_in set.functional came) in
      let many : length starts ≡ length earlier + 1 = length-map (attempts_in set.functional came) (λ (a : Cut Seen). a.start.at) ∙ ap length cut ∙ length-append earlier (attempt ∷ []) in
      told-on full set shape at (at + 1) starts earlier all out own parts numbers (omega (arith, many)) (λ k one is place owing. absurd (omega (arith, many, place, slice_get_within parts k one is, zip-long (IsSettled full set at (at + 1) starts) earlier parts told.settled))) told

  -- no flow control leaves in that tick, where none lies in the box or the bus is full
  pub passes-on : (tick : ℕ) (refusing : Option ℕ) (lies : Option Meaning) (busy : Option Reception) (seen : List Seen) (records : List SessionRecord) (written : List Written) → CountsFrom 0 (map (λ (told : SessionRecord). told.n) records) → (lies ≡ None) ⊎ (full tick ≡ true) →
      SoBy full set shape tick (tick + 1) refusing lies busy seen records written → SoBy full set shape (tick + 1) (tick + 1) refusing lies busy seen records written
  passes-on tick refusing lies None seen records written counts still so = idle-on full set shape tick refusing lies seen records written counts still so
  passes-on tick refusing lies (Some busy) seen records written counts still so = record {
    earlier = so.earlier;
    attempt = so.attempt;
    own = so.own;
    parts = so.parts;
    cut = so.cut;
    told = busy-told tick lies busy so.earlier so.attempt records written so.own so.parts seen counts so.cut so.told;
    first = so.first;
    none = so.none;
    going = of still;
  }
    where
      box-or-empty : (wait : RxWait) → WaitsFor full set tick (tick + 1) lies busy so.going.start so.going.frames so.own wait → (wait ≡ Box) ⊎ (lies ≡ None)
      box-or-empty Box waits = inl refl
      box-or-empty Room waits = inr waits.lies_is
      box-or-empty Cf waits = inr waits.lies_is

      of : (lies ≡ None) ⊎ (full tick ≡ true) → IsGoing full set (tick + 1) (tick + 1) lies busy so.attempt so.own
      of (inl none) = goes-on full set tick lies busy so.attempt so.own none so.going
      of (inr is) = elim (box-or-empty busy.wait so.going.waits_for) [ inl box ↦ stays full set tick lies busy so.attempt so.own is so.going box | inr none ↦ goes-on full set tick lies busy so.attempt so.own none so.going ]
