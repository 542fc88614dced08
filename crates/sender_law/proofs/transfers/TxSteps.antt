-- All so far, after each effect of a sender's step.
use Rattle.std.proofs.Common.{◌≡◌, ℕ, ◌+◌, ◌-◌, ◌%◌, ◌<◌, ◌≤◌, Option, Some, None, List, [], ◌∷◌, ◌++◌, map, refl, ap, sym, subst, ◌∙◌, arith, append-nil, append_assoc}
use Rattle.std.proofs.Math.Path.{fun_ext}
use Rattle.std.proofs.lemmas.Bool.Decides.{nat_tests}
use Rattle.std.proofs.lemmas.List.Concat.{flat_map-append}
use Rattle.gw_base.specs.Cell.{bytes_of, cell_bytes}
use Rattle.hub_core.specs.declared.port.Left.{Left as LeftOver}
use Rattle.hub_core.specs.declared.port.Seen.{Seen as Look}
use Rattle.hub_core.specs.declared.record.DestRecord.{DestRecord}
use Rattle.hub_core.specs.declared.record.DestResult.{DestResult}
use Rattle.hub_core.specs.declared.record.DestResult.TheVariants.{Sent}
use Rattle.tp_sender.specs.declared.event.TxEvent.{TxEvent}
use Rattle.tp_sender.specs.declared.event.TxEvent.TheVariants.{Turn, Fc as CameFc, Left, RunEnd}
use Rattle.tp_sender.specs.declared.set.TxSet.{TxSet}
use Rattle.tp_sender.specs.declared.transmission.Phase.{Phase}
use Rattle.tp_sender.specs.declared.transmission.Phase.TheVariants.{Bytes, Box, Fc}
use Rattle.tp_sender.specs.Effects.{AwaitsNext, MayBe, MayEnd, MayWait, TxStage, TxDone, TxEffect, act_then, done_by, done_then, found_by, nothing_at, once_offered, once_waited, record_of}
use Rattle.tp_sender.specs.Effects.{Misses, Joins, Looks, Reads, Offers, Leaves, Waits, Ends, AfterBlock, AfterFirst, AfterNext, IsReached, GapIsOver, IsContinued, IsPaused, IsWhole, IsCut}
use Rattle.flow_plan.specs.Gap.{gap_in}
use Rattle.flow_plan.specs.Pace.{Control}
use Rattle.tp_unit.specs.Box.{box_then}
use Rattle.tp_sender.specs.Runs.{cell_read, cells_in, len_joined, lens_in, written_at}
use Rattle.tp_sender.specs.State.{Transmission}
use Rattle.tp_sender.specs.Table.{in_phase, joined_in, next_part}
use Rattle.tp_sender.proofs.Made.{amid}
use Rattle.tp_sender.proofs.Effects.{IsDoneLaw}
use Rattle.tp_unit.specs.declared.shape.Shape.{Shape}
use Rattle.tp_unit.specs.Shape.{IsShape, address_size}
use Rattle.tp_unit.specs.Unit.{BoxMeaning, Keeps, Offers as OffersUnit, Revokes, Meaning}
use Rattle.tp_unit.proofs.Sizes.{length-address, size_of}
use Rattle.tp_sender.specs.Frame.{part_after, unit_after}
use Rattle.sender_law.specs.Pacing.{control_of}
use Rattle.sender_law.specs.Transfer.{seen_of}
use Rattle.sender_law.proofs.transfers.TxFrames.{seen_unit}
use Rattle.sender_law.proofs.transfers.TxLeaves.{ended, ends}
use Rattle.sender_law.proofs.transfers.TxLeft.{BlockIsOver, Follows, GapBegins, first-left, in-box, last-left, leaves, next-left, next_left}
use Rattle.sender_law.proofs.transfers.TxAnswers.{answers, continues, ignored, waits, with_block}
use Rattle.sender_law.proofs.transfers.TxMoves.{joined, joins, lives-some, offered, offers, resumes, starts, with_live}
use Rattle.sender_law.proofs.transfers.TxWorld.{GoesOn, IsBoxed, SoFar, World}
use Rattle.sender_law.proofs.transfers.TxStages.{IsAt, IsTimely, IsTold, LeadsOn, SoFarBut, alone-so, asked, done_in, event_in, in-turn, nothing-more, quiet, reads-so, same-so, told-anew, turn-anew}

-- the session that a turn finds waits for its next frame's bytes from now on
turn-waits : (set : TxSet) (tick : ℕ) (look : Option Look) (next : ℕ) (s : Transmission) (w : World) → w.next ≡ next → w.told.now ≡ tick → SoFar set.shape (with_live (Some (in_phase Bytes w.told.now s)) w) →
    SoFar set.shape (done_in (done_by set tick (amid Turn look next (Some s)) (Waits s Bytes s.block s.gap)) w)
turn-waits set tick look next s w same now so =
    alone-so set.shape (with_live (Some (in_phase Bytes w.told.now s)) w) w (done_by set tick (amid Turn look next (Some s)) (Waits s Bytes s.block s.gap)) refl refl refl refl refl refl (λ number. refl) refl (ap (λ t. Some (in_phase Bytes t s)) now) refl refl refl same so

-- a flow control that the session awaits
answer-of : (set : TxSet) (tick fs bs st : ℕ) (look : Option Look) (next : ℕ) (s : Transmission) (phase : Phase) (block gap : ℕ) (v : World) → v.next ≡ next → v.told.now ≡ tick →
    SoFar set.shape (answers (control_of set.period (record { tick = tick; status = fs; block_size = bs; separation = st })) (Some (in_phase phase v.told.now (with_block block gap s))) v) →
    SoFar set.shape (done_in (done_by set tick (amid (CameFc fs bs st) look next (Some s)) (Waits s phase block gap)) (event_in set tick (CameFc fs bs st) v))
answer-of set tick fs bs st look next s phase block gap v same now so =
    alone-so set.shape (answers (control_of set.period (record { tick = tick; status = fs; block_size = bs; separation = st })) (Some (in_phase phase v.told.now (with_block block gap s))) v) (event_in set tick (CameFc fs bs st) v) (done_by set tick (amid (CameFc fs bs st) look next (Some s)) (Waits s phase block gap))
    refl refl refl (sym (append-nil v.told.frames)) refl refl (λ number. refl) refl (ap (λ t. Some (in_phase phase t (with_block block gap s))) now) refl refl refl same so

-- with what the session waits by now
by-now : (set : TxSet) (tick : ℕ) (look : Option Look) (next : ℕ) (s : Transmission) (event : TxEvent) (w : World) (phase at : Phase) (block b gap g : ℕ) → phase ≡ at → block ≡ b → gap ≡ g →
    SoFar set.shape (done_in (done_by set tick (amid event look next (Some s)) (Waits s at b g)) w) → SoFar set.shape (done_in (done_by set tick (amid event look next (Some s)) (Waits s phase block gap)) w)
by-now set tick look next s event w phase at block b gap g p q r so = rw (p, q, r) so

waits-by : (set : TxSet) (tick : ℕ) (look : Option Look) (next : ℕ) (s : Transmission) (phase : Phase) (block gap : ℕ) (event : TxEvent) (w : World) → MayWait set tick event s phase block gap → IsAt tick (amid event look next (Some s)) w → IsTold set tick event w →
    SoFarBut set tick (once_waited (Some event)) (done_in (done_by set tick (amid event look next (Some s)) (Waits s phase block gap)) w)
waits-by set tick look next s phase block gap event w (IsReached turn was is kept) at told =
    let P : TxEvent → Type 0 = λ e. SoFarBut set tick (once_waited (Some e)) (done_in (done_by set tick (amid e look next (Some s)) (Waits s phase block gap)) w) in
    let so : SoFar set.shape w = in-turn set tick event w turn told in
    subst P (sym turn) (told-anew set tick Turn _ tt (by-now set tick look next s Turn w phase Bytes block s.block gap s.gap is kept.0 kept.1 (turn-waits set tick look next s w at.next at.now (starts set.shape w s at.live was so))))
waits-by set tick look next s phase block gap event w (GapIsOver until turn was over is kept) at told =
    let P : TxEvent → Type 0 = λ e. SoFarBut set tick (once_waited (Some e)) (done_in (done_by set tick (amid e look next (Some s)) (Waits s phase block gap)) w) in
    let so : SoFar set.shape w = in-turn set tick event w turn told in
    subst P (sym turn) (told-anew set tick Turn _ tt (by-now set tick look next s Turn w phase Bytes block s.block gap s.gap is kept.0 kept.1 (turn-waits set tick look next s w at.next at.now (resumes set.shape w s until at.live was (omega (arith, over, at.now)) so))))
waits-by set tick look next s phase block gap event w (IsContinued bs st came was is size gap_is) at told =
    let e : TxEvent = CameFc 0 bs st in
    let v : World = told.before in
    let c : Control = control_of set.period (record { tick = tick; status = 0; block_size = bs; separation = st }) in
    let P : TxEvent → Type 0 = λ x. SoFarBut set tick (once_waited (Some x)) (done_in (done_by set tick (amid x look next (Some s)) (Waits s phase block gap)) w) in
    let W : World → Type 0 = λ x. SoFar set.shape (done_in (done_by set tick (amid e look next (Some s)) (Waits s Bytes bs (gap_in st set.period))) x) in
    let I : TxEvent → Type 0 = λ x. w ≡ event_in set tick x v in
    let T : TxEvent → Type 0 = λ x. IsTimely x tick v.clear in
    let same : w ≡ event_in set tick e v = subst I came told.is in
    let now : v.told.now ≡ tick = sym (ap (λ (x : World). x.told.now) same) ∙ at.now in
    let live : v.told.live ≡ Some s = sym (ap (λ (x : World). x.told.live) same) ∙ at.live in
    let next_is : v.next ≡ next = sym (ap (λ (x : World). x.next) same) ∙ at.next in
    let le : v.clear ≤ tick = subst T came told.timely in
    subst P (sym came) (by-now set tick look next s e w phase Bytes block bs gap (gap_in st set.period) is size gap_is
    (subst W (sym same) (answer-of set tick 0 bs st look next s Bytes bs (gap_in st set.period) v next_is now (continues set.shape v s c live was (sym now) refl (omega (arith, le, now)) told.so))))
waits-by set tick look next s phase block gap event w (IsPaused bs st came was is kept) at told =
    let e : TxEvent = CameFc 1 bs st in
    let v : World = told.before in
    let c : Control = control_of set.period (record { tick = tick; status = 1; block_size = bs; separation = st }) in
    let P : TxEvent → Type 0 = λ x. SoFarBut set tick (once_waited (Some x)) (done_in (done_by set tick (amid x look next (Some s)) (Waits s phase block gap)) w) in
    let W : World → Type 0 = λ x. SoFar set.shape (done_in (done_by set tick (amid e look next (Some s)) (Waits s Fc s.block s.gap)) x) in
    let I : TxEvent → Type 0 = λ x. w ≡ event_in set tick x v in
    let T : TxEvent → Type 0 = λ x. IsTimely x tick v.clear in
    let same : w ≡ event_in set tick e v = subst I came told.is in
    let now : v.told.now ≡ tick = sym (ap (λ (x : World). x.told.now) same) ∙ at.now in
    let live : v.told.live ≡ Some s = sym (ap (λ (x : World). x.told.live) same) ∙ at.live in
    let next_is : v.next ≡ next = sym (ap (λ (x : World). x.next) same) ∙ at.next in
    let le : v.clear ≤ tick = subst T came told.timely in
    subst P (sym came) (by-now set tick look next s e w phase Fc block s.block gap s.gap is kept.0 kept.1
    (subst W (sym same) (answer-of set tick 1 bs st look next s Fc s.block s.gap v next_is now (waits set.shape v s c live was (sym now) refl (omega (arith, le, now)) told.so))))

pub part-some : (shape : Shape) (len sent : ℕ) → IsShape shape → sent < len → 0 < part_after shape len sent
part-some shape len sent sound more = grind (arith, nat_tests, size_of shape sound, length-address shape.address)

-- the frame in the box has left
left-so : (set : TxSet) (tick : ℕ) (v : World) (unit : Meaning) (records : List DestRecord) (live : Option Transmission) (d : TxDone) → v.box ≡ Some unit → v.told.now ≡ tick → lens_in d.calls ≡ [] → ((number : ℕ) → cells_in number d.calls ≡ []) → d.act ≡ Keeps → records ≡ d.records → live ≡ d.new.live → v.next ≡ d.new.next →
    SoFar set.shape (leaves (seen_unit set.shape tick unit) records live v) → SoFar set.shape (done_in d (event_in set tick Left v))
left-so set tick v unit records live d lies now lens cells act told goes next so =
    same-so set.shape (leaves (seen_unit set.shape tick unit) records live v) (done_in d (event_in set tick Left v)) refl
    (ap (λ b. v.told.frames ++ map (seen_of (address_size set.shape)) (written_at set.shape Left tick b)) (sym lies)) (sym (append-nil v.told.answers)) (sym (append-nil v.told.lens) ∙ ap (λ l. v.told.lens ++ l) (sym lens))
    (λ number. nothing-more v number ∙ ap (λ l. v.told.read number ++ bytes_of l) (sym (cells number))) (ap (λ r. v.told.records ++ r) told) goes refl (ap (λ a. box_then a None) (sym act)) (ap (λ t. t + 1) now) next so

-- what lies in the box of a session whose frame has left
lies-in : (set : TxSet) (v : World) (s : Transmission) → v.told.live ≡ Some s → s.phase ≡ Box → (so : SoFar set.shape v) → (unit : Meaning) × (v.box ≡ Some unit) × (s.sent < s.len)
lies-in set v s live box so =
    let on : GoesOn set.shape v s so.going = lives-some set.shape v v.told.live s so.going live so.lives in
    let boxed : IsBoxed set.shape s.len s.sent s.number v.box on.offered = in-box set.shape s.len s.sent s.number s.phase v.box on.offered box on.box in
    (unit_after set.shape s.len s.sent s.number on.offered, boxed.lies, on.unfinished)

-- what left, with its numbers
left-as : (set : TxSet) (tick : ℕ) (look : Option Look) (next : ℕ) (s : Transmission) (w : World) (sent k number n block b : ℕ) (phase at : Phase) → sent ≡ k → number ≡ n → block ≡ b → phase ≡ at →
    SoFar set.shape (done_in (done_by set tick (amid Left look next (Some s)) (Leaves s k n b at)) w) → SoFar set.shape (done_in (done_by set tick (amid Left look next (Some s)) (Leaves s sent number block phase)) w)
left-as set tick look next s w sent k number n block b phase at p q r t so = rw (p, q, r, t) so

leaves-next : (set : TxSet) (tick : ℕ) (look : Option Look) (next : ℕ) (s : Transmission) (phase : Phase) (v : World) → IsShape set.shape → v.told.live ≡ Some s → v.next ≡ next → v.told.now ≡ tick → s.phase ≡ Box → 0 < s.sent → s.sent + next_part set s < s.len → Follows tick s phase →
    SoFar set.shape v → SoFar set.shape (done_in (done_by set tick (amid Left look next (Some s)) (Leaves s (s.sent + next_part set s) ((s.number + 1) % 16) (s.block - 1) phase)) (event_in set tick Left v))
leaves-next set tick look next s phase v sound live same now box some more follows so =
    let lies = lies-in set v s live box so in
    let F : ℕ → Type 0 = λ t. SoFar set.shape (leaves (seen_unit set.shape t lies.0) [] (Some (in_phase phase t (next_left set.shape s))) v) in
    let N : ℕ → Type 0 = λ t. Follows t s phase in
    left-so set tick v lies.0 [] (Some (in_phase phase tick (next_left set.shape s))) (done_by set tick (amid Left look next (Some s)) (Leaves s (s.sent + next_part set s) ((s.number + 1) % 16) (s.block - 1) phase)) lies.1 now refl (λ number. refl) refl refl refl same
    (subst F now (next-left set.shape v s lies.0 phase sound live box lies.1 some more (subst N (sym now) follows) so))

leaves-on : (set : TxSet) (tick : ℕ) (look : Option Look) (next : ℕ) (s : Transmission) (sent number block : ℕ) (phase : Phase) (v : World) → IsShape set.shape → v.told.live ≡ Some s → v.next ≡ next → v.told.now ≡ tick → s.phase ≡ Box → s.sent + next_part set s < s.len → AwaitsNext set tick s sent number block phase →
    SoFar set.shape v → SoFar set.shape (done_in (done_by set tick (amid Left look next (Some s)) (Leaves s sent number block phase)) (event_in set tick Left v))
leaves-on set tick look next s sent number block phase v sound live same now box more (AfterFirst none all kept stays is) so =
    let lies = lies-in set v s live box so in
    let F : ℕ → Type 0 = λ t. SoFar set.shape (leaves (seen_unit set.shape t lies.0) [] (Some (in_phase Fc t (record s { sent = next_part set s }))) v) in
    left-as set tick look next s (event_in set tick Left v) sent (next_part set s) number s.number block s.block phase Fc all kept stays is
    (left-so set tick v lies.0 [] (Some (in_phase Fc tick (record s { sent = next_part set s }))) (done_by set tick (amid Left look next (Some s)) (Leaves s (next_part set s) s.number s.block Fc)) lies.1 now refl (λ number. refl) refl refl refl same
    (subst F now (first-left set.shape v s lies.0 sound live box lies.1 none (omega (arith, more)) (part-some set.shape s.len s.sent sound lies.2) so)))
leaves-on set tick look next s sent number block phase v sound live same now box more (AfterBlock one over is) so =
    left-as set tick look next s (event_in set tick Left v) sent (s.sent + next_part set s) number ((s.number + 1) % 16) block (s.block - 1) phase phase one.sent_is one.number_is one.block_is refl
    (leaves-next set tick look next s phase v sound live same now box one.some more (BlockIsOver over is) so)
leaves-on set tick look next s sent number block phase v sound live same now box more (AfterNext one out is) so =
    left-as set tick look next s (event_in set tick Left v) sent (s.sent + next_part set s) number ((s.number + 1) % 16) block (s.block - 1) phase phase one.sent_is one.number_is one.block_is refl
    (leaves-next set tick look next s phase v sound live same now box one.some more (GapBegins out is) so)

-- a session ends
ends-cut : (set : TxSet) (tick : ℕ) (event : TxEvent) (look : Option Look) (next : ℕ) (s : Transmission) (act : BoxMeaning) (result : DestResult) (left : LeftOver) (w : World) → w.told.live ≡ Some s → w.next ≡ next → w.told.now ≡ tick → (result ≡ Sent → ⊥) → SoFar set.shape w →
    SoFar set.shape (done_in (done_by set tick (amid event look next (Some s)) (Ends s s.sent act result left)) w)
ends-cut set tick event look next s act result left w live same now other so =
    same-so set.shape (ends set.path set.dest s result (box_then act w.box) w) (done_in (done_by set tick (amid event look next (Some s)) (Ends s s.sent act result left)) w) refl refl refl (sym (append-nil w.told.lens)) (nothing-more w)
    (ap (λ t. w.told.records ++ record_of set t s s.sent result ∷ []) now) refl refl refl refl same (ended set.shape w s set.path set.dest result (box_then act w.box) live other so)

cut-by : (set : TxSet) (tick : ℕ) (event : TxEvent) (look : Option Look) (next : ℕ) (s : Transmission) (act : BoxMeaning) (result : DestResult) (left : LeftOver) (v : World) → v.told.live ≡ Some s → v.next ≡ next → v.told.now ≡ tick → IsTimely event tick v.clear → (event ≡ Left → ⊥) → (result ≡ Sent → ⊥) → SoFar set.shape v →
    SoFar set.shape (done_in (done_by set tick (amid event look next (Some s)) (Ends s s.sent act result left)) (event_in set tick event v))
cut-by set tick Turn look next s act result left v live same now timely out other so = ends-cut set tick Turn look next s act result left (event_in set tick Turn v) live same now other (quiet set tick Turn v tt so)
cut-by set tick (CameFc fs bs st) look next s act result left v live same now timely out other so =
    let a : Control = control_of set.period (record { tick = tick; status = fs; block_size = bs; separation = st }) in
    let u : World = done_in (done_by set tick (amid (CameFc fs bs st) look next (Some s)) (Ends s s.sent act result left)) v in
    same-so set.shape (answers a None u) (done_in (done_by set tick (amid (CameFc fs bs st) look next (Some s)) (Ends s s.sent act result left)) (event_in set tick (CameFc fs bs st) v)) refl (sym (append-nil v.told.frames)) refl refl (λ number. refl) refl refl refl refl refl refl
    (ignored set.shape u a tt (omega (arith, now)) timely (ends-cut set tick (CameFc fs bs st) look next s act result left v live same now other so))
cut-by set tick Left look next s act result left v live same now timely out other so = absurd (out refl)
cut-by set tick RunEnd look next s act result left v live same now timely out other so = ends-cut set tick RunEnd look next s act result left (event_in set tick RunEnd v) live same now other (quiet set tick RunEnd v tt so)

ends-by : (set : TxSet) (tick : ℕ) (event : TxEvent) (look : Option Look) (next : ℕ) (s : Transmission) (sent : ℕ) (act : BoxMeaning) (result : DestResult) (left : LeftOver) (v : World) → IsShape set.shape → v.told.live ≡ Some s → v.next ≡ next → v.told.now ≡ tick → IsTimely event tick v.clear → MayEnd set event look s sent act result → SoFar set.shape v →
    SoFar set.shape (done_in (done_by set tick (amid event look next (Some s)) (Ends s sent act result left)) (event_in set tick event v))
ends-by set tick event look next s sent act result left v sound live same now timely (IsWhole told box whole all keeps is) so =
    let lies = lies-in set v s live box so in
    let F : ℕ → Type 0 = λ t. SoFar set.shape (leaves (seen_unit set.shape t lies.0) (record_of set t s s.len Sent ∷ []) None v) in
    rw (told, all, keeps, is) (left-so set tick v lies.0 (record_of set tick s s.len Sent ∷ []) None (done_by set tick (amid Left look next (Some s)) (Ends s s.len Keeps Sent left)) lies.1 now refl (λ number. refl) refl refl refl same
    (subst F now (last-left set.shape v s lies.0 set.path set.dest sound live box lies.1 whole so)))
ends-by set tick event look next s sent act result left v sound live same now timely (IsCut out other all keeps shows) so = rw all (cut-by set tick event look next s act result left v live same now timely out other so)

-- an event that is told is in the world
before-of : (set : TxSet) (tick : ℕ) (p : TxStage) (event : TxEvent) (w : World) → IsAt tick p w → (told : IsTold set tick event w) → IsAt tick p told.before
before-of set tick p event w at told = record {
  live = sym (ap (λ (x : World). x.told.live) told.is) ∙ at.live;
  next = sym (ap (λ (x : World). x.next) told.is) ∙ at.next;
  now = sym (ap (λ (x : World). x.told.now) told.is) ∙ at.now;
}

each : (set : TxSet) (tick : ℕ) → IsShape set.shape → (event : TxEvent) (look : Option Look) (next : ℕ) (effect : TxEffect) → MayBe set tick event look effect → LeadsOn set tick (amid event look next (found_by effect)) (done_by set tick (amid event look next (found_by effect)) effect)
each set tick sound event look next Misses may w at told =
    same-so set.shape w (done_in (done_by set tick (amid event look next None) Misses) w) refl refl refl (sym (append-nil w.told.lens)) (nothing-more w) (sym (append-nil w.told.records)) at.live refl refl refl at.next (asked set tick event w may told)
each set tick sound event look next (Joins buf len) may w at told =
    told-anew set tick event _ may.0
    (same-so set.shape (joins len w) (done_in (done_by set tick (amid event look next None) (Joins buf len)) w) refl refl refl refl (nothing-more w) (sym (append-nil w.told.records))
    (ap (λ t. Some (joined_in t w.next len)) at.now ∙ ap (λ n. Some (joined_in tick n len)) at.next) refl refl refl (ap (λ n. n + 1) at.next) (joined set.shape w len at.live may.1 (asked set tick event w may.0 told)))
each set tick sound event look next (Looks s seen) may w at told =
    turn-anew set tick event _ may
    (same-so set.shape w (done_in (done_by set tick (amid event look next (Some s)) (Looks s seen)) w) refl refl refl (sym (append-nil w.told.lens)) (nothing-more w) (sym (append-nil w.told.records)) at.live refl refl refl at.next (in-turn set tick event w may told))
each set tick sound event look next (Reads s cells) may w at told = turn-anew set tick event _ may.0 (reads-so set tick event look next s cells w at.live at.next (in-turn set tick event w may.0 told))
each set tick sound event look next (Offers s) may w at told =
    alone-so set.shape (offers set.shape s w) w (done_by set tick (amid event look next (Some s)) (Offers s)) refl refl refl refl refl refl (λ number. refl) refl (ap (λ t. Some (once_offered set t s)) at.now) refl refl refl at.next
    (offered set.shape w s at.live may.phase may.enough may.fits (in-turn set tick event w may.turn told))
each set tick sound event look next (Leaves s sent number block phase) may w at told =
    let before = before-of set tick (amid event look next (Some s)) event w at told in
    let P : World → Type 0 = λ x. SoFar set.shape (done_in (done_by set tick (amid event look next (Some s)) (Leaves s sent number block phase)) x) in
    let Q : TxEvent → Type 0 = λ e. SoFar set.shape (done_in (done_by set tick (amid e look next (Some s)) (Leaves s sent number block phase)) (event_in set tick e told.before)) in
    subst P (sym told.is) (subst Q (sym may.left) (leaves-on set tick look next s sent number block phase told.before sound before.live before.next before.now may.box may.more may.next told.so))
each set tick sound event look next (Waits s phase block gap) may w at told = waits-by set tick look next s phase block gap event w may at told
each set tick sound event look next (Ends s sent act result left) may w at told =
    let before = before-of set tick (amid event look next (Some s)) event w at told in
    let P : World → Type 0 = λ x. SoFar set.shape (done_in (done_by set tick (amid event look next (Some s)) (Ends s sent act result left)) x) in
    subst P (sym told.is) (ends-by set tick event look next s sent act result left told.before sound before.live before.next before.now told.timely may told.so)

-- one after another
box-both : (first later : BoxMeaning) (lies : Option Meaning) → box_then later (box_then first lies) ≡ box_then (act_then first later) lies
box-both Keeps later lies = refl
box-both (OffersUnit unit) Keeps lies = refl
box-both (OffersUnit unit) (OffersUnit later) lies = refl
box-both (OffersUnit unit) Revokes lies = refl
box-both Revokes Keeps lies = refl
box-both Revokes (OffersUnit later) lies = refl
box-both Revokes Revokes lies = refl

done-both : (first later : TxDone) (w : World) → done_in later (done_in first w) ≡ done_in (done_then first later) w
done-both first later w =
    let lens : (w.told.lens ++ lens_in first.calls) ++ lens_in later.calls ≡ w.told.lens ++ lens_in (first.calls ++ later.calls) = append_assoc w.told.lens (lens_in first.calls) (lens_in later.calls) ∙ ap (λ l. w.told.lens ++ l) (sym (flat_map-append len_joined first.calls later.calls)) in
    let read : (λ number. (w.told.read number ++ bytes_of (cells_in number first.calls)) ++ bytes_of (cells_in number later.calls)) ≡ (λ number. w.told.read number ++ bytes_of (cells_in number (first.calls ++ later.calls))) =
    fun_ext (λ number. append_assoc (w.told.read number) (bytes_of (cells_in number first.calls)) (bytes_of (cells_in number later.calls))
    ∙ ap (λ l. w.told.read number ++ l) (sym (flat_map-append cell_bytes (cells_in number first.calls) (cells_in number later.calls)) ∙ ap bytes_of (sym (flat_map-append (cell_read number) first.calls later.calls)))) in
    rw (lens, read, append_assoc w.told.records first.records later.records, box-both first.act later.act w.box) refl

done-none : (tick : ℕ) (p : TxStage) (w : World) → IsAt tick p w → w ≡ done_in (nothing_at tick p) w
done-none tick p w at =
    let read : (λ number. w.told.read number ++ bytes_of []) ≡ w.told.read = fun_ext (λ number. append-nil (w.told.read number)) in
    rw (append-nil w.told.lens, read, append-nil w.told.records, ← at.live, ← at.next) refl

pub law : (set : TxSet) (tick : ℕ) → IsShape set.shape → IsDoneLaw set tick (LeadsOn set tick)
law set tick sound = record {
  none = λ p w at so.
      let P : World → Type 0 = λ x. SoFarBut set tick p.event x in
      subst P (done-none tick p w at) so;
  then = λ p first later one two w at so.
      let P : World → Type 0 = λ x. SoFarBut set tick later.new.event x in
      subst P (done-both first later w) (two (done_in first w) (record { live = refl; next = refl; now = at.now }) (one w at so));
  each = each set tick sound;
}
