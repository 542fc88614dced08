-- What a sender's frames are: units of the channel's shape, each counted in its transmission.
use Rattle.std.proofs.Common.{◌≡◌, ℕ, true, false, Option, Some, List, [], ◌∷◌, ◌++◌, refl, ap, sym, ◌∙◌, subst, arith, append-nil, append_assoc}
use Rattle.tp_sender.specs.Runs.{HasSent, box_after, left_by, written_at}
use Rattle.tp_unit.specs.Box.{Written}
use Rattle.tp_sender.specs.State.{TxTurn, tx_new, Transmission}
use Rattle.hub_core.specs.Turns.{state_after}
use Rattle.std.specs.Prelude.{◌==◌, map}
use Rattle.std.specs.List.{AllByRecursion, AllZip, flat_map}
use Rattle.std.proofs.lemmas.Bool.Decides.{nat_tests}
use Rattle.std.proofs.lemmas.Grind.{flat_map-append}
use Rattle.std.proofs.lemmas.List.{map-append}
use Rattle.hub_core.specs.declared.record.DestRecord.{DestRecord}
use Rattle.tp_attempts.specs.Attempts.{attempts_in}
use Rattle.tp_attempts.specs.Cuts.{Cut}
use Rattle.tp_attempts.specs.Seen.{Seen, is_start}
use Rattle.tp_attempts.specs.Walk.{walk_of}
use Rattle.tp_attempts.proofs.Cuts.{cuts-begin, cuts-more}
use Rattle.tp_sender.specs.declared.event.TxEvent.{TxEvent}
use Rattle.tp_sender.specs.declared.event.TxEvent.TheVariants.{Turn, Fc as CameFc, Left, RunEnd}
use Rattle.tp_sender.specs.declared.set.TxSet.{TxSet}
use Rattle.tp_sender.specs.Frame.{part_after, start_with, unit_after}
use Rattle.tp_sender.specs.Table.{TxStep}
use Rattle.tp_sender.proofs.Own.{HasBoxed, has-boxed}
use Rattle.tp_unit.specs.declared.shape.Shape.{Shape}
use Rattle.tp_unit.specs.Shape.{IsShape, address_size, fits_shape, part_of_start}
use Rattle.tp_unit.specs.Unit.{Meaning, ConsecutiveFrame}
use Rattle.tp_unit.specs.Writing.{frame_of}
use Rattle.tp_unit.proofs.RoundTrip.{reads_back}
use Rattle.sender_law.specs.Channel.{IsOfChannel}
use Rattle.sender_law.specs.Transfer.{SendsFor, Transfer, is_consecutive, seen_of, ticks_of}
use Rattle.sender_law.proofs.records.Origins.{InTicks}
use Rattle.sender_law.proofs.transfers.TxFrames.{begins, seen_unit}
use Rattle.sender_law.proofs.transfers.TxLaw.{so-far, world_of}
use Rattle.sender_law.proofs.transfers.TxLeaves.{ticks-next}
use Rattle.sender_law.proofs.transfers.TxLeft.{in-box}
use Rattle.sender_law.proofs.transfers.TxMoves.{lives-some}
use Rattle.sender_law.proofs.transfers.TxWorld.{GoesOn, IsBoxed, SoFar, Unsent, UnderWay, Way, World}
use Rattle.gw_base.proofs.Lists.{all-join}

-- the ticks of all transmissions of these frames
abbrev pub all_ticks : List Seen → List ℕ
all_ticks frames = flat_map ticks_of (attempts_in false frames)

-- a frame begins a transmission, or is a consecutive one of the last
ticks-begin : (frames : List Seen) (x : Seen) → is_start false x.meaning ≡ true → all_ticks (frames ++ x ∷ []) ≡ all_ticks frames ++ x.at ∷ []
ticks-begin frames x is = ap (flat_map ticks_of) (cuts-begin (λ (s : Seen). is_start false s.meaning) frames x is) ∙ flat_map-append ticks_of (attempts_in false frames) (record { start = x; after = [] } ∷ [])

ticks-more : (frames : List Seen) (x : Seen) (ended : List (Cut Seen)) (cut : Cut Seen) → is_start false x.meaning ≡ false → is_consecutive x.meaning ≡ true → attempts_in false frames ≡ ended ++ cut ∷ [] → all_ticks (frames ++ x ∷ []) ≡ all_ticks frames ++ x.at ∷ []
ticks-more frames x ended cut other next is =
    let grown : Cut Seen = record { start = cut.start; after = cut.after ++ x ∷ [] } in
    ap (flat_map ticks_of) (cuts-more (λ (s : Seen). is_start false s.meaning) frames x ended cut other is) ∙ flat_map-append ticks_of ended (grown ∷ [])
    ∙ ap (λ l. flat_map ticks_of ended ++ l) (append-nil (ticks_of grown) ∙ ticks-next cut x next ∙ ap (λ l. l ++ x.at ∷ []) (sym (append-nil (ticks_of cut))))
    ∙ sym (append_assoc (flat_map ticks_of ended) (flat_map ticks_of (cut ∷ [])) (x.at ∷ []))
    ∙ ap (λ l. l ++ x.at ∷ []) (sym (flat_map-append ticks_of ended (cut ∷ [])) ∙ ap (flat_map ticks_of) (sym is))

-- the frame in the box leaves
ticks-left : (shape : Shape) (w : World) (s : Transmission) (at : ℕ) → IsShape shape → (so : SoFar shape w) → (on : GoesOn shape w s so.going) → IsBoxed shape s.len s.sent s.number w.box on.offered →
    Way shape w.told.answers w.clear s.begin w.told.now s.len s.number s.sent s.block s.gap on.taken s.phase s.since so.going →
    all_ticks (w.told.frames ++ seen_unit shape at (unit_after shape s.len s.sent s.number on.offered) ∷ []) ≡ all_ticks w.told.frames ++ at ∷ []
ticks-left shape w s at sound so on boxed (Unsent none first bytes cuts early) =
    let unit : unit_after shape s.len s.sent s.number on.offered ≡ start_with shape s.len on.offered = rw none refl in
    let part : part_after shape s.len s.sent ≡ (part_of_start shape s.len).bytes = rw none refl in
    let F : Meaning → Type 0 = λ u. fits_shape shape u ≡ true in
    let G : Meaning → Type 0 = λ u. all_ticks (w.told.frames ++ seen_unit shape at u ∷ []) ≡ all_ticks w.told.frames ++ at ∷ [] in
    subst G (sym unit) (ticks-begin w.told.frames (seen_unit shape at (start_with shape s.len on.offered)) (begins shape at s.len on.offered sound (subst F unit boxed.fits) (boxed.part ∙ part)).is)
ticks-left shape w s at sound so on boxed (UnderWay cut some cuts pieces way every ready) =
    let later : (s.sent == 0) ≡ false = grind (arith, nat_tests) in
    let unit : unit_after shape s.len s.sent s.number on.offered ≡ ConsecutiveFrame s.number on.offered = rw later refl in
    let F : Meaning → Type 0 = λ u. fits_shape shape u ≡ true in
    let G : Meaning → Type 0 = λ u. all_ticks (w.told.frames ++ seen_unit shape at u ∷ []) ≡ all_ticks w.told.frames ++ at ∷ [] in
    let back = reads_back shape (ConsecutiveFrame s.number on.offered) sound (subst F unit boxed.fits) in
    subst G (sym unit) (ticks-more w.told.frames (seen_unit shape at (ConsecutiveFrame s.number on.offered)) so.ended cut (ap (is_start false) back) (ap is_consecutive back) (so.cut ∙ ap (λ l. so.ended ++ l) cuts))

-- what was written so far
pub record AreWritten (shape : Shape) (frames : List Written) : Type 0 where
  pub own : AllByRecursion (IsOfChannel shape) frames
  pub counted : map (λ (w : Written). w.tick) frames ≡ all_ticks (map (seen_of (address_size shape)) frames)

written-same : (shape : Shape) (frames more : List Written) → more ≡ [] → AreWritten shape frames → AreWritten shape (frames ++ more)
written-same shape frames more none so = rw (none, append-nil) so

-- what lies in the box of a session that goes on
record Lies (shape : Shape) (frames : List Written) (tick : ℕ) (lies : Option Meaning) : Type 0 where
  unit : Meaning
  is : lies ≡ Some unit
  fits : fits_shape shape unit ≡ true
  ticks : all_ticks (map (seen_of (address_size shape)) frames ++ seen_unit shape tick unit ∷ []) ≡ all_ticks (map (seen_of (address_size shape)) frames) ++ tick ∷ []

written-left : (shape : Shape) (frames : List Written) (tick : ℕ) (lies : Option Meaning) → Lies shape frames tick lies → AreWritten shape frames → AreWritten shape (frames ++ written_at shape Left tick lies)
written-left shape frames tick lies box so =
    let x : Written = record { tick = tick; frame = frame_of shape box.unit } in
    let own : IsOfChannel shape x = record { unit = box.unit; fits = box.fits; frame = refl; id = refl; fd = refl } in
    rw box.is (record {
      own = all-join (IsOfChannel shape) frames (x ∷ []) so.own (own, tt);
      counted = map-append (λ (w : Written). w.tick) frames (x ∷ []) ∙ ap (λ l. l ++ tick ∷ []) so.counted ∙ sym box.ticks ∙ ap all_ticks (sym (map-append (seen_of (address_size shape)) frames (x ∷ [])));
    })

lies-by : (set : TxSet) (earlier : List TxTurn) (m : TxTurn) → IsShape set.shape → HasSent set earlier → m.event ≡ Left → TxStep set (state_after tx_new earlier) m.event m.did → Lies set.shape (left_by set.shape earlier) m.did.tick (box_after earlier)
lies-by set earlier m sound happened at row =
    let has : HasBoxed (state_after tx_new earlier).live = has-boxed set (state_after tx_new earlier) m.event m.did at row in
    let s : Transmission = has.s in
    let w : World = world_of set earlier in
    let so : SoFar set.shape w = so-far set earlier sound happened in
    let on : GoesOn set.shape w s so.going = lives-some set.shape w (state_after tx_new earlier).live s so.going has.is so.lives in
    let boxed : IsBoxed set.shape s.len s.sent s.number (box_after earlier) on.offered = in-box set.shape s.len s.sent s.number s.phase (box_after earlier) on.offered has.box on.box in
    record { unit = unit_after set.shape s.len s.sent s.number on.offered; is = boxed.lies; fits = boxed.fits; ticks = ticks-left set.shape w s m.did.tick sound so on boxed on.way }

written-step : (set : TxSet) (earlier : List TxTurn) (m : TxTurn) (event : TxEvent) → IsShape set.shape → HasSent set earlier → m.event ≡ event → TxStep set (state_after tx_new earlier) m.event m.did → AreWritten set.shape (left_by set.shape earlier) →
    AreWritten set.shape (left_by set.shape earlier ++ written_at set.shape event m.did.tick (box_after earlier))
written-step set earlier m Turn sound happened at row so = written-same set.shape (left_by set.shape earlier) [] refl so
written-step set earlier m (CameFc fs bs st) sound happened at row so = written-same set.shape (left_by set.shape earlier) [] refl so
written-step set earlier m Left sound happened at row so = written-left set.shape (left_by set.shape earlier) m.did.tick (box_after earlier) (lies-by set earlier m sound happened at row) so
written-step set earlier m RunEnd sound happened at row so = written-same set.shape (left_by set.shape earlier) [] refl so

-- where no other frames of the channel left
pub written : (P : ℕ → Type 0) (set : TxSet) (moments : List TxTurn) → IsShape set.shape → HasSent set moments → AllByRecursion (InTicks P) moments → AreWritten set.shape (left_by set.shape moments)
written P set [] sound happened all = record { own = tt; counted = refl }
written P set (m ∷ earlier) sound happened all = written-step set earlier m m.event sound happened.2 refl happened.1.1 (written P set earlier sound happened.2 all.1)

-- the ticks of transmissions whose frames all count
pub ticks-counted : (t : Transfer) (cuts : List (Cut Seen)) (records : List DestRecord) → AllZip (SendsFor t) cuts records → flat_map ticks_of cuts ≡ flat_map (λ (cut : Cut Seen). map (λ piece. piece.at) (walk_of t.address cut).pieces) cuts
ticks-counted t [] [] all = refl
ticks-counted t [] (told ∷ records) all = absurd all
ticks-counted t (cut ∷ cuts) [] all = absurd all
ticks-counted t (cut ∷ cuts) (told ∷ records) all = ap (λ l. l ++ flat_map ticks_of cuts) (sym all.0.counts) ∙ ap (λ l. map (λ piece. piece.at) (walk_of t.address cut).pieces ++ l) (ticks-counted t cuts records all.1)
