-- The ticks of each session's frames, and the transmissions that they are.
use Rattle.std.proofs.Common.{◌≡◌, ℕ, ◌<◌, Bool, true, false, Some, List, [], ◌∷◌, ◌++◌, length, refl, ap, sym, subst, ◌∙◌, arith, append-nil}
use Rattle.tp_sender.specs.declared.transmission.Phase.{Phase}
use Rattle.tp_sender.specs.declared.transmission.Phase.TheVariants.{Box}
use Rattle.flow_plan.specs.Pace.{Control}
use Rattle.tp_unit.specs.Box.{Written}
use Rattle.tp_sender.specs.Runs.{box_after, left_by, written_at}
use Rattle.tp_sender.specs.State.{TxTurn, tx_new, Transmission}
use Rattle.hub_core.specs.Turns.{state_after}
use Rattle.std.specs.Prelude.{filter, map, ◌==◌}
use Rattle.std.proofs.lemmas.Bool.Decides.{nat_tests}
use Rattle.std.proofs.lemmas.List.{map-append, same_from_push}
use Rattle.std.proofs.lemmas.List.Elements.{filter-append}
use Rattle.hub_core.specs.declared.record.DestRecord.{DestRecord}
use Rattle.tp_attempts.specs.Attempts.{attempts_in}
use Rattle.tp_attempts.specs.Cuts.{Cut}
use Rattle.tp_attempts.specs.Seen.{Seen, is_start}
use Rattle.tp_attempts.proofs.Cuts.{cuts-begin, cuts-more}
use Rattle.tp_sender.specs.declared.event.TxEvent.{TxEvent}
use Rattle.tp_sender.specs.declared.event.TxEvent.TheVariants.{Turn, Fc, Left, RunEnd}
use Rattle.tp_sender.specs.declared.set.TxSet.{TxSet}
use Rattle.tp_sender.specs.Frame.{part_after, start_with, unit_after}
use Rattle.tp_unit.specs.declared.shape.Shape.{Shape}
use Rattle.tp_unit.specs.Shape.{IsShape, address_size, fits_shape, part_of_start}
use Rattle.tp_unit.specs.Unit.{Meaning, ConsecutiveFrame}
use Rattle.tp_unit.proofs.RoundTrip.{reads_back}
use Rattle.sender_law.specs.Transfer.{is_consecutive, seen_of, ticks_of}
use Rattle.sender_law.proofs.transfers.TxFrames.{begins, seen_unit}
use Rattle.sender_law.proofs.transfers.TxLaw.{world_of}
use Rattle.sender_law.proofs.transfers.TxLeft.{in-box}
use Rattle.sender_law.proofs.transfers.TxMoves.{lives-some}
use Rattle.sender_law.proofs.transfers.TxWorld.{GoesOn, IsBoxed, SoFar, Way, UnderWay, Unsent}
use Rattle.sender_law.proofs.causes.TxCausesSteps.{Counted}
use Rattle.sender_law.proofs.transfers.TxLeaves.{ticks-next}

-- the ticks of the frames of the session that is being sent, before its end is told
abbrev pub ticks_then : TxEvent → ℕ → List ℕ → List ℕ
ticks_then Turn tick ticks = ticks
ticks_then (Fc fs bs st) tick ticks = ticks
ticks_then Left tick ticks = ticks ++ tick ∷ []
ticks_then RunEnd tick ticks = ticks

abbrev pub unless_ended : List DestRecord → List ℕ → List ℕ
unless_ended [] ticks = ticks
unless_ended (told ∷ more) ticks = []

abbrev pub live_ticks : List TxTurn → List ℕ
live_ticks [] = []
live_ticks (m ∷ earlier) = unless_ended m.did.records (ticks_then m.event m.did.tick (live_ticks earlier))

-- those of the sessions that ended
abbrev pub where_ended : List DestRecord → List ℕ → List (List ℕ)
where_ended [] ticks = []
where_ended (told ∷ more) ticks = ticks ∷ []

abbrev pub ended_ticks : List TxTurn → List (List ℕ)
ended_ticks [] = []
ended_ticks (m ∷ earlier) = ended_ticks earlier ++ where_ended m.did.records (ticks_then m.event m.did.tick (live_ticks earlier))

-- some frames left
abbrev pub is_left : List ℕ → Bool
is_left [] = false
is_left (first ∷ later) = true

-- the frames as reassembly sees them
abbrev pub frames_by : TxSet → List TxTurn → List Seen
frames_by tx moments = map (seen_of (address_size tx.shape)) (left_by tx.shape moments)

-- the transmissions are the sessions of which frames left
abbrev pub AreCuts : List Seen → List (List ℕ) → List ℕ → Type 0
AreCuts frames ended live = map ticks_of (attempts_in false frames) ≡ filter is_left ended ++ filter is_left (live ∷ [])

told-by : (o : List DestRecord) (ended : List (List ℕ)) (ticks : List ℕ) → filter is_left (ended ++ where_ended o ticks) ++ filter is_left (unless_ended o ticks ∷ []) ≡ filter is_left ended ++ filter is_left (ticks ∷ [])
told-by [] ended ticks = ap (λ l. filter is_left l ++ filter is_left (ticks ∷ [])) (append-nil ended)
told-by (told ∷ more) ended ticks = append-nil (filter is_left (ended ++ ticks ∷ [])) ∙ filter-append is_left ended (ticks ∷ [])

pub cuts-told : (tx : TxSet) (m : TxTurn) (earlier : List TxTurn) → AreCuts (frames_by tx (m ∷ earlier)) (ended_ticks earlier) (ticks_then m.event m.did.tick (live_ticks earlier)) →
    AreCuts (frames_by tx (m ∷ earlier)) (ended_ticks (m ∷ earlier)) (live_ticks (m ∷ earlier))
cuts-told tx m earlier is = is ∙ sym (told-by m.did.records (ended_ticks earlier) (ticks_then m.event m.did.tick (live_ticks earlier)))

-- no frame left
pub cuts-quiet : (tx : TxSet) (m : TxTurn) (earlier : List TxTurn) (event : TxEvent) → m.event ≡ event → written_at tx.shape event m.did.tick (box_after earlier) ≡ [] → ticks_then event m.did.tick (live_ticks earlier) ≡ live_ticks earlier →
    AreCuts (frames_by tx earlier) (ended_ticks earlier) (live_ticks earlier) → AreCuts (frames_by tx (m ∷ earlier)) (ended_ticks earlier) (ticks_then m.event m.did.tick (live_ticks earlier))
cuts-quiet tx m earlier event at none same is =
    let W : List Written → Type 0 = λ l. AreCuts (map (seen_of (address_size tx.shape)) l) (ended_ticks earlier) (live_ticks earlier) in
    let written : left_by tx.shape earlier ++ written_at tx.shape event m.did.tick (box_after earlier) ≡ left_by tx.shape earlier = ap (λ l. left_by tx.shape earlier ++ l) none ∙ append-nil (left_by tx.shape earlier) in
    let E : TxEvent → Type 0 = λ e. AreCuts (map (seen_of (address_size tx.shape)) (left_by tx.shape earlier ++ written_at tx.shape e m.did.tick (box_after earlier))) (ended_ticks earlier) (ticks_then e m.did.tick (live_ticks earlier)) in
    let T : List ℕ → Type 0 = λ l. AreCuts (map (seen_of (address_size tx.shape)) (left_by tx.shape earlier ++ written_at tx.shape event m.did.tick (box_after earlier))) (ended_ticks earlier) l in
    subst E (sym at) (subst T (sym same) (subst W (sym written) is))

-- the frame that left begins a transmission, or goes on with one
starts-one : (shape : Shape) (at len sent number : ℕ) (offered : List ℕ) → IsShape shape → sent ≡ 0 → length offered ≡ part_after shape len sent → fits_shape shape (unit_after shape len sent number offered) ≡ true →
    is_start false (seen_unit shape at (unit_after shape len sent number offered)).meaning ≡ true
starts-one shape at len sent number offered sound none part fits =
    let unit : unit_after shape len sent number offered ≡ start_with shape len offered = rw none refl in
    let first : part_after shape len sent ≡ (part_of_start shape len).bytes = rw none refl in
    let F : Meaning → Type 0 = λ u. fits_shape shape u ≡ true in
    ap (λ u. is_start false (seen_unit shape at u).meaning) unit ∙ (begins shape at len offered sound (subst F unit fits) (part ∙ first)).is

goes-on : (shape : Shape) (at len sent number : ℕ) (offered : List ℕ) → IsShape shape → 0 < sent → fits_shape shape (unit_after shape len sent number offered) ≡ true →
    (is_start false (seen_unit shape at (unit_after shape len sent number offered)).meaning ≡ false) × (is_consecutive (seen_unit shape at (unit_after shape len sent number offered)).meaning ≡ true)
goes-on shape at len sent number offered sound some fits =
    let not_first : (sent == 0) ≡ false = grind (arith, nat_tests) in
    let unit : unit_after shape len sent number offered ≡ ConsecutiveFrame number offered = rw not_first refl in
    let F : Meaning → Type 0 = λ u. fits_shape shape u ≡ true in
    let read = reads_back shape (ConsecutiveFrame number offered) sound (subst F unit fits) in
    (ap (λ u. is_start false (seen_unit shape at u).meaning) unit ∙ ap (is_start false) read, ap (λ u. is_consecutive (seen_unit shape at u).meaning) unit ∙ ap is_consecutive read)

left-by-one : (ticks : List ℕ) (now : ℕ) → filter is_left ((ticks ++ now ∷ []) ∷ []) ≡ (ticks ++ now ∷ []) ∷ []
left-by-one [] now = refl
left-by-one (first ∷ later) now = refl

left-some : (ticks : List ℕ) → 0 < length ticks → filter is_left (ticks ∷ []) ≡ ticks ∷ []
left-some [] some = absurd (omega (arith, some))
left-some (first ∷ later) some = refl

cuts-by : (shape : Shape) (all : List Control) (clear begin was now len number sent block gap : ℕ) (taken : List ℕ) (since : ℕ) (frames : List Seen) (ended going : List (Cut Seen)) (offered : List ℕ) (closed : List (List ℕ)) (ticks : List ℕ) → IsShape shape →
    attempts_in false frames ≡ ended ++ going → length offered ≡ part_after shape len sent → fits_shape shape (unit_after shape len sent number offered) ≡ true → Counted sent ticks → AreCuts frames closed ticks →
    Way shape all clear begin was len number sent block gap taken Box since going → AreCuts (frames ++ seen_unit shape now (unit_after shape len sent number offered) ∷ []) closed (ticks ++ now ∷ [])
cuts-by shape all clear begin was now len number sent block gap taken since frames ended going offered closed ticks sound cut part fits counted are (Unsent none first bytes cuts early) =
    let x : Seen = seen_unit shape now (unit_after shape len sent number offered) in
    let no_ticks : ticks ≡ [] = counted.none none in
    let old : map ticks_of (attempts_in false frames) ≡ filter is_left closed = are ∙ ap (λ l. filter is_left closed ++ filter is_left (l ∷ [])) no_ticks ∙ append-nil (filter is_left closed) in
    ap (λ l. map ticks_of l) (cuts-begin (λ (s : Seen). is_start false s.meaning) frames x (starts-one shape now len sent number offered sound none part fits))
    ∙ map-append ticks_of (attempts_in false frames) (record { start = x; after = [] } ∷ []) ∙ ap (λ l. l ++ (now ∷ []) ∷ []) old ∙ ap (λ l. filter is_left closed ++ filter is_left ((l ++ now ∷ []) ∷ [])) (sym no_ticks)
cuts-by shape all clear begin was now len number sent block gap taken since frames ended going offered closed ticks sound cut part fits counted are (UnderWay one some cuts count way every ready) =
    let x : Seen = seen_unit shape now (unit_after shape len sent number offered) in
    let kind = goes-on shape now len sent number offered sound some fits in
    let was_cut : attempts_in false frames ≡ ended ++ one ∷ [] = cut ∙ ap (λ l. ended ++ l) cuts in
    let same : (map ticks_of ended ≡ filter is_left closed) × (ticks_of one ≡ ticks) =
    same_from_push (map ticks_of ended) (filter is_left closed) (ticks_of one) ticks (sym (map-append ticks_of ended (one ∷ [])) ∙ ap (λ l. map ticks_of l) (sym was_cut) ∙ are ∙ ap (λ l. filter is_left closed ++ l) (left-some ticks (counted.some some))) in
    ap (λ l. map ticks_of l) (cuts-more (λ (s : Seen). is_start false s.meaning) frames x ended one kind.0 was_cut)
    ∙ map-append ticks_of ended (record { start = one.start; after = one.after ++ x ∷ [] } ∷ []) ∙ ap (λ l. l ++ ticks_of (record { start = one.start; after = one.after ++ x ∷ [] }) ∷ []) same.0
    ∙ ap (λ l. filter is_left closed ++ l ∷ []) (ticks-next one x kind.1 ∙ ap (λ l. l ++ now ∷ []) same.1) ∙ ap (λ l. filter is_left closed ++ l) (sym (left-by-one ticks now))

-- the frame in the box left
pub cuts-left : (tx : TxSet) (m : TxTurn) (earlier : List TxTurn) (s : Transmission) → IsShape tx.shape → m.event ≡ Left → (state_after tx_new earlier).live ≡ Some s → s.phase ≡ Box → SoFar tx.shape (world_of tx earlier) → Counted s.sent (live_ticks earlier) →
    AreCuts (frames_by tx earlier) (ended_ticks earlier) (live_ticks earlier) → AreCuts (frames_by tx (m ∷ earlier)) (ended_ticks earlier) (ticks_then m.event m.did.tick (live_ticks earlier))
cuts-left tx m earlier s sound at is phase so counted are =
    let w = world_of tx earlier in
    let on : GoesOn tx.shape w s so.going = lives-some tx.shape w (state_after tx_new earlier).live s so.going is so.lives in
    let boxed : IsBoxed tx.shape s.len s.sent s.number (box_after earlier) on.offered = in-box tx.shape s.len s.sent s.number s.phase (box_after earlier) on.offered phase on.box in
    let W : Phase → Type 0 = λ p. Way tx.shape w.told.answers w.clear s.begin w.told.now s.len s.number s.sent s.block s.gap on.taken p s.since so.going in
    let f : Written → Seen = seen_of (address_size tx.shape) in
    let unit : Meaning = unit_after tx.shape s.len s.sent s.number on.offered in
    let new : AreCuts (frames_by tx earlier ++ seen_unit tx.shape m.did.tick unit ∷ []) (ended_ticks earlier) (live_ticks earlier ++ m.did.tick ∷ []) =
    cuts-by tx.shape w.told.answers w.clear s.begin w.told.now m.did.tick s.len s.number s.sent s.block s.gap on.taken s.since (frames_by tx earlier) so.ended so.going on.offered (ended_ticks earlier) (live_ticks earlier) sound so.cut boxed.part boxed.fits counted are (subst W phase on.way) in
    let F : List Seen → Type 0 = λ l. AreCuts l (ended_ticks earlier) (live_ticks earlier ++ m.did.tick ∷ []) in
    let E : TxEvent → Type 0 = λ e. AreCuts (map f (left_by tx.shape earlier ++ written_at tx.shape e m.did.tick (box_after earlier))) (ended_ticks earlier) (ticks_then e m.did.tick (live_ticks earlier)) in
    subst E (sym at) (subst F (sym (map-append f (left_by tx.shape earlier) (written_at tx.shape Left m.did.tick (box_after earlier)) ∙ ap (λ b. map f (left_by tx.shape earlier) ++ map f (written_at tx.shape Left m.did.tick b)) boxed.lies)) new)
