-- In a whole run each session that ended with its source saw in the tick before that the source still wrote, where its next frame
-- was allowed by then.
use Rattle.std.proofs.Common.{◌≡◌, ℕ, ◌<◌, ◌≤◌, ◌⊎◌, inl, inr, Bool, Option, Some, None, List, [], ◌∷◌, ◌++◌, refl, ap, sym, subst, ◌∙◌, arith, append-nil, append_assoc}
use Rattle.std.specs.List.{AllByRecursion}
use Rattle.gw_base.proofs.Lists.{all-join, all-weaker}
use Rattle.hub_core.proofs.Turns.{happened-front}
use Rattle.hub_core.specs.Turns.{Part, came_by, now_of, state_after, tick_after, turns_of}
use Rattle.hub_core.specs.declared.record.DestRecord.{DestRecord}
use Rattle.hub_core.specs.declared.record.DestResult.TheVariants.{SourceEnded}
use Rattle.tp_sender.specs.Runs.{HasSent, controls_in}
use Rattle.tp_sender.specs.State.{Transmission, TxTurn, tx_new}
use Rattle.tp_sender.specs.declared.event.TxEvent.{TxEvent}
use Rattle.tp_sender.specs.declared.event.TxEvent.TheVariants.{Turn, Fc as CameFc, Left, RunEnd}
use Rattle.tp_sender.specs.declared.set.TxSet.{TxSet}
use Rattle.tp_sender.specs.declared.transmission.Phase.{Phase}
use Rattle.tp_sender.specs.declared.transmission.Phase.TheVariants.{Box, Fc}
use Rattle.tp_unit.specs.Box.{Answer, Leaves, Nothing, Stays, Went}
use Rattle.tp_unit.specs.Unit.{Meaning}
use Rattle.sender_law.specs.Parts.{IsAnswerIn, IsStepIn, IsTxPart}
use Rattle.sender_law.specs.Runs.{AreTxParts, HasLimits, IsNextPart, IsTxRun, TxRun, turns_in}
use Rattle.sender_law.specs.Starts.{IsLacking}
use Rattle.sender_law.specs.TransmissionCauses.{AllowedFrom}
use Rattle.sender_law.proofs.TxParts.{parts-front, turns-in}
use Rattle.sender_law.proofs.causes.SourceEnds.{AtOnce, EachTold, EndedIn, Lacking, SawBefore, SawLast, WasSent, ended-in, lacks-by, saw-in, was-sent, zip-told}
use Rattle.sender_law.proofs.causes.TransmissionCauses.{AreOfFrames, of-frames}
use Rattle.sender_law.proofs.causes.TxCausesEnd.{end-answers}
use Rattle.sender_law.proofs.causes.TxCausesFrames.{live_ticks, ticks_then}
use Rattle.sender_law.proofs.causes.TxCausesLists.{Splits, asked}
use Rattle.sender_law.proofs.causes.TxCausesMoments.{Lives}
use Rattle.sender_law.proofs.causes.TxCausesParts.{Came, PartAnswers, came-in, in-parts, now-within, part-answers, splits-at}
use Rattle.sender_law.proofs.causes.TxCausesSteps.{Opens}
use Rattle.sender_law.proofs.transfers.TxEnds.{MayLack}

-- what came after a front of the parts
record CameAfter (later earlier : List (Part TxTurn)) : Type 0 where
  rest : List Answer
  is : came_by controls_in (turns_of (later ++ earlier)) ≡ came_by controls_in (turns_of earlier) ++ rest
  late : AllByRecursion (λ (a : Answer). tick_after earlier ≤ a.tick) rest

after-more : (full : ℕ → Bool) (later earlier : List (Part TxTurn)) → AreTxParts full (later ++ earlier) → tick_after earlier ≤ tick_after (later ++ earlier)
after-more full [] earlier are = omega arith
after-more full (part ∷ later) earlier are = omega (arith, after-more full later earlier are.1, are.0.later)

came-after : (full : ℕ → Bool) (later earlier : List (Part TxTurn)) → AreTxParts full (later ++ earlier) → CameAfter later earlier
came-after full [] earlier are = record { rest = []; is = sym (append-nil (came_by controls_in (turns_of earlier))); late = tt }
came-after full (part ∷ later) earlier are =
    let so : CameAfter later earlier = came-after full later earlier are.1 in
    let here : PartAnswers part.tick (turns_of (later ++ earlier)) (part.turns ++ turns_of (later ++ earlier)) = part-answers full (turns_of (later ++ earlier)) part are.0.part_is in
    record {
      rest = so.rest ++ here.came;
      is = here.came_is ∙ ap (λ l. l ++ here.came) so.is ∙ append_assoc (came_by controls_in (turns_of earlier)) so.rest here.came;
      late = all-join (λ (a : Answer). tick_after earlier ≤ a.tick) so.rest here.came so.late
          (all-weaker (λ (a : Answer). part.tick ≤ a.tick) (λ (a : Answer). tick_after earlier ≤ a.tick) here.came (λ a le. omega (arith, le, after-more full later earlier are.1, are.0.later)) here.came_now);
    }

sent-before : (set : TxSet) (later earlier : List (Part TxTurn)) → HasSent set (turns_of (later ++ earlier)) → HasSent set (turns_of earlier)
sent-before set [] earlier happened = happened
sent-before set (part ∷ later) earlier happened = sent-before set later earlier (happened-front _ part.turns (turns_of (later ++ earlier)) happened)

-- the part before, in which bytes were lacking at last
saw-at : (set : TxSet) (full : ℕ → Bool) (parts later earlier : List (Part TxTurn)) (w : Transmission) → parts ≡ later ++ earlier → AreTxParts full earlier → HasSent set (turns_of earlier) → (state_after tx_new (turns_of earlier)).live ≡ Some w → IsLacking w.phase → SawBefore set parts w.seq (tick_after earlier)
saw-at set full parts later [] w is are happened some lacks = absurd (let no : None ≡ Some w = some in cc)
saw-at set full parts later (part ∷ earlier) w is are happened some lacks =
    record { later = later; part = part; earlier = earlier; are = is; tick_is = refl; saw = saw-in set full (turns_of earlier) part w are.0.part_is happened some lacks }

not-box : (w s : Phase) → (w ≡ s) ⊎ (w ≡ Fc) → MayLack s → w ≡ Box → ⊥
not-box w s (inl same) may box = subst MayLack (sym same ∙ box) may
not-box w s (inr fc) may box = let no : Fc ≡ Box = sym fc ∙ box in cc

not-idle : (live : Option Transmission) (w : Transmission) → live ≡ None → live ≡ Some w → ⊥
not-idle live w none some = let no : None ≡ Some w = sym none ∙ some in cc

-- what a part follows
record Follows (run : TxRun) (later : List (Part TxTurn)) (part : Part TxTurn) (earlier : List (Part TxTurn)) : Type 0 where
  are : run.parts ≡ later ++ part ∷ earlier
  parts_are : AreTxParts run.full earlier
  next : IsNextPart run.full earlier part
  happened : HasSent run.set (part.turns ++ turns_of earlier)

follows : (run : TxRun) (later : List (Part TxTurn)) (part : Part TxTurn) (earlier : List (Part TxTurn)) → IsTxRun run → run.parts ≡ later ++ part ∷ earlier → Follows run later part earlier
follows run later part earlier is are =
    let A : List (Part TxTurn) → Type 0 = λ l. AreTxParts run.full l in
    let H : List (Part TxTurn) → Type 0 = λ l. HasSent run.set (turns_of l) in
    let parts = parts-front run.full later (part ∷ earlier) (subst A are is.parts_are) in
    record { are = are; parts_are = parts.1; next = parts.0; happened = sent-before run.set later (part ∷ earlier) (subst H are (happened-front _ run.end (turns_of run.parts) is.happened)) }

-- a session that ends in a part's turn
lacking-at : (run : TxRun) (later : List (Part TxTurn)) (part : Part TxTurn) (earlier : List (Part TxTurn)) (answers : List TxTurn) (s : Transmission) (from : ℕ) → IsTxRun run → HasLimits run.set → Follows run later part earlier → AllByRecursion (IsAnswerIn part.tick) answers → HasSent run.set (answers ++ turns_of earlier) →
    (state_after tx_new (answers ++ turns_of earlier)).live ≡ Some s → MayLack s.phase → AllowedFrom (asked run.set (came_by controls_in (turns_in run))) s.begin (live_ticks (answers ++ turns_of earlier)) part.tick from → from < part.tick → SawBefore run.set run.parts s.seq part.tick
lacking-at run later part earlier answers s from is limits at only happened some may allowed below =
    let tx : TxSet = run.set in
    let full : ℕ → Bool = run.full in
    let front : List TxTurn = turns_of earlier in
    let all : List Answer = came_by controls_in (turns_in run) in
    let was : WasSent front (answers ++ front) s = was-sent tx part.tick answers front s only happened some in
    let now : part.tick ≡ tick_after earlier = elim at.next.next [ inl idle ↦ absurd (not-idle (state_after tx_new front).live was.w idle.live was.live) | inr same ↦ same ] in
    let past : HasSent tx front = happened-front _ answers front happened in
    let A : List (Part TxTurn) → Type 0 = λ l. AreTxParts full l in
    let split : run.parts ≡ (later ++ part ∷ []) ++ earlier = at.are ∙ sym (append_assoc later (part ∷ []) earlier) in
    let came : CameAfter (later ++ part ∷ []) earlier = came-after full (later ++ part ∷ []) earlier (subst A split is.parts_are) in
    let all_is : all ≡ came_by controls_in front ++ came.rest = end-answers run.last run.end (turns_of run.parts) is.ends ∙ ap (λ l. came_by controls_in (turns_of l)) split ∙ came.is in
    let holds = in-parts full tx all run.last earlier came.rest is.shape limits at.parts_are past all_is came.late in
    let L : Option _ → Type 0 = λ l. Lives (Opens full tx all (came_by controls_in front) (tick_after earlier)) (live_ticks front) l in
    let opens : Opens full tx all (came_by controls_in front) (tick_after earlier) (live_ticks front) was.w = subst L was.live holds.live in
    let here : Splits all (came_by controls_in front) (now_of front) (tick_after earlier) = splits-at full tx all (now_of front) (tick_after earlier) front came.rest is.shape past refl all_is came.late in
    let within : now_of front ≤ tick_after earlier = now-within full earlier (tick_after earlier) at.parts_are (omega arith) in
    let splits : Splits all (came_by controls_in front) (tick_after earlier) (tick_after earlier) =
    record { rest = here.rest; all_is = here.all_is; past = all-weaker (λ (a : Answer). a.tick ≤ now_of front) (λ (a : Answer). a.tick ≤ tick_after earlier) (came_by controls_in front) (λ a le. omega (arith, le, within)) here.past; later = here.later } in
    let B : ℕ → Type 0 = λ b. AllowedFrom (asked tx all) b (live_ticks (answers ++ front)) part.tick from in
    let T : List ℕ → Type 0 = λ l. AllowedFrom (asked tx all) was.w.begin l part.tick from in
    let N : ℕ → Type 0 = λ t. AllowedFrom (asked tx all) was.w.begin (live_ticks front) t from in
    let lacks : IsLacking was.w.phase = lacks-by full tx all (came_by controls_in front) (tick_after earlier) was.w.begin (live_ticks front) was.w.block was.w.gap was.w.since from was.w.phase splits opens.phase
    (subst N now (subst T was.ticks (subst B (sym was.begin) allowed))) (omega (arith, below, now)) (not-box was.w.phase s.phase was.phase may) in
    let saw : SawBefore tx run.parts was.w.seq (tick_after earlier) = saw-at tx full run.parts (later ++ part ∷ []) earlier was.w split at.parts_are past was.live lacks in
    let S : ℕ → Type 0 = λ n. SawBefore tx run.parts n (tick_after earlier) in
    let E : ℕ → Type 0 = λ t. SawBefore tx run.parts s.seq t in
    subst E (sym now) (subst S was.seq saw)

-- what is said of each record of a run
abbrev Lasts : TxRun → List ℕ → DestRecord → Type 0
Lasts run ticks told = SawLast run.set (asked run.set (came_by controls_in (turns_in run))) run.parts ticks told

-- steps that are no turns end no session with its source
quiet-one : (run : TxRun) (m : TxTurn) (turns : List TxTurn) (ticks : List ℕ) (told : DestRecord) → (m.event ≡ Turn → ⊥) → told.end.0 ≡ m.did.tick → EndedIn turns m told → told.begin.0 < told.end.0 → ⊥
quiet-one run m turns ticks told out end (AtOnce at) below = omega (arith, at, end, below)
quiet-one run m turns ticks told out end (Lacking s live seq begin at may) below = out at

quiet : (run : TxRun) (turns front : List TxTurn) → AllByRecursion (λ (m : TxTurn). m.event ≡ Turn → ⊥) turns → HasSent run.set (turns ++ front) → EachTold (Lasts run) front → EachTold (Lasts run) (turns ++ front)
quiet run [] front out happened each = each
quiet run (m ∷ turns) front out happened each = (
  all-weaker (λ (told : DestRecord). (told.end.0 ≡ m.did.tick) × (told.result ≡ SourceEnded → EndedIn (turns ++ front) m told)) (Lasts run (ticks_then m.event m.did.tick (live_ticks (turns ++ front)))) m.did.records
      (λ told by how from allowed begins below. absurd (quiet-one run m (turns ++ front) [] told out.0 by.0 (by.1 how) begins)) (ended-in run.set (turns ++ front) m happened),
  quiet run turns front out.1 happened.2 each,
)

no-turn : (m : TxTurn) (event : TxEvent) → m.event ≡ event → (event ≡ Turn → ⊥) → m.event ≡ Turn → ⊥
no-turn m event is out at = out (sym is ∙ at)

answers-quiet : (tick : ℕ) (answers : List TxTurn) → AllByRecursion (IsAnswerIn tick) answers → AllByRecursion (λ (m : TxTurn). m.event ≡ Turn → ⊥) answers
answers-quiet tick answers only =
    all-weaker (IsAnswerIn tick) (λ (m : TxTurn). m.event ≡ Turn → ⊥) answers (λ m is. let came : Came tick m.event m.did.tick = came-in tick m.event m.did.tick is in no-turn m (CameFc came.fs came.bs came.st) came.event_is (λ same. cc)) only

left-quiet : (full : ℕ → Bool) (tick : ℕ) (lies : Option Meaning) (left : List TxTurn) → Leaves (IsStepIn tick Left) full tick lies left → AllByRecursion (λ (m : TxTurn). m.event ≡ Turn → ⊥) left
left-quiet full tick lies left (Nothing none is) = rw is tt
left-quiet full tick lies left (Went meaning m some is goes) = rw is (no-turn m Left goes.0 (λ same. cc), tt)
left-quiet full tick lies left (Stays meaning some is busy) = rw is tt

-- a turn that does
turn-one : (run : TxRun) (later : List (Part TxTurn)) (part : Part TxTurn) (earlier : List (Part TxTurn)) (answers : List TxTurn) (turn : TxTurn) (told : DestRecord) (from : ℕ) → IsTxRun run → HasLimits run.set → Follows run later part earlier → AllByRecursion (IsAnswerIn part.tick) answers → HasSent run.set (answers ++ turns_of earlier) →
    turn.event ≡ Turn → turn.did.tick ≡ part.tick → told.end.0 ≡ turn.did.tick → EndedIn (answers ++ turns_of earlier) turn told →
    AllowedFrom (asked run.set (came_by controls_in (turns_in run))) told.begin.0 (ticks_then turn.event turn.did.tick (live_ticks (answers ++ turns_of earlier))) told.end.0 from → told.begin.0 < told.end.0 → from < told.end.0 → SawBefore run.set run.parts told.seq told.end.0
turn-one run later part earlier answers turn told from is limits at only happened event tick end (AtOnce now) allowed begins below = absurd (omega (arith, now, end, begins))
turn-one run later part earlier answers turn told from is limits at only happened event tick end (Lacking s live seq begin turns may) allowed begins below =
    let controls = asked run.set (came_by controls_in (turns_in run)) in
    let ticks : List ℕ = live_ticks (answers ++ turns_of earlier) in
    let ends : told.end.0 ≡ part.tick = end ∙ tick in
    let E : TxEvent → Type 0 = λ e. AllowedFrom controls told.begin.0 (ticks_then e turn.did.tick ticks) told.end.0 from in
    let B : ℕ → Type 0 = λ b. AllowedFrom controls b ticks told.end.0 from in
    let N : ℕ → Type 0 = λ t. AllowedFrom controls s.begin ticks t from in
    let saw : SawBefore run.set run.parts s.seq part.tick = lacking-at run later part earlier answers s from is limits at only happened live may (subst N ends (subst B begin (subst E event allowed))) (omega (arith, below, ends)) in
    let Q : ℕ → Type 0 = λ n. SawBefore run.set run.parts n part.tick in
    let T : ℕ → Type 0 = λ t. SawBefore run.set run.parts told.seq t in
    subst T (sym ends) (subst Q (sym seq) saw)

each-part : (run : TxRun) (later : List (Part TxTurn)) (part : Part TxTurn) (earlier : List (Part TxTurn)) → IsTxRun run → HasLimits run.set → Follows run later part earlier → EachTold (Lasts run) (turns_of earlier) → EachTold (Lasts run) (part.turns ++ turns_of earlier)
each-part run later part earlier is limits at each =
    let front : List TxTurn = turns_of earlier in
    let p : IsTxPart run.full front part = at.next.part_is in
    let same : part.turns ++ front ≡ p.left ++ p.turn ∷ (p.answers ++ front) = turns-in run.full front part p in
    let H : List TxTurn → Type 0 = λ l. HasSent run.set l in
    let T : List TxTurn → Type 0 = λ l. EachTold (Lasts run) l in
    let whole : HasSent run.set (p.left ++ p.turn ∷ (p.answers ++ front)) = subst H same at.happened in
    let turned : HasSent run.set (p.turn ∷ (p.answers ++ front)) = happened-front _ p.left (p.turn ∷ (p.answers ++ front)) whole in
    let ended = ended-in run.set (p.answers ++ front) p.turn turned in
    let R : DestRecord → Type 0 = Lasts run (ticks_then p.turn.event p.turn.did.tick (live_ticks (p.answers ++ front))) in
    let told : AllByRecursion R p.turn.did.records =
    all-weaker (λ (told : DestRecord). (told.end.0 ≡ p.turn.did.tick) × (told.result ≡ SourceEnded → EndedIn (p.answers ++ front) p.turn told)) R p.turn.did.records
    (λ told by how from allowed begins below. turn-one run later part earlier p.answers p.turn told from is limits at p.answers_only turned.2 p.turn_is p.turn_tick by.0 (by.1 how) allowed begins below) ended in
    subst T (sym same) (quiet run p.left (p.turn ∷ (p.answers ++ front)) (left-quiet run.full part.tick _ p.left p.left_is) whole (told, quiet run p.answers front (answers-quiet part.tick p.answers p.answers_only) turned.2 each))

each-of : (run : TxRun) (later parts : List (Part TxTurn)) → IsTxRun run → HasLimits run.set → run.parts ≡ later ++ parts → EachTold (Lasts run) (turns_of parts)
each-of run later [] is limits are = tt
each-of run later (part ∷ earlier) is limits are =
    each-part run later part earlier is limits (follows run later part earlier is are) (each-of run (later ++ part ∷ []) earlier is limits (are ∙ sym (append_assoc later (part ∷ []) earlier)))

-- each record, with its frames
pub seen-last : (run : TxRun) → IsTxRun run → HasLimits run.set → AreOfFrames (SawLast run.set (asked run.set (came_by controls_in (turns_in run))) run.parts) run
seen-last run is limits =
    of-frames (Lasts run) run is limits
    (zip-told run.set (Lasts run) (turns_in run) is.happened
    (quiet run run.end (turns_of run.parts) (all-weaker (IsStepIn run.last RunEnd) (λ (m : TxTurn). m.event ≡ Turn → ⊥) run.end (λ m step. no-turn m RunEnd step.0 (λ same. cc)) is.ends) is.happened (each-of run [] run.parts is limits refl)))
