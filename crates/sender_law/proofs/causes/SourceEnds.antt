-- A session that ended with its source saw in the tick before that the source still wrote, where its next frame was allowed by then.
use Rattle.std.proofs.Common.{◌≡◌, ℕ, ◌+◌, ◌<◌, ◌≤◌, ◌⊎◌, inl, inr, Bool, Option, Some, None, List, [], ◌∷◌, ◌++◌, length, refl, ap, sym, subst, ◌∙◌, arith, append-nil}
use Rattle.std.specs.List.{AllByRecursion, AllZip}
use Rattle.flow_plan.specs.Pace.{Control, May, block_of}
use Rattle.gw_base.proofs.Lists.{all-both, all-weaker, same-some, zip-push}
use Rattle.hub_core.specs.Turns.{Part, calls_by, records_by, state_after}
use Rattle.hub_core.specs.View.{Event}
use Rattle.hub_core.specs.declared.record.DestRecord.{DestRecord}
use Rattle.hub_core.specs.declared.record.DestResult.TheVariants.{SourceEnded}
use Rattle.tp_sender.proofs.Own.{own}
use Rattle.tp_sender.specs.Own.{IsToldIn}
use Rattle.tp_sender.specs.Runs.{HasSent, box_after}
use Rattle.tp_sender.specs.State.{Transmission, TxDid, TxTurn, tx_new}
use Rattle.tp_sender.specs.Table.{FrameLeft, IdleRow, InAnswer, LiveRow, TxRow}
use Rattle.tp_sender.specs.Table.{AsksToWait, BlockLeft, Continues, FirstLeft, IsInvalid, LastLeft, NextLeft, Overflows}
use Rattle.tp_sender.specs.declared.event.TxEvent.{TxEvent}
use Rattle.tp_sender.specs.declared.event.TxEvent.TheVariants.{Turn, Left}
use Rattle.tp_sender.specs.declared.set.TxSet.{TxSet}
use Rattle.tp_sender.specs.declared.transmission.Phase.{Phase}
use Rattle.tp_sender.specs.declared.transmission.Phase.TheVariants.{Start, Bytes, Box, Fc, Gap}
use Rattle.tp_unit.specs.Box.{Answer, Leaves, Nothing, Stays, Went}
use Rattle.tp_unit.specs.Unit.{Meaning}
use Rattle.sender_law.specs.Parts.{IsAnswerIn, IsStepIn, IsTxPart}
use Rattle.sender_law.specs.Starts.{IsLacking, SawSource}
use Rattle.sender_law.specs.TransmissionCauses.{AllowedFrom}
use Rattle.sender_law.proofs.TxParts.{turns-in}
use Rattle.sender_law.proofs.causes.TxCausesFrames.{ended_ticks, live_ticks, ticks_then, unless_ended, where_ended}
use Rattle.sender_law.proofs.causes.TxCausesLists.{Splits, asked, may-from, may-now}
use Rattle.sender_law.proofs.causes.TxCausesParts.{Came, came-in}
use Rattle.sender_law.proofs.causes.TxCausesSteps.{MayFrom, PhaseIn}
use Rattle.sender_law.proofs.transfers.TxEnds.{EndsFrom, IsEndNew, IsEndOf, MayLack, of-idle, of-live}
use Rattle.sender_law.proofs.transfers.TxSources.{saw-more, sources}

-- in the part of the tick before, the session saw that its source still writes
pub record SawBefore (set : TxSet) (parts : List (Part TxTurn)) (seq end : ℕ) : Type 0 where
  pub later : List (Part TxTurn)
  pub part : Part TxTurn
  pub earlier : List (Part TxTurn)
  pub are : parts ≡ later ++ part ∷ earlier
  pub tick_is : part.tick + 1 ≡ end
  pub saw : SawSource set (calls_by part.turns) seq

-- so it did where it ended with its source, and was joined before the tick of its end, and by then its next frame was allowed
abbrev pub SawLast : TxSet → List Control → List (Part TxTurn) → List ℕ → DestRecord → Type 0
SawLast set controls parts ticks told =
    told.result ≡ SourceEnded → (from : ℕ) → AllowedFrom controls told.begin.0 ticks told.end.0 from → told.begin.0 < told.end.0 → from < told.end.0 → SawBefore set parts told.seq told.end.0

-- how a turn ends a session with its source: at once as it is joined, or one that was lacking bytes
pub data EndedIn (earlier : List TxTurn) (m : TxTurn) (told : DestRecord) : Type 0 where
  AtOnce : told.begin.0 ≡ m.did.tick → EndedIn earlier m told
  Lacking : (s : Transmission) → (state_after tx_new earlier).live ≡ Some s → told.seq ≡ s.seq → told.begin.0 ≡ s.begin → m.event ≡ Turn → MayLack s.phase → EndedIn earlier m told

ended-by : (set : TxSet) (earlier : List TxTurn) (m : TxTurn) (live : Option Transmission) → (state_after tx_new earlier).live ≡ live → TxRow set (state_after tx_new earlier).next live m.event m.did → AllByRecursion (λ (told : DestRecord). told.result ≡ SourceEnded → EndedIn earlier m told) m.did.records
ended-by set earlier m None is row = all-weaker (IsEndNew m.did.tick) (λ (told : DestRecord). told.result ≡ SourceEnded → EndedIn earlier m told) m.did.records (λ told new how. AtOnce new.begin) (of-idle set (state_after tx_new earlier).next m.event m.did row)
ended-by set earlier m (Some s) is row =
    all-weaker (IsEndOf s m.event) (λ (told : DestRecord). told.result ≡ SourceEnded → EndedIn earlier m told) m.did.records
    (λ told of how. let from : (m.event ≡ Turn) × MayLack s.phase = subst (λ r. EndsFrom s m.event told.sent r) how of.from in Lacking s is of.seq of.begin from.0 from.1) (of-live set s m.event m.did.calls m.did row.0)

pub ended-in : (set : TxSet) (earlier : List TxTurn) (m : TxTurn) → HasSent set (m ∷ earlier) → AllByRecursion (λ (told : DestRecord). (told.end.0 ≡ m.did.tick) × (told.result ≡ SourceEnded → EndedIn earlier m told)) m.did.records
ended-in set earlier m happened =
    all-both (λ (told : DestRecord). told.end.0 ≡ m.did.tick) (λ (told : DestRecord). told.result ≡ SourceEnded → EndedIn earlier m told) (λ (told : DestRecord). (told.end.0 ≡ m.did.tick) × (told.result ≡ SourceEnded → EndedIn earlier m told)) m.did.records (λ told end by. (end, by))
    (all-weaker (IsToldIn set m.did.tick) (λ (told : DestRecord). told.end.0 ≡ m.did.tick) m.did.records (λ told is. is.end) (own set (state_after tx_new earlier) m.event m.did happened.1.1).records)
    (ended-by set earlier m (state_after tx_new earlier).live refl happened.1.1)

-- what holds of each record with the ticks of its session's frames, turn by turn
abbrev pub EachTold : (List ℕ → DestRecord → Type 0) → List TxTurn → Type 0
EachTold R [] = Unit {0}
EachTold R (m ∷ earlier) = AllByRecursion (R (ticks_then m.event m.did.tick (live_ticks earlier))) m.did.records × EachTold R earlier

zip-told-by : (R : List ℕ → DestRecord → Type 0) (closed : List (List ℕ)) (records : List DestRecord) (ticks : List ℕ) (ended : List DestRecord) → length ended ≤ 1 → AllByRecursion (R ticks) ended → AllZip R closed records → AllZip R (closed ++ where_ended ended ticks) (records ++ ended)
zip-told-by R closed records ticks [] few all zip = rw (append-nil closed, append-nil records) zip
zip-told-by R closed records ticks (told ∷ []) few all zip = zip-push R closed records ticks told zip all.0
zip-told-by R closed records ticks (told ∷ next ∷ more) few all zip = absurd (omega (arith, few))

pub zip-told : (set : TxSet) (R : List ℕ → DestRecord → Type 0) (turns : List TxTurn) → HasSent set turns → EachTold R turns → AllZip R (ended_ticks turns) (records_by turns)
zip-told set R [] happened each = tt
zip-told set R (m ∷ earlier) happened each =
    zip-told-by R (ended_ticks earlier) (records_by earlier) (ticks_then m.event m.did.tick (live_ticks earlier)) m.did.records (own set (state_after tx_new earlier) m.event m.did happened.1.1).few each.0 (zip-told set R earlier happened.2 each.1)

-- a session that goes on after the flow controls of a tick was sent before them: in the same phase, or a flow control was awaited
pub record WasSent (front turns : List TxTurn) (s : Transmission) : Type 0 where
  pub w : Transmission
  pub live : (state_after tx_new front).live ≡ Some w
  pub seq : w.seq ≡ s.seq
  pub begin : w.begin ≡ s.begin
  pub ticks : live_ticks turns ≡ live_ticks front
  pub phase : (w.phase ≡ s.phase) ⊎ (w.phase ≡ Fc)

-- one of them
record WentOn (v s : Transmission) (did : TxDid) : Type 0 where
  records : did.records ≡ []
  seq : v.seq ≡ s.seq
  begin : v.begin ≡ s.begin
  phase : (v.phase ≡ s.phase) ⊎ (v.phase ≡ Fc)

went-on : (v now s : Transmission) (did : TxDid) → v.seq ≡ now.seq → v.begin ≡ now.begin → (v.phase ≡ now.phase) ⊎ (v.phase ≡ Fc) → did.records ≡ [] → did.new.live ≡ Some now → did.new.live ≡ Some s → WentOn v s did
went-on v now s did seq begin phase none is some =
    let P : Transmission → Type 0 = λ x. WentOn v x did in
    subst P (same-some is some) (record { records = none; seq = seq; begin = begin; phase = phase })

ended-none : (v s : Transmission) (did : TxDid) → did.new.live ≡ None → did.new.live ≡ Some s → WentOn v s did
ended-none v s did is some = absurd (let no : None ≡ Some s = sym is ∙ some in cc)

answer-on : (set : TxSet) (v s : Transmission) (phase : Phase) (fs bs st : ℕ) (calls : List Event) (did : TxDid) → v.phase ≡ phase → InAnswer set v phase fs bs st calls did → did.new.live ≡ Some s → WentOn v s did
answer-on set v s Start fs bs st calls did at row some = went-on v v s did refl refl (inl refl) row.records row.live some
answer-on set v s Bytes fs bs st calls did at row some = went-on v v s did refl refl (inl refl) row.records row.live some
answer-on set v s Box fs bs st calls did at row some = went-on v v s did refl refl (inl refl) row.records row.live some
answer-on set v s Fc fs bs st calls did at (Continues is row) some = went-on v _ s did refl refl (inr at) row.records row.live some
answer-on set v s Fc fs bs st calls did at (AsksToWait is row) some = went-on v _ s did refl refl (inr at) row.records row.live some
answer-on set v s Fc fs bs st calls did at (Overflows is row) some = ended-none v s did row.live some
answer-on set v s Fc fs bs st calls did at (IsInvalid more row) some = ended-none v s did row.live some
answer-on set v s (Gap until) fs bs st calls did at row some = went-on v v s did refl refl (inl refl) row.records row.live some

phase-on : (w v s : Phase) → (w ≡ v) ⊎ (w ≡ Fc) → (v ≡ s) ⊎ (v ≡ Fc) → (w ≡ s) ⊎ (w ≡ Fc)
phase-on w v s (inl one) (inl other) = inl (one ∙ other)
phase-on w v s (inl one) (inr fc) = inr (one ∙ fc)
phase-on w v s (inr fc) next = inr fc

answer-was : (set : TxSet) (tick : ℕ) (m : TxTurn) (turns front : List TxTurn) (s : Transmission) (live : Option Transmission) → IsAnswerIn tick m → (state_after tx_new turns).live ≡ live → TxRow set (state_after tx_new turns).next live m.event m.did → m.did.new.live ≡ Some s →
    ((v : Transmission) → (state_after tx_new turns).live ≡ Some v → WasSent front turns v) → WasSent front (m ∷ turns) s
answer-was set tick m turns front s None is none row some before =
    let came : Came tick m.event m.did.tick = came-in tick m.event m.did.tick is in
    let E : TxEvent → Type 0 = λ e. IdleRow set (state_after tx_new turns).next e m.did in
    let idle = subst E came.event_is row in
    absurd (let no : None ≡ Some s = sym idle.live ∙ some in cc)
answer-was set tick m turns front s (Some v) is was row some before =
    let came : Came tick m.event m.did.tick = came-in tick m.event m.did.tick is in
    let E : TxEvent → Type 0 = λ e. LiveRow set v e m.did.calls m.did in
    let on : WentOn v s m.did = answer-on set v s v.phase came.fs came.bs came.st m.did.calls m.did refl (subst E came.event_is row.0) some in
    let old : WasSent front turns v = before v was in
    record {
      w = old.w;
      live = old.live;
      seq = old.seq ∙ on.seq;
      begin = old.begin ∙ on.begin;
      ticks = ap (λ r. unless_ended r (ticks_then m.event m.did.tick (live_ticks turns))) on.records ∙ ap (λ e. ticks_then e m.did.tick (live_ticks turns)) came.event_is ∙ old.ticks;
      phase = phase-on old.w.phase v.phase s.phase old.phase on.phase;
    }

pub was-sent : (set : TxSet) (tick : ℕ) (answers front : List TxTurn) (s : Transmission) → AllByRecursion (IsAnswerIn tick) answers → HasSent set (answers ++ front) → (state_after tx_new (answers ++ front)).live ≡ Some s → WasSent front (answers ++ front) s
was-sent set tick [] front s are happened some = record { w = s; live = some; seq = refl; begin = refl; ticks = refl; phase = inl refl }
was-sent set tick (m ∷ answers) front s are happened some =
    answer-was set tick m (answers ++ front) front s (state_after tx_new (answers ++ front)).live are.0 refl happened.1.1 some (λ v is. was-sent set tick answers front v are.1 happened.2 is)

-- by its phase before a tick: where the next frame was allowed below that tick, bytes were lacking, or a frame lay in the box
gap-late : (tx : TxSet) (all so_far : List Answer) (now begin : ℕ) (ticks : List ℕ) (block gap until from : ℕ) → Splits all so_far now now → 0 < length ticks → MayFrom tx all so_far begin ticks block gap until → now ≤ until → AllowedFrom (asked tx all) begin ticks now from → now ≤ from
gap-late tx all so_far now begin [] block gap until from splits some may late allowed = absurd (omega (arith, some))
gap-late tx all so_far now begin (first ∷ later) block gap until from splits some may late allowed =
    let both : May until gap (block_of block) ≡ May from allowed.0 allowed.1 = sym (may-now tx all so_far now first later until gap (block_of block) splits may.1) ∙ allowed.2 in
    let same : until ≡ from = cc in
    omega (arith, late, same)

pub lacks-by : (full : ℕ → Bool) (tx : TxSet) (all so_far : List Answer) (now begin : ℕ) (ticks : List ℕ) (block gap since from : ℕ) (phase : Phase) → Splits all so_far now now → PhaseIn full tx all so_far now now begin ticks block gap since phase → AllowedFrom (asked tx all) begin ticks now from → from < now → (phase ≡ Box → ⊥) → IsLacking phase
lacks-by full tx all so_far now begin ticks block gap since from Start splits is allowed below out = tt
lacks-by full tx all so_far now begin ticks block gap since from Bytes splits is allowed below out = tt
lacks-by full tx all so_far now begin ticks block gap since from Box splits is allowed below out = out refl
lacks-by full tx all so_far now begin ticks block gap since from Fc splits is allowed below out =
    let A : List ℕ → Type 0 = λ l. AllowedFrom (asked tx all) begin l now from in
    let may = subst A is.are allowed in
    omega (arith, below, may-from tx all so_far now is.first is.later is.left since from may.0 may.1 splits is.pace may.2)
lacks-by full tx all so_far now begin ticks block gap since from (Gap until) splits is allowed below out =
    omega (arith, below, gap-late tx all so_far now begin ticks block gap until.0 from splits is.some is.may is.in_time allowed)

-- after a frame left no bytes are lacking
left-lacks : (set : TxSet) (s t : Transmission) (calls : List Event) (did : TxDid) → FrameLeft set s calls did → did.new.live ≡ Some t → IsLacking t.phase → ⊥
left-lacks set s t calls did (LastLeft whole row) some lacks = let no : None ≡ Some t = sym row.live ∙ some in cc
left-lacks set s t calls did (FirstLeft first more row) some lacks = subst (λ (x : Transmission). IsLacking x.phase) (sym (same-some row.live some)) lacks
left-lacks set s t calls did (BlockLeft one more last row) some lacks = subst (λ (x : Transmission). IsLacking x.phase) (sym (same-some row.live some)) lacks
left-lacks set s t calls did (NextLeft one more last row) some lacks = subst (λ (x : Transmission). IsLacking x.phase) (sym (same-some row.live some)) lacks

left-none : (set : TxSet) (m : TxTurn) (turns : List TxTurn) (t : Transmission) (live : Option Transmission) → m.event ≡ Left → TxRow set (state_after tx_new turns).next live m.event m.did → m.did.new.live ≡ Some t → IsLacking t.phase → ⊥
left-none set m turns t None at row some lacks = let E : TxEvent → Type 0 = λ e. IdleRow set (state_after tx_new turns).next e m.did in subst E at row
left-none set m turns t (Some s) at row some lacks = let E : TxEvent → Type 0 = λ e. LiveRow set s e m.did.calls m.did in left-lacks set s t m.did.calls m.did (subst E at row.0).1 some lacks

-- a session that lacks bytes after a part saw its source in that part's turn
saw-by : (set : TxSet) (full : ℕ → Bool) (tick : ℕ) (lies : Option Meaning) (left answers earlier : List TxTurn) (turn : TxTurn) (s : Transmission) → turn.event ≡ Turn → Leaves (IsStepIn tick Left) full tick lies left → HasSent set (left ++ turn ∷ (answers ++ earlier)) →
    (state_after tx_new (left ++ turn ∷ (answers ++ earlier))).live ≡ Some s → IsLacking s.phase → SawSource set (calls_by (left ++ turn ∷ answers)) s.seq
saw-by set full tick lies left answers earlier turn s at (Nothing none is) =
    let P : List TxTurn → Type 0 = λ l. HasSent set (l ++ turn ∷ (answers ++ earlier)) → (state_after tx_new (l ++ turn ∷ (answers ++ earlier))).live ≡ Some s → IsLacking s.phase → SawSource set (calls_by (l ++ turn ∷ answers)) s.seq in
    subst P (sym is) (λ happened some lacks. saw-more set (calls_by answers) turn.did.calls s.seq ((sources set (turn ∷ (answers ++ earlier)) happened).0 at s some lacks))
saw-by set full tick lies left answers earlier turn s at (Stays meaning some is busy) =
    let P : List TxTurn → Type 0 = λ l. HasSent set (l ++ turn ∷ (answers ++ earlier)) → (state_after tx_new (l ++ turn ∷ (answers ++ earlier))).live ≡ Some s → IsLacking s.phase → SawSource set (calls_by (l ++ turn ∷ answers)) s.seq in
    subst P (sym is) (λ happened live lacks. saw-more set (calls_by answers) turn.did.calls s.seq ((sources set (turn ∷ (answers ++ earlier)) happened).0 at s live lacks))
saw-by set full tick lies left answers earlier turn s at (Went meaning m some is goes) =
    let ms : List TxTurn = turn ∷ (answers ++ earlier) in
    let P : List TxTurn → Type 0 = λ l. HasSent set (l ++ ms) → (state_after tx_new (l ++ ms)).live ≡ Some s → IsLacking s.phase → SawSource set (calls_by (l ++ turn ∷ answers)) s.seq in
    subst P (sym is) (λ happened live lacks. absurd (left-none set m ms s (state_after tx_new ms).live goes.0 happened.1.1 live lacks))

pub saw-in : (set : TxSet) (full : ℕ → Bool) (earlier : List TxTurn) (part : Part TxTurn) (s : Transmission) → IsTxPart full earlier part → HasSent set (part.turns ++ earlier) → (state_after tx_new (part.turns ++ earlier)).live ≡ Some s → IsLacking s.phase → SawSource set (calls_by part.turns) s.seq
saw-in set full earlier part s is happened some lacks =
    let same : part.turns ++ earlier ≡ is.left ++ is.turn ∷ (is.answers ++ earlier) = turns-in full earlier part is in
    let H : List TxTurn → Type 0 = λ l. HasSent set l in
    let L : List TxTurn → Type 0 = λ l. (state_after tx_new l).live ≡ Some s in
    let C : List TxTurn → Type 0 = λ l. SawSource set (calls_by l) s.seq in
    subst C (sym is.turns_are) (saw-by set full part.tick (box_after (is.turn ∷ (is.answers ++ earlier))) is.left is.answers earlier is.turn s is.turn_is is.left_is (subst H same happened) (subst L same some) lacks)
