-- A destination's sessions, part by part: those that ended tell their causes, in every run.
use Rattle.std.proofs.Common.{◌≡◌, ℕ, ◌+◌, ◌≤◌, ◌⊎◌, Bool, true, Option, Some, None, List, [], ◌∷◌, ◌++◌, refl, ap, sym, subst, ◌∙◌, arith, append-nil, append_assoc, inl, inr}
use Rattle.tp_unit.specs.Box.{Answer, Leaves, Nothing, Stays, Went}
use Rattle.tp_sender.specs.Runs.{HasSent, controls_in, box_after}
use Rattle.tp_sender.specs.State.{TxTurn, tx_new, Transmission}
use Rattle.hub_core.specs.Turns.{Part, came_by, now_of, state_after, tick_after, turns_of}
use Rattle.std.specs.Prelude.{Bool}
use Rattle.std.specs.List.{AllByRecursion}
use Rattle.tp_sender.specs.declared.event.TxEvent.{TxEvent}
use Rattle.tp_sender.specs.declared.event.TxEvent.TheVariants.{Turn, Fc as CameFc, Left, RunEnd}
use Rattle.tp_sender.specs.declared.set.TxSet.{TxSet}
use Rattle.tp_unit.specs.Shape.{IsShape}
use Rattle.tp_unit.specs.Unit.{Meaning}
use Rattle.flow_plan.specs.Pace.{Control}
use Rattle.sender_law.specs.Pacing.{controls_of}
use Rattle.sender_law.specs.Parts.{AnswersIn, IsAnswerIn, IsStepIn, IsTxPart}
use Rattle.sender_law.specs.Runs.{AreTxParts, HasLimits, IsTxIdle, IsTxRun, TxRun, turns_in}
use Rattle.sender_law.proofs.transfers.TxLaw.{so-far, world_of}
use Rattle.sender_law.proofs.TxParts.{turns-in}
use Rattle.sender_law.proofs.transfers.TxWorld.{SoFar}
use Rattle.sender_law.proofs.causes.TxCausesEnd.{end-answers, end-steps}
use Rattle.sender_law.proofs.causes.TxCausesFrames.{live_ticks}
use Rattle.sender_law.proofs.causes.TxCausesLists.{Splits}
use Rattle.sender_law.proofs.causes.TxCausesMoments.{Holds, Lives, answer-step, answered-more, left-step, stays-step, turn-step}
use Rattle.sender_law.proofs.causes.TxCausesSteps.{Opens, Turned, came}
use Rattle.gw_base.proofs.Lists.{all-front, all-join, all-weaker}
use Rattle.hub_core.proofs.Turns.{happened-front}

-- a flow control that came in a tick
pub record Came (tick : ℕ) (event : TxEvent) (at : ℕ) : Type 0 where
  pub fs : ℕ
  pub bs : ℕ
  pub st : ℕ
  pub event_is : event ≡ CameFc fs bs st
  pub at_is : at ≡ tick

pub came-in : (tick : ℕ) (event : TxEvent) (at : ℕ) → AnswersIn tick event at → Came tick event at
came-in tick Turn at is = absurd is
came-in tick (CameFc fs bs st) at is = record { fs = fs; bs = bs; st = st; event_is = refl; at_is = is }
came-in tick Left at is = absurd is
came-in tick RunEnd at is = absurd is

-- a list of flow controls is known to its end, but for one
splits-before : (all so_far : List Answer) (now next : ℕ) (a : Answer) → next ≤ a.tick → Splits all (so_far ++ a ∷ []) now next → Splits all so_far now next
splits-before all so_far now next a le is = record {
  rest = a ∷ is.rest;
  all_is = is.all_is ∙ append_assoc so_far (a ∷ []) is.rest;
  past = all-front (λ (x : Answer). x.tick ≤ now) so_far (a ∷ []) is.past;
  later = (le, is.later);
}

-- the flow controls of a tick, one by one
answering : (full : ℕ → Bool) (tx : TxSet) (all : List Answer) (last tick : ℕ) (moments earlier : List TxTurn) → AllByRecursion (IsAnswerIn tick) moments → HasLimits tx → HasSent tx (moments ++ earlier) → Splits all (came_by controls_in (moments ++ earlier)) tick tick →
    Holds full tx all last (Opens full tx all (came_by controls_in earlier) tick) earlier → Holds full tx all last (Opens full tx all (came_by controls_in (moments ++ earlier)) tick) (moments ++ earlier)
answering full tx all last tick [] earlier are some happened splits holds = holds
answering full tx all last tick (m ∷ moments) earlier are some happened splits holds =
    let came_in : Came tick m.event m.did.tick = came-in tick m.event m.did.tick are.0 in
    let so_far : List Answer = came_by controls_in (moments ++ earlier) in
    let a : Answer = came m.did came_in.fs came_in.bs came_in.st in
    let S : List Answer → Type 0 = λ l. Splits all l tick tick in
    let here : Splits all (so_far ++ a ∷ []) tick tick = subst S (answered-more m (moments ++ earlier) (CameFc came_in.fs came_in.bs came_in.st) came_in.event_is) splits in
    let before : Splits all so_far tick tick = splits-before all so_far tick tick a (omega (arith, came_in.at_is)) here in
    let held = answering full tx all last tick moments earlier are.1 some happened.2 before holds in
    let T : ℕ → Type 0 = λ t. Splits all (so_far ++ a ∷ []) t t → AllByRecursion (λ (x : Answer). x.tick ≤ t) so_far → Holds full tx all last (Opens full tx all so_far t) (moments ++ earlier) → Holds full tx all last (Opens full tx all (came_by controls_in (m ∷ (moments ++ earlier))) t) (m ∷ (moments ++ earlier)) in
    subst T came_in.at_is (answer-step full tx all last m (moments ++ earlier) came_in.fs came_in.bs came_in.st came_in.event_is some happened) here before.past held

splits-sooner : (all so_far : List Answer) (tick : ℕ) → Splits all so_far tick (tick + 1) → Splits all so_far tick tick
splits-sooner all so_far tick is = record {
  rest = is.rest;
  all_is = is.all_is;
  past = is.past;
  later = all-weaker (λ (a : Answer). tick + 1 ≤ a.tick) (λ (a : Answer). tick ≤ a.tick) is.rest (λ a le. omega (arith, le)) is.later;
}

-- a step for no flow control
answered-same : (m : TxTurn) (earlier : List TxTurn) (event : TxEvent) → m.event ≡ event → controls_in m.did.tick event ≡ [] → came_by controls_in (m ∷ earlier) ≡ came_by controls_in earlier
answered-same m earlier event at none = answered-more m earlier event at ∙ ap (λ l. came_by controls_in earlier ++ l) none ∙ append-nil (came_by controls_in earlier)

-- the turn of a tick, after its flow controls
turning : (full : ℕ → Bool) (tx : TxSet) (all : List Answer) (last tick : ℕ) (answers earlier : List TxTurn) (turn : TxTurn) → AllByRecursion (IsAnswerIn tick) answers → turn.event ≡ Turn → turn.did.tick ≡ tick → HasLimits tx → HasSent tx (turn ∷ (answers ++ earlier)) →
    Splits all (came_by controls_in (answers ++ earlier)) tick (tick + 1) → Holds full tx all last (Opens full tx all (came_by controls_in earlier) tick) earlier → Holds full tx all last (Turned full tx all (came_by controls_in (answers ++ earlier)) tick) (turn ∷ (answers ++ earlier))
turning full tx all last tick answers earlier turn are event at some happened splits holds =
    let so_far : List Answer = came_by controls_in (answers ++ earlier) in
    let T : ℕ → Type 0 = λ t. Splits all so_far t (t + 1) → Holds full tx all last (Opens full tx all so_far t) (answers ++ earlier) → Holds full tx all last (Turned full tx all so_far t) (turn ∷ (answers ++ earlier)) in
    subst T at (turn-step full tx all last turn (answers ++ earlier) event some happened) splits (answering full tx all last tick answers earlier are some happened.2 (splits-sooner all so_far tick splits) holds)

-- nothing lies in the box
stays-in : (full : ℕ → Bool) (tx : TxSet) (all : List Answer) (last tick : ℕ) (answers earlier : List TxTurn) (turn : TxTurn) → AllByRecursion (IsAnswerIn tick) answers → turn.event ≡ Turn → turn.did.tick ≡ tick → (box_after (turn ∷ (answers ++ earlier)) ≡ None) ⊎ (full tick ≡ true) → IsShape tx.shape → HasLimits tx →
    HasSent tx (turn ∷ (answers ++ earlier)) → Splits all (came_by controls_in (turn ∷ (answers ++ earlier))) tick (tick + 1) → Holds full tx all last (Opens full tx all (came_by controls_in earlier) tick) earlier →
    Holds full tx all last (Opens full tx all (came_by controls_in (turn ∷ (answers ++ earlier))) (tick + 1)) (turn ∷ (answers ++ earlier))
stays-in full tx all last tick answers earlier turn are event at none sound some happened splits holds =
    let ms : List TxTurn = turn ∷ (answers ++ earlier) in
    let same : came_by controls_in ms ≡ came_by controls_in (answers ++ earlier) = answered-same turn (answers ++ earlier) Turn event refl in
    let S : List Answer → Type 0 = λ l. Splits all l tick (tick + 1) in
    let H : List Answer → Type 0 = λ l. Holds full tx all last (Opens full tx all l (tick + 1)) ms in
    let here : Splits all (came_by controls_in (answers ++ earlier)) tick (tick + 1) = subst S same splits in
    subst H (sym same) (stays-step full tx all (came_by controls_in (answers ++ earlier)) last tick ms sound happened here none (turning full tx all last tick answers earlier turn are event at some happened here holds))

-- what lies there leaves
goes-in : (full : ℕ → Bool) (tx : TxSet) (all : List Answer) (last tick : ℕ) (m : TxTurn) (answers earlier : List TxTurn) (turn : TxTurn) → AllByRecursion (IsAnswerIn tick) answers → turn.event ≡ Turn → turn.did.tick ≡ tick → IsStepIn tick Left m → IsShape tx.shape → HasLimits tx →
    HasSent tx (m ∷ turn ∷ (answers ++ earlier)) → Splits all (came_by controls_in (m ∷ turn ∷ (answers ++ earlier))) tick (tick + 1) → Holds full tx all last (Opens full tx all (came_by controls_in earlier) tick) earlier →
    Holds full tx all last (Opens full tx all (came_by controls_in (m ∷ turn ∷ (answers ++ earlier))) (tick + 1)) (m ∷ turn ∷ (answers ++ earlier))
goes-in full tx all last tick m answers earlier turn are event at step sound some happened splits holds =
    let ms : List TxTurn = turn ∷ (answers ++ earlier) in
    let so_far : List Answer = came_by controls_in (answers ++ earlier) in
    let same : came_by controls_in (m ∷ ms) ≡ so_far = answered-same m ms Left step.0 refl ∙ answered-same turn (answers ++ earlier) Turn event refl in
    let S : List Answer → Type 0 = λ l. Splits all l tick (tick + 1) in
    let H : List Answer → Type 0 = λ l. Holds full tx all last (Opens full tx all l (tick + 1)) (m ∷ ms) in
    let T : ℕ → Type 0 = λ t. Splits all so_far t (t + 1) → Holds full tx all last (Turned full tx all so_far t) ms → Holds full tx all last (Opens full tx all so_far (t + 1)) (m ∷ ms) in
    let here : Splits all so_far tick (tick + 1) = subst S same splits in
    subst H (sym same) (subst T step.1 (left-step full tx all so_far last m ms step.0 sound some happened) here (turning full tx all last tick answers earlier turn are event at some happened.2 here holds))

-- a whole tick
in-tick-by : (full : ℕ → Bool) (tx : TxSet) (all : List Answer) (last tick : ℕ) (left answers earlier : List TxTurn) (turn : TxTurn) → AllByRecursion (IsAnswerIn tick) answers → turn.event ≡ Turn → turn.did.tick ≡ tick →
    Leaves (IsStepIn tick Left) full tick (box_after (turn ∷ (answers ++ earlier))) left → IsShape tx.shape → HasLimits tx → HasSent tx (left ++ turn ∷ (answers ++ earlier)) → Splits all (came_by controls_in (left ++ turn ∷ (answers ++ earlier))) tick (tick + 1) →
    Holds full tx all last (Opens full tx all (came_by controls_in earlier) tick) earlier → Holds full tx all last (Opens full tx all (came_by controls_in (left ++ turn ∷ (answers ++ earlier))) (tick + 1)) (left ++ turn ∷ (answers ++ earlier))
in-tick-by full tx all last tick left answers earlier turn are event at (Nothing none is) sound some =
    let ms : List TxTurn = turn ∷ (answers ++ earlier) in
    let P : List TxTurn → Type 0 = λ l. HasSent tx (l ++ ms) → Splits all (came_by controls_in (l ++ ms)) tick (tick + 1) → Holds full tx all last (Opens full tx all (came_by controls_in earlier) tick) earlier → Holds full tx all last (Opens full tx all (came_by controls_in (l ++ ms)) (tick + 1)) (l ++ ms) in
    subst P (sym is) (stays-in full tx all last tick answers earlier turn are event at (inl none) sound some)
in-tick-by full tx all last tick left answers earlier turn are event at (Went meaning m lies is goes) sound some =
    let ms : List TxTurn = turn ∷ (answers ++ earlier) in
    let P : List TxTurn → Type 0 = λ l. HasSent tx (l ++ ms) → Splits all (came_by controls_in (l ++ ms)) tick (tick + 1) → Holds full tx all last (Opens full tx all (came_by controls_in earlier) tick) earlier → Holds full tx all last (Opens full tx all (came_by controls_in (l ++ ms)) (tick + 1)) (l ++ ms) in
    subst P (sym is) (goes-in full tx all last tick m answers earlier turn are event at goes sound some)
in-tick-by full tx all last tick left answers earlier turn are event at (Stays meaning lies is busy) sound some =
    let ms : List TxTurn = turn ∷ (answers ++ earlier) in
    let P : List TxTurn → Type 0 = λ l. HasSent tx (l ++ ms) → Splits all (came_by controls_in (l ++ ms)) tick (tick + 1) → Holds full tx all last (Opens full tx all (came_by controls_in earlier) tick) earlier → Holds full tx all last (Opens full tx all (came_by controls_in (l ++ ms)) (tick + 1)) (l ++ ms) in
    subst P (sym is) (stays-in full tx all last tick answers earlier turn are event at (inr busy) sound some)

in-tick : (full : ℕ → Bool) (tx : TxSet) (all : List Answer) (last : ℕ) (earlier : List TxTurn) (part : Part TxTurn) → IsTxPart full earlier part → IsShape tx.shape → HasLimits tx → HasSent tx (part.turns ++ earlier) → Splits all (came_by controls_in (part.turns ++ earlier)) part.tick (part.tick + 1) →
    Holds full tx all last (Opens full tx all (came_by controls_in earlier) part.tick) earlier → Holds full tx all last (Opens full tx all (came_by controls_in (part.turns ++ earlier)) (part.tick + 1)) (part.turns ++ earlier)
in-tick full tx all last earlier part is sound some =
    let P : List TxTurn → Type 0 = λ ms. HasSent tx ms → Splits all (came_by controls_in ms) part.tick (part.tick + 1) → Holds full tx all last (Opens full tx all (came_by controls_in earlier) part.tick) earlier → Holds full tx all last (Opens full tx all (came_by controls_in ms) (part.tick + 1)) ms in
    subst P (sym (turns-in full earlier part is)) (in-tick-by full tx all last part.tick is.left is.answers earlier is.turn is.answers_only is.turn_is is.turn_tick is.left_is sound some)

-- the flow controls of some moments, and of those before
answered-join : (moments earlier : List TxTurn) → came_by controls_in (moments ++ earlier) ≡ came_by controls_in earlier ++ came_by controls_in moments
answered-join [] earlier = sym (append-nil (came_by controls_in earlier))
answered-join (m ∷ moments) earlier = ap (λ l. l ++ controls_in m.did.tick m.event) (answered-join moments earlier) ∙ append_assoc (came_by controls_in earlier) (came_by controls_in moments) (controls_in m.did.tick m.event)

came-all : (tick : ℕ) (answers : List TxTurn) → AllByRecursion (IsAnswerIn tick) answers → AllByRecursion (λ (a : Answer). tick ≤ a.tick) (came_by controls_in answers)
came-all tick [] are = tt
came-all tick (m ∷ answers) are =
    let came_in : Came tick m.event m.did.tick = came-in tick m.event m.did.tick are.0 in
    let A : List Answer → Type 0 = λ l. AllByRecursion (λ (a : Answer). tick ≤ a.tick) l in
    subst A (sym (answered-more m answers (CameFc came_in.fs came_in.bs came_in.st) came_in.event_is))
    (all-join (λ (a : Answer). tick ≤ a.tick) (came_by controls_in answers) (came m.did came_in.fs came_in.bs came_in.st ∷ []) (came-all tick answers are.1) (omega (arith, came_in.at_is), tt))

-- what a part says of the flow controls
pub record PartAnswers (tick : ℕ) (earlier turns : List TxTurn) : Type 0 where
  pub now : now_of turns ≡ tick
  pub came : List Answer
  pub came_is : came_by controls_in turns ≡ came_by controls_in earlier ++ came
  pub came_now : AllByRecursion (λ (a : Answer). tick ≤ a.tick) came

part-answers-by : (full : ℕ → Bool) (tick : ℕ) (left answers earlier : List TxTurn) (turn : TxTurn) (box : Option Meaning) → AllByRecursion (IsAnswerIn tick) answers → turn.event ≡ Turn → turn.did.tick ≡ tick → Leaves (IsStepIn tick Left) full tick box left →
    PartAnswers tick earlier (left ++ turn ∷ (answers ++ earlier))
part-answers-by full tick left answers earlier turn box are event at leaves =
    let P : List TxTurn → Type 0 = λ l. PartAnswers tick earlier (l ++ turn ∷ (answers ++ earlier)) in
    let stays : PartAnswers tick earlier (turn ∷ (answers ++ earlier)) = record { now = at; came = came_by controls_in answers; came_is = answered-same turn (answers ++ earlier) Turn event refl ∙ answered-join answers earlier; came_now = came-all tick answers are } in
    elim leaves [
      | Nothing none is ↦ subst P (sym is) stays
      | Went meaning m lies is goes ↦ subst P (sym is) (record { now = goes.1; came = stays.came; came_is = answered-same m (turn ∷ (answers ++ earlier)) Left goes.0 refl ∙ stays.came_is; came_now = stays.came_now })
      | Stays meaning lies is busy ↦ subst P (sym is) stays
    ]

pub part-answers : (full : ℕ → Bool) (earlier : List TxTurn) (part : Part TxTurn) → IsTxPart full earlier part → PartAnswers part.tick earlier (part.turns ++ earlier)
part-answers full earlier part is =
    let P : List TxTurn → Type 0 = λ ms. PartAnswers part.tick earlier ms in
    subst P (sym (turns-in full earlier part is)) (part-answers-by full part.tick is.left is.answers earlier is.turn (box_after (is.turn ∷ (is.answers ++ earlier))) is.answers_only is.turn_is is.turn_tick is.left_is)

-- what holds of what the flow controls ask for holds of them
past-of : (period now : ℕ) (answers : List Answer) → AllByRecursion (λ (c : Control). c.tick ≤ now) (controls_of period answers) → AllByRecursion (λ (a : Answer). a.tick ≤ now) answers
past-of period now [] past = tt
past-of period now (a ∷ answers) past = (past.0, past-of period now answers past.1)

pub splits-at : (full : ℕ → Bool) (tx : TxSet) (all : List Answer) (tick next : ℕ) (moments : List TxTurn) (rest : List Answer) → IsShape tx.shape → HasSent tx moments → now_of moments ≡ tick → all ≡ came_by controls_in moments ++ rest → AllByRecursion (λ (a : Answer). next ≤ a.tick) rest → Splits all (came_by controls_in moments) tick next
splits-at full tx all tick next moments rest sound happened at are later =
    let so : SoFar tx.shape (world_of tx moments) = so-far tx moments sound happened in
    let P : ℕ → Type 0 = λ t. AllByRecursion (λ (a : Answer). a.tick ≤ t) (came_by controls_in moments) in
    record { rest = rest; all_is = are; past = subst P at (past-of tx.period (now_of moments) (came_by controls_in moments) so.past); later = later }

-- nothing is sent, or the next tick is the one after the last
idle-any : (P Q : List ℕ → Transmission → Type 0) (ticks : List ℕ) (live : Option Transmission) → live ≡ None → Lives P ticks live → Lives Q ticks live
idle-any P Q ticks None is lives = lives
idle-any P Q ticks (Some s) is lives = cc

reopens : (full : ℕ → Bool) (tx : TxSet) (all : List Answer) (last tick : ℕ) (earlier : List (Part TxTurn)) → IsTxIdle (turns_of earlier) ⊎ (tick ≡ tick_after earlier) → Holds full tx all last (Opens full tx all (came_by controls_in (turns_of earlier)) (tick_after earlier)) (turns_of earlier) →
    Holds full tx all last (Opens full tx all (came_by controls_in (turns_of earlier)) tick) (turns_of earlier)
reopens full tx all last tick earlier (inl idle) holds = record {
  told = holds.told;
  cuts = holds.cuts;
  live = idle-any (Opens full tx all (came_by controls_in (turns_of earlier)) (tick_after earlier)) (Opens full tx all (came_by controls_in (turns_of earlier)) tick) (live_ticks (turns_of earlier)) (state_after tx_new (turns_of earlier)).live idle.live holds.live;
}
reopens full tx all last tick earlier (inr at) holds = let P : ℕ → Type 0 = λ t. Holds full tx all last (Opens full tx all (came_by controls_in (turns_of earlier)) t) (turns_of earlier) in subst P (sym at) holds

-- tick by tick
pub in-parts : (full : ℕ → Bool) (tx : TxSet) (all : List Answer) (last : ℕ) (parts : List (Part TxTurn)) (rest : List Answer) → IsShape tx.shape → HasLimits tx → AreTxParts full parts → HasSent tx (turns_of parts) → all ≡ came_by controls_in (turns_of parts) ++ rest →
    AllByRecursion (λ (a : Answer). tick_after parts ≤ a.tick) rest → Holds full tx all last (Opens full tx all (came_by controls_in (turns_of parts)) (tick_after parts)) (turns_of parts)
in-parts full tx all last [] rest sound some are_parts happened are later = record { told = tt; cuts = refl; live = refl }
in-parts full tx all last (part ∷ earlier) rest sound some are_parts happened are later =
    let here : PartAnswers part.tick (turns_of earlier) (part.turns ++ turns_of earlier) = part-answers full (turns_of earlier) part are_parts.0.part_is in
    let before = in-parts full tx all last earlier (here.came ++ rest) sound some are_parts.1 (happened-front _ part.turns (turns_of earlier) happened)
    (are ∙ ap (λ l. l ++ rest) here.came_is ∙ append_assoc (came_by controls_in (turns_of earlier)) here.came rest)
    (all-join (λ (a : Answer). tick_after earlier ≤ a.tick) here.came rest (all-weaker (λ (a : Answer). part.tick ≤ a.tick) (λ (a : Answer). tick_after earlier ≤ a.tick) here.came (λ a le. omega (arith, le, are_parts.0.later)) here.came_now)
    (all-weaker (λ (a : Answer). part.tick + 1 ≤ a.tick) (λ (a : Answer). tick_after earlier ≤ a.tick) rest (λ a le. omega (arith, le, are_parts.0.later)) later)) in
    in-tick full tx all last (turns_of earlier) part are_parts.0.part_is sound some happened (splits-at full tx all part.tick (part.tick + 1) (part.turns ++ turns_of earlier) rest sound happened here.now are later)
    (reopens full tx all last part.tick earlier are_parts.0.next before)

pub now-within : (full : ℕ → Bool) (parts : List (Part TxTurn)) (last : ℕ) → AreTxParts full parts → tick_after parts ≤ last + 1 → now_of (turns_of parts) ≤ last
now-within full [] last are le = omega arith
now-within full (part ∷ earlier) last are le = omega (arith, le, (part-answers full (turns_of earlier) part are.0.part_is).now)

end-now : (last : ℕ) (end earlier : List TxTurn) → AllByRecursion (IsStepIn last RunEnd) end → now_of earlier ≤ last → now_of (end ++ earlier) ≤ last
end-now last [] earlier ends le = le
end-now last (m ∷ end) earlier ends le = omega (arith, ends.0.1)

pub run-within : (run : TxRun) → IsTxRun run → now_of (turns_in run) ≤ run.last
run-within run is = end-now run.last run.end (turns_of run.parts) is.ends (now-within run.full run.parts run.last is.parts_are is.in_time)

ends-at : (full : ℕ → Bool) (tx : TxSet) (all : List Answer) (last : ℕ) (parts : List (Part TxTurn)) → IsTxIdle (turns_of parts) ⊎ (tick_after parts ≡ last + 1) → Holds full tx all last (Opens full tx all (came_by controls_in (turns_of parts)) (tick_after parts)) (turns_of parts) →
    Holds full tx all last (Opens full tx all (came_by controls_in (turns_of parts)) (last + 1)) (turns_of parts)
ends-at full tx all last parts (inl idle) holds = reopens full tx all last (last + 1) parts (inl idle) holds
ends-at full tx all last parts (inr at) holds = reopens full tx all last (last + 1) parts (inr (sym at)) holds

-- a whole run
pub in-run : (run : TxRun) → HasLimits run.set → IsTxRun run →
    Holds run.full run.set (came_by controls_in (turns_in run)) run.last (Opens run.full run.set (came_by controls_in (turns_in run)) (came_by controls_in (turns_in run)) (run.last + 1)) (turns_in run)
in-run run some is =
    let tx : TxSet = run.set in
    let last : ℕ = run.last in
    let earlier : List TxTurn = turns_of run.parts in
    let all : List Answer = came_by controls_in (turns_in run) in
    let same : all ≡ came_by controls_in earlier = end-answers last run.end earlier is.ends in
    let before : HasSent tx earlier = happened-front _ run.end earlier is.happened in
    let so : SoFar tx.shape (world_of tx earlier) = so-far tx earlier is.shape before in
    let A : List Answer → Type 0 = λ l. AllByRecursion (λ (a : Answer). a.tick ≤ last) l in
    let H : List Answer → Type 0 = λ l. Holds run.full tx all last (Opens run.full tx all l (last + 1)) earlier in
    let past : AllByRecursion (λ (a : Answer). a.tick ≤ last) (came_by controls_in earlier) =
    all-weaker (λ (a : Answer). a.tick ≤ now_of earlier) (λ (a : Answer). a.tick ≤ last) (came_by controls_in earlier) (λ a le. omega (arith, le, now-within run.full run.parts last is.parts_are is.in_time)) (past-of tx.period (now_of earlier) (came_by controls_in earlier) so.past) in
    end-steps run.full tx all last run.end earlier is.ends is.shape is.happened (record { rest = []; all_is = sym (append-nil all); past = subst A (sym same) past; later = tt })
    (subst H (sym same) (ends-at run.full tx all last run.parts is.reached (in-parts run.full tx all last run.parts [] is.shape some is.parts_are before (same ∙ sym (append-nil (came_by controls_in earlier))) tt)))
