-- A destination's sessions, moment by moment: those that ended tell their causes, and the one that is sent has passed no limit.
use Rattle.std.proofs.Common.{◌≡◌, ℕ, ◌+◌, ◌<◌, ◌≤◌, ◌⊎◌, inl, inr, Bool, true, Option, Some, None, List, [], ◌∷◌, ◌++◌, refl, ap, sym, subst, ◌∙◌, arith, append-nil}
use Rattle.tp_unit.specs.Box.{Answer}
use Rattle.tp_sender.specs.Runs.{HasSent, controls_in, box_after, written_at}
use Rattle.tp_sender.specs.State.{TxTurn, tx_new, Transmission}
use Rattle.hub_core.specs.Turns.{came_by, state_after, records_by}
use Rattle.std.specs.List.{AllByRecursion, AllZip}
use Rattle.hub_core.specs.declared.record.DestRecord.{DestRecord}
use Rattle.tp_sender.specs.declared.event.TxEvent.{TxEvent}
use Rattle.tp_sender.specs.declared.event.TxEvent.TheVariants.{Turn, Fc as CameFc, Left}
use Rattle.tp_sender.specs.declared.set.TxSet.{TxSet}
use Rattle.tp_sender.specs.Table.{IdleRow, IdleTurn, Joins, LiveRow, NothingToSend, TxRow, joined_in}
use Rattle.tp_unit.specs.Shape.{IsShape}
use Rattle.sender_law.specs.Runs.{HasLimits}
use Rattle.sender_law.proofs.transfers.TxLaw.{so-far, world_of}
use Rattle.sender_law.proofs.transfers.TxLeft.{in-box}
use Rattle.sender_law.proofs.transfers.TxMoves.{lives-some}
use Rattle.sender_law.proofs.transfers.TxWorld.{GoesOn, IsBoxed, SoFar}
use Rattle.sender_law.proofs.causes.TxCausesFrames.{AreCuts, cuts-left, cuts-quiet, cuts-told, ended_ticks, frames_by, live_ticks, ticks_then, unless_ended, where_ended}
use Rattle.sender_law.proofs.causes.TxCausesLeft.{left, stays}
use Rattle.sender_law.proofs.causes.TxCausesLists.{Splits}
use Rattle.sender_law.proofs.causes.TxCausesSteps.{Comes, Opens, Tells, Turned, Goes, Closes, Rests, answers, came}
use Rattle.sender_law.proofs.causes.TxCausesTurns.{of-start, turns}
use Rattle.gw_base.proofs.Lists.{zip-push}

-- what is told of the session that is being sent
abbrev pub Lives : (List ℕ → Transmission → Type 0) → List ℕ → Option Transmission → Type 0
Lives P ticks None = ticks ≡ []
Lives P ticks (Some s) = P ticks s

-- all so far
pub record Holds (full : ℕ → Bool) (tx : TxSet) (all : List Answer) (last : ℕ) (P : List ℕ → Transmission → Type 0) (moments : List TxTurn) : Type 0 where
  pub told : AllZip (Tells full tx all last) (ended_ticks moments) (records_by moments)
  pub cuts : AreCuts (frames_by tx moments) (ended_ticks moments) (live_ticks moments)
  pub live : Lives P (live_ticks moments) (state_after tx_new moments).live

-- one step more
told-none : (full : ℕ → Bool) (tx : TxSet) (all : List Answer) (last : ℕ) (closed : List (List ℕ)) (records : List DestRecord) (ticks : List ℕ) (ended : List DestRecord) → ended ≡ [] → AllZip (Tells full tx all last) closed records →
    AllZip (Tells full tx all last) (closed ++ where_ended ended ticks) (records ++ ended)
told-none full tx all last closed records ticks ended is zip =
    let P : List DestRecord → Type 0 = λ o. AllZip (Tells full tx all last) (closed ++ where_ended o ticks) (records ++ o) in
    subst P (sym is) (rw (append-nil closed, append-nil records) zip)

told-one : (full : ℕ → Bool) (tx : TxSet) (all : List Answer) (last : ℕ) (closed : List (List ℕ)) (records : List DestRecord) (ticks : List ℕ) (ended : List DestRecord) (told : DestRecord) → ended ≡ told ∷ [] → Tells full tx all last ticks told →
    AllZip (Tells full tx all last) closed records → AllZip (Tells full tx all last) (closed ++ where_ended ended ticks) (records ++ ended)
told-one full tx all last closed records ticks ended told is tells zip =
    let P : List DestRecord → Type 0 = λ o. AllZip (Tells full tx all last) (closed ++ where_ended o ticks) (records ++ o) in
    subst P (sym is) (zip-push (Tells full tx all last) closed records ticks told zip tells)

lives-by : (P : List ℕ → Transmission → Type 0) (ticks : List ℕ) (ended was : List DestRecord) (live now : Option Transmission) → ended ≡ was → live ≡ now → Lives P (unless_ended was ticks) now → Lives P (unless_ended ended ticks) live
lives-by P ticks ended was live now told goes is =
    let E : List DestRecord → Type 0 = λ o. Lives P (unless_ended o ticks) live in
    let L : Option Transmission → Type 0 = λ l. Lives P (unless_ended was ticks) l in
    subst E (sym told) (subst L (sym goes) is)

steps : (full : ℕ → Bool) (tx : TxSet) (all : List Answer) (last : ℕ) (P : List ℕ → Transmission → Type 0) (m : TxTurn) (earlier : List TxTurn) → AllZip (Tells full tx all last) (ended_ticks earlier) (records_by earlier) →
    AreCuts (frames_by tx (m ∷ earlier)) (ended_ticks earlier) (ticks_then m.event m.did.tick (live_ticks earlier)) → Comes full tx all last P (ticks_then m.event m.did.tick (live_ticks earlier)) m.did.records m.did.new.live → Holds full tx all last P (m ∷ earlier)
steps full tx all last P m earlier zip cuts (Goes s none goes is) =
    let ticks : List ℕ = ticks_then m.event m.did.tick (live_ticks earlier) in
    record { told = told-none full tx all last (ended_ticks earlier) (records_by earlier) ticks m.did.records none zip; cuts = cuts-told tx m earlier cuts; live = lives-by P ticks m.did.records [] m.did.new.live (Some s) none goes is }
steps full tx all last P m earlier zip cuts (Closes told one goes is) =
    let ticks : List ℕ = ticks_then m.event m.did.tick (live_ticks earlier) in
    record { told = told-one full tx all last (ended_ticks earlier) (records_by earlier) ticks m.did.records told one is zip; cuts = cuts-told tx m earlier cuts; live = lives-by P ticks m.did.records (told ∷ []) m.did.new.live None one goes refl }
steps full tx all last P m earlier zip cuts (Rests none goes is) =
    let ticks : List ℕ = ticks_then m.event m.did.tick (live_ticks earlier) in
    record { told = told-none full tx all last (ended_ticks earlier) (records_by earlier) ticks m.did.records none zip; cuts = cuts-told tx m earlier cuts; live = lives-by P ticks m.did.records [] m.did.new.live None none goes is }

-- no frame left in the step
pub quiet : (full : ℕ → Bool) (tx : TxSet) (all : List Answer) (last : ℕ) (P Q : List ℕ → Transmission → Type 0) (m : TxTurn) (earlier : List TxTurn) (event : TxEvent) → m.event ≡ event → written_at tx.shape event m.did.tick (box_after earlier) ≡ [] →
    ticks_then event m.did.tick (live_ticks earlier) ≡ live_ticks earlier → Holds full tx all last P earlier → Comes full tx all last Q (live_ticks earlier) m.did.records m.did.new.live → Holds full tx all last Q (m ∷ earlier)
quiet full tx all last P Q m earlier event at none same holds comes =
    let C : List ℕ → Type 0 = λ l. Comes full tx all last Q l m.did.records m.did.new.live in
    steps full tx all last Q m earlier holds.told (cuts-quiet tx m earlier event at none same holds.cuts) (subst C (sym same ∙ ap (λ e. ticks_then e m.did.tick (live_ticks earlier)) (sym at)) comes)

-- the flow controls that came so far
pub answered-more : (m : TxTurn) (earlier : List TxTurn) (event : TxEvent) → m.event ≡ event → came_by controls_in (m ∷ earlier) ≡ came_by controls_in earlier ++ controls_in m.did.tick event
answered-more m earlier event at = ap (λ e. came_by controls_in earlier ++ controls_in m.did.tick e) at

-- a flow control came
answer-comes : (full : ℕ → Bool) (tx : TxSet) (all : List Answer) (last : ℕ) (m : TxTurn) (earlier : List TxTurn) (live : Option Transmission) (fs bs st : ℕ) → m.event ≡ CameFc fs bs st → HasLimits tx → Splits all (came_by controls_in earlier ++ came m.did fs bs st ∷ []) m.did.tick m.did.tick →
    AllByRecursion (λ (a : Answer). a.tick ≤ m.did.tick) (came_by controls_in earlier) → Lives (Opens full tx all (came_by controls_in earlier) m.did.tick) (live_ticks earlier) live → TxRow tx (state_after tx_new earlier).next live m.event m.did →
    Comes full tx all last (Opens full tx all (came_by controls_in earlier ++ came m.did fs bs st ∷ []) m.did.tick) (live_ticks earlier) m.did.records m.did.new.live
answer-comes full tx all last m earlier None fs bs st at some splits past lives row =
    let E : TxEvent → Type 0 = λ e. IdleRow tx (state_after tx_new earlier).next e m.did in
    let idle = subst E at row in
    Rests idle.records idle.live lives
answer-comes full tx all last m earlier (Some s) fs bs st at some splits past lives row =
    let E : TxEvent → Type 0 = λ e. LiveRow tx s e m.did.calls m.did in
    answers full tx all (came_by controls_in earlier) last (live_ticks earlier) s fs bs st m.did.calls m.did some splits lives (subst E at row.0)

pub answer-step : (full : ℕ → Bool) (tx : TxSet) (all : List Answer) (last : ℕ) (m : TxTurn) (earlier : List TxTurn) (fs bs st : ℕ) → m.event ≡ CameFc fs bs st → HasLimits tx → HasSent tx (m ∷ earlier) → Splits all (came_by controls_in earlier ++ came m.did fs bs st ∷ []) m.did.tick m.did.tick →
    AllByRecursion (λ (a : Answer). a.tick ≤ m.did.tick) (came_by controls_in earlier) → Holds full tx all last (Opens full tx all (came_by controls_in earlier) m.did.tick) earlier → Holds full tx all last (Opens full tx all (came_by controls_in (m ∷ earlier)) m.did.tick) (m ∷ earlier)
answer-step full tx all last m earlier fs bs st at some happened splits past holds =
    let H : List Answer → Type 0 = λ l. Holds full tx all last (Opens full tx all l m.did.tick) (m ∷ earlier) in
    subst H (sym (answered-more m earlier (CameFc fs bs st) at))
    (quiet full tx all last (Opens full tx all (came_by controls_in earlier) m.did.tick) (Opens full tx all (came_by controls_in earlier ++ came m.did fs bs st ∷ []) m.did.tick) m earlier (CameFc fs bs st) at refl refl holds
    (answer-comes full tx all last m earlier (state_after tx_new earlier).live fs bs st at some splits past holds.live happened.1.1))

-- a turn
idle-turn : (full : ℕ → Bool) (tx : TxSet) (all so_far : List Answer) (last : ℕ) (ticks : List ℕ) (next : ℕ) (m : TxTurn) → HasLimits tx → Splits all so_far m.did.tick (m.did.tick + 1) → ticks ≡ [] → IdleTurn tx next m.did → Comes full tx all last (Turned full tx all so_far m.did.tick) ticks m.did.records m.did.new.live
idle-turn full tx all so_far last ticks next m limits splits none (NothingToSend row) = Rests row.records row.live none
idle-turn full tx all so_far last ticks next m limits splits none (Joins buf len more row start) =
    let P : List ℕ → Type 0 = λ l. AllByRecursion (λ (at : ℕ). at < m.did.tick) l in
    of-start full tx all so_far last ticks (joined_in m.did.tick next len) more m.did limits refl splits
    (record {
      began = omega arith;
      waits = omega arith;
      counted = record { none = λ zero_sent. none; some = λ some. absurd (omega (arith, some)) };
      past = subst P (sym none) tt;
      in_time = λ tick from lt. absurd (omega (arith, from, lt));
    }) none refl start

turn-comes : (full : ℕ → Bool) (tx : TxSet) (all : List Answer) (last : ℕ) (m : TxTurn) (earlier : List TxTurn) (live : Option Transmission) → m.event ≡ Turn → HasLimits tx → Splits all (came_by controls_in earlier) m.did.tick (m.did.tick + 1) →
    Lives (Opens full tx all (came_by controls_in earlier) m.did.tick) (live_ticks earlier) live → TxRow tx (state_after tx_new earlier).next live m.event m.did → Comes full tx all last (Turned full tx all (came_by controls_in earlier) m.did.tick) (live_ticks earlier) m.did.records m.did.new.live
turn-comes full tx all last m earlier None at limits splits lives row =
    let E : TxEvent → Type 0 = λ e. IdleRow tx (state_after tx_new earlier).next e m.did in
    idle-turn full tx all (came_by controls_in earlier) last (live_ticks earlier) (state_after tx_new earlier).next m limits splits lives (subst E at row)
turn-comes full tx all last m earlier (Some s) at limits splits lives row =
    let E : TxEvent → Type 0 = λ e. LiveRow tx s e m.did.calls m.did in
    turns full tx all (came_by controls_in earlier) last (live_ticks earlier) s m.did.calls m.did limits splits lives (subst E at row.0)

pub turn-step : (full : ℕ → Bool) (tx : TxSet) (all : List Answer) (last : ℕ) (m : TxTurn) (earlier : List TxTurn) → m.event ≡ Turn → HasLimits tx → HasSent tx (m ∷ earlier) → Splits all (came_by controls_in earlier) m.did.tick (m.did.tick + 1) →
    Holds full tx all last (Opens full tx all (came_by controls_in earlier) m.did.tick) earlier → Holds full tx all last (Turned full tx all (came_by controls_in earlier) m.did.tick) (m ∷ earlier)
turn-step full tx all last m earlier at limits happened splits holds =
    quiet full tx all last (Opens full tx all (came_by controls_in earlier) m.did.tick) (Turned full tx all (came_by controls_in earlier) m.did.tick) m earlier Turn at refl refl holds
    (turn-comes full tx all last m earlier (state_after tx_new earlier).live at limits splits holds.live happened.1.1)

-- the frame in the box leaves
left-by : (full : ℕ → Bool) (tx : TxSet) (all so_far : List Answer) (last : ℕ) (m : TxTurn) (earlier : List TxTurn) (live : Option Transmission) → m.event ≡ Left → IsShape tx.shape → HasLimits tx → HasSent tx earlier → Splits all so_far m.did.tick (m.did.tick + 1) →
    AllZip (Tells full tx all last) (ended_ticks earlier) (records_by earlier) → AreCuts (frames_by tx earlier) (ended_ticks earlier) (live_ticks earlier) → (state_after tx_new earlier).live ≡ live → Lives (Turned full tx all so_far m.did.tick) (live_ticks earlier) live →
    TxRow tx (state_after tx_new earlier).next live m.event m.did → Holds full tx all last (Opens full tx all so_far (m.did.tick + 1)) (m ∷ earlier)
left-by full tx all so_far last m earlier None at sound some happened splits zip cuts is lives row =
    let E : TxEvent → Type 0 = λ e. IdleRow tx (state_after tx_new earlier).next e m.did in absurd (subst E at row)
left-by full tx all so_far last m earlier (Some s) at sound some happened splits zip cuts is lives row =
    let E : TxEvent → Type 0 = λ e. LiveRow tx s e m.did.calls m.did in
    let leaves = subst E at row.0 in
    let so : SoFar tx.shape (world_of tx earlier) = so-far tx earlier sound happened in
    let on : GoesOn tx.shape (world_of tx earlier) s so.going = lives-some tx.shape (world_of tx earlier) (state_after tx_new earlier).live s so.going is so.lives in
    let C : TxEvent → Type 0 = λ e. Comes full tx all last (Opens full tx all so_far (m.did.tick + 1)) (ticks_then e m.did.tick (live_ticks earlier)) m.did.records m.did.new.live in
    steps full tx all last (Opens full tx all so_far (m.did.tick + 1)) m earlier zip (cuts-left tx m earlier s sound at is leaves.0 so lives.stands.counted cuts)
    (subst C (sym at) (left full tx all so_far last (live_ticks earlier) s m.did.calls m.did sound some splits leaves.0 on.unfinished lives leaves.1))

pub left-step : (full : ℕ → Bool) (tx : TxSet) (all so_far : List Answer) (last : ℕ) (m : TxTurn) (earlier : List TxTurn) → m.event ≡ Left → IsShape tx.shape → HasLimits tx → HasSent tx (m ∷ earlier) → Splits all so_far m.did.tick (m.did.tick + 1) →
    Holds full tx all last (Turned full tx all so_far m.did.tick) earlier → Holds full tx all last (Opens full tx all so_far (m.did.tick + 1)) (m ∷ earlier)
left-step full tx all so_far last m earlier at sound some happened splits holds =
    left-by full tx all so_far last m earlier (state_after tx_new earlier).live at sound some happened.2 splits holds.told holds.cuts refl holds.live happened.1.1

-- nothing lies in the box
stays-by : (full : ℕ → Bool) (tx : TxSet) (all so_far : List Answer) (tick : ℕ) (moments : List TxTurn) (live : Option Transmission) → IsShape tx.shape → HasSent tx moments → Splits all so_far tick (tick + 1) → (box_after moments ≡ None) ⊎ (full tick ≡ true) →
    (state_after tx_new moments).live ≡ live → Lives (Turned full tx all so_far tick) (live_ticks moments) live → Lives (Opens full tx all so_far (tick + 1)) (live_ticks moments) live
stays-by full tx all so_far tick moments None sound happened splits none is lives = lives
stays-by full tx all so_far tick moments (Some s) sound happened splits none is lives =
    stays full tx all so_far tick (live_ticks moments) s splits
    (λ phase.
    let so : SoFar tx.shape (world_of tx moments) = so-far tx moments sound happened in
    let on : GoesOn tx.shape (world_of tx moments) s so.going = lives-some tx.shape (world_of tx moments) (state_after tx_new moments).live s so.going is so.lives in
    let boxed : IsBoxed tx.shape s.len s.sent s.number (box_after moments) on.offered = in-box tx.shape s.len s.sent s.number s.phase (box_after moments) on.offered phase on.box in
    elim none [ inl empty ↦ (let no : None ≡ Some _ = sym empty ∙ boxed.lies in cc) | inr busy ↦ busy ]) lives

pub stays-step : (full : ℕ → Bool) (tx : TxSet) (all so_far : List Answer) (last tick : ℕ) (moments : List TxTurn) → IsShape tx.shape → HasSent tx moments → Splits all so_far tick (tick + 1) → (box_after moments ≡ None) ⊎ (full tick ≡ true) →
    Holds full tx all last (Turned full tx all so_far tick) moments → Holds full tx all last (Opens full tx all so_far (tick + 1)) moments
stays-step full tx all so_far last tick moments sound happened splits none holds = record { told = holds.told; cuts = holds.cuts; live = stays-by full tx all so_far tick moments (state_after tx_new moments).live sound happened splits none refl holds.live }
