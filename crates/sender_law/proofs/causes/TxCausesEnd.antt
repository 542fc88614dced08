-- A destination's session at the run's end.
use Rattle.std.proofs.Common.{◌≡◌, ℕ, ◌+◌, ◌≤◌, Bool, Option, Some, None, List, [], ◌∷◌, ◌++◌, length, refl, ap, sym, subst, ◌∙◌, arith, append-nil, inl, inr}
use Rattle.tp_sender.specs.declared.transmission.Phase.{Phase}
use Rattle.tp_sender.specs.declared.transmission.Phase.TheVariants.{Start, Bytes, Box, Fc, Gap}
use Rattle.tp_unit.specs.Box.{Answer}
use Rattle.tp_sender.specs.Runs.{HasSent, controls_in}
use Rattle.tp_sender.specs.State.{TxTurn, tx_new, Transmission, TxDid}
use Rattle.hub_core.specs.Turns.{came_by, now_of, state_after}
use Rattle.std.proofs.lemmas.Bool.{cases_lt}
use Rattle.std.specs.List.{AllByRecursion}
use Rattle.hub_core.specs.View.{Event}
use Rattle.hub_core.specs.declared.record.DestResult.TheVariants.{RunEnd as EndOfRun}
use Rattle.hub_core.specs.declared.record.TxWait.TheVariants.{Turn as ForTurn}
use Rattle.tp_sender.specs.declared.event.TxEvent.{TxEvent}
use Rattle.tp_sender.specs.declared.event.TxEvent.TheVariants.{RunEnd}
use Rattle.tp_sender.specs.declared.set.TxSet.{TxSet}
use Rattle.tp_sender.specs.Table.{Ends, FindsOne, IdleEnd, IdleRow, LiveRow, NothingStands, TxRow, joined_in, revoked, wait_of}
use Rattle.tp_unit.specs.Shape.{IsShape}
use Rattle.tp_unit.specs.Unit.{Keeps}
use Rattle.sender_law.specs.Parts.{IsStepIn}
use Rattle.sender_law.specs.TransmissionCauses.{AwaitsSince, WaitOf}
use Rattle.sender_law.proofs.transfers.TxLaw.{so-far, world_of}
use Rattle.sender_law.proofs.transfers.TxMoves.{lives-some}
use Rattle.sender_law.proofs.transfers.TxWorld.{GoesOn, SoFar}
use Rattle.sender_law.proofs.causes.TxCausesFrames.{live_ticks}
use Rattle.sender_law.proofs.causes.TxCausesLists.{Splits, asked, pace-now}
use Rattle.sender_law.proofs.causes.TxCausesMoments.{Holds, Lives, answered-more, quiet}
use Rattle.sender_law.proofs.causes.TxCausesSteps.{Comes, Counted, Opens, PhaseIn, Rests, allowed-now, allowed-some, ends}

unsent : (sent : ℕ) (ticks : List ℕ) → ticks ≡ [] → Counted sent ticks → sent ≡ 0
unsent sent ticks none counted = elim (cases_lt 0 sent) [
  | inl some ↦ absurd (omega (arith, counted.some some, ap (λ (l : List ℕ). length l) none))
  | inr le ↦ omega (arith, le)
]

-- what a session waits for at the end
waits-by : (full : ℕ → Bool) (tx : TxSet) (all : List Answer) (last begin : ℕ) (ticks : List ℕ) (sent block gap since : ℕ) (phase : Phase) → since ≤ last → Counted sent ticks → Splits all all last (last + 1) →
    PhaseIn full tx all all (last + 1) (last + 1) begin ticks block gap since phase → WaitOf full tx (asked tx all) last begin ticks sent (wait_of phase) since
waits-by full tx all last begin ticks sent block gap since Start le counted splits is = (is.1, unsent sent ticks is.0 counted)
waits-by full tx all last begin ticks sent block gap since Bytes le counted splits is = (allowed-now tx all all last begin ticks block gap since since splits (omega arith) is.0, omega (arith, is.1))
waits-by full tx all last begin ticks sent block gap since Box le counted splits is = (allowed-now tx all all last begin ticks block gap is.may.from since splits is.may.by_is is.may.may, is.blocked, omega (arith, is.in_time))
waits-by full tx all last begin ticks sent block gap since Fc le counted splits is =
    let A : List ℕ → Type 0 = λ l. AwaitsSince (asked tx all) l last since in
    (subst A (sym is.are) (is.left, pace-now tx all all last is.first is.later splits ∙ is.pace), omega (arith, is.in_time))
waits-by full tx all last begin ticks sent block gap since (Gap until) le counted splits is =
    (is.last, record { until = until.0; allowed = allowed-some tx all all last begin ticks block gap until.0 splits is.some is.may; lasts = omega (arith, is.in_time) })

cut-short : (full : ℕ → Bool) (tx : TxSet) (all : List Answer) (last : ℕ) (ticks : List ℕ) (s : Transmission) (calls : List Event) (did : TxDid) → did.tick ≡ last → s.since ≤ last → Splits all all last (last + 1) → Opens full tx all all (last + 1) ticks s →
    Ends tx s (revoked s.phase) (EndOfRun (wait_of s.phase) (record { 0 = s.since })) calls did → Comes full tx all last (Opens full tx all all (last + 1)) ticks did.records did.new.live
cut-short full tx all last ticks s calls did at le splits opens row =
    ends full tx all last (Opens full tx all all (last + 1)) ticks s (revoked s.phase) (EndOfRun (wait_of s.phase) (record { 0 = s.since })) calls did row
    (at, le, waits-by full tx all last s.begin ticks s.sent s.block s.gap s.since s.phase le opens.stands.counted splits opens.phase)
    opens.stands.counted (λ tick from lt. opens.stands.in_time tick from (omega (arith, lt, at)))

-- none is sent, and one that stands is joined and cut short
idle-end : (full : ℕ → Bool) (tx : TxSet) (all : List Answer) (last : ℕ) (ticks : List ℕ) (next : ℕ) (m : TxTurn) → m.did.tick ≡ last → ticks ≡ [] → IdleEnd tx next m.did → Comes full tx all last (Opens full tx all all (last + 1)) ticks m.did.records m.did.new.live
idle-end full tx all last ticks next m at none (NothingStands row) = Rests row.records row.live none
idle-end full tx all last ticks next m at none (FindsOne buf len more row end) =
    ends full tx all last (Opens full tx all all (last + 1)) ticks (joined_in m.did.tick next len) Keeps (EndOfRun ForTurn (record { 0 = m.did.tick })) more m.did end (at, omega (arith, at), (at, at, refl))
    (record { none = λ zero_sent. none; some = λ some. absurd (omega (arith, some)) }) (λ tick from lt. absurd (omega (arith, from, lt)))

end-comes : (full : ℕ → Bool) (tx : TxSet) (all : List Answer) (last : ℕ) (m : TxTurn) (earlier : List TxTurn) (live : Option Transmission) → m.event ≡ RunEnd → m.did.tick ≡ last → IsShape tx.shape → HasSent tx earlier → now_of earlier ≤ last → Splits all all last (last + 1) →
    (state_after tx_new earlier).live ≡ live → Lives (Opens full tx all all (last + 1)) (live_ticks earlier) live → TxRow tx (state_after tx_new earlier).next live m.event m.did → Comes full tx all last (Opens full tx all all (last + 1)) (live_ticks earlier) m.did.records m.did.new.live
end-comes full tx all last m earlier None event at sound happened now splits is lives row =
    let E : TxEvent → Type 0 = λ e. IdleRow tx (state_after tx_new earlier).next e m.did in
    idle-end full tx all last (live_ticks earlier) (state_after tx_new earlier).next m at lives (subst E event row)
end-comes full tx all last m earlier (Some s) event at sound happened now splits is lives row =
    let E : TxEvent → Type 0 = λ e. LiveRow tx s e m.did.calls m.did in
    let so : SoFar tx.shape (world_of tx earlier) = so-far tx earlier sound happened in
    let on : GoesOn tx.shape (world_of tx earlier) s so.going = lives-some tx.shape (world_of tx earlier) (state_after tx_new earlier).live s so.going is so.lives in
    cut-short full tx all last (live_ticks earlier) s m.did.calls m.did at (omega (arith, on.since, now)) splits lives (subst E event row.0)

pub end-step : (full : ℕ → Bool) (tx : TxSet) (all : List Answer) (last : ℕ) (m : TxTurn) (earlier : List TxTurn) → m.event ≡ RunEnd → m.did.tick ≡ last → IsShape tx.shape → HasSent tx (m ∷ earlier) → Splits all all last (last + 1) →
    Holds full tx all last (Opens full tx all all (last + 1)) earlier → Holds full tx all last (Opens full tx all all (last + 1)) (m ∷ earlier)
end-step full tx all last m earlier event at sound happened splits holds =
    quiet full tx all last (Opens full tx all all (last + 1)) (Opens full tx all all (last + 1)) m earlier RunEnd event refl refl holds
    (end-comes full tx all last m earlier (state_after tx_new earlier).live event at sound happened.2 (omega (arith, happened.0, at)) splits refl holds.live happened.1.1)

-- the steps at the end, one by one
pub end-steps : (full : ℕ → Bool) (tx : TxSet) (all : List Answer) (last : ℕ) (moments earlier : List TxTurn) → AllByRecursion (IsStepIn last RunEnd) moments → IsShape tx.shape → HasSent tx (moments ++ earlier) → Splits all all last (last + 1) →
    Holds full tx all last (Opens full tx all all (last + 1)) earlier → Holds full tx all last (Opens full tx all all (last + 1)) (moments ++ earlier)
end-steps full tx all last [] earlier are sound happened splits holds = holds
end-steps full tx all last (m ∷ moments) earlier are sound happened splits holds =
    end-step full tx all last m (moments ++ earlier) are.0.0 are.0.1 sound happened splits (end-steps full tx all last moments earlier are.1 sound happened.2 splits holds)

-- no flow control comes at the end
pub end-answers : (last : ℕ) (moments earlier : List TxTurn) → AllByRecursion (IsStepIn last RunEnd) moments → came_by controls_in (moments ++ earlier) ≡ came_by controls_in earlier
end-answers last [] earlier are = refl
end-answers last (m ∷ moments) earlier are = answered-more m (moments ++ earlier) RunEnd are.0.0 ∙ append-nil (came_by controls_in (moments ++ earlier)) ∙ end-answers last moments earlier are.1
