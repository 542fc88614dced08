-- The laws of a receiver's run: its records, and its receptions with their flow controls and causes.
use Rattle.receiver_law.proofs.receptions.RoomSteps.{looks-front}
use Rattle.receiver_law.specs.Looks.{LooksKeepRoom}
use Rattle.std.proofs.Common.{◌≡◌, inl, inr, Bool, ℕ, ◌+◌, ◌<◌, Option, Some, None, List, [], ◌∷◌, ◌++◌, refl, ap, sym, ◌∙◌, subst, arith, append-nil}
use Rattle.std.specs.List.{AllZip}
use Rattle.hub_core.specs.Turns.{came_by, records_by, state_after, tick_after, turns_of, calls_by}
use Rattle.hub_core.specs.declared.record.SessionRecord.{SessionRecord}
use Rattle.tp_attempts.specs.Attempts.{attempts_in}
use Rattle.tp_attempts.specs.Seen.{Seen}
use Rattle.tp_receiver.proofs.Made.{idle-ended}
use Rattle.tp_receiver.specs.Runs.{HasReceived, control_after, control_at, controls_by, frames_in}
use Rattle.tp_receiver.specs.State.{Reception, RxDid, RxEvent, RxState, RxTurn, RunEnd, rx_new}
use Rattle.tp_receiver.specs.Table.{EndRow, RxStep, ended}
use Rattle.hub_core.specs.declared.record.SessionResult.TheVariants.{RunEnd as EndOfRun}
use Rattle.tp_unit.specs.Box.{Written}
use Rattle.tp_unit.specs.Unit.{Meaning}
use Rattle.receiver_law.specs.Channel.{SourceChannel}
use Rattle.receiver_law.specs.Laws.{HasLimits}
use Rattle.receiver_law.specs.Parts.{EndsReceiving}
use Rattle.receiver_law.specs.ReceptionCauses.{ReceptionLaw}
use Rattle.receiver_law.specs.RxRun.{IsRxRun, RxRun, source_of, turns_in}
use Rattle.receiver_law.specs.Source.{SourceLaw, Tells}
use Rattle.receiver_law.proofs.receptions.AtEnd.{law-busy, law-idle}
use Rattle.receiver_law.proofs.receptions.SoFar.{SoBy}
use Rattle.receiver_law.proofs.records.SourceLaws.{source_law_of}
use Rattle.receiver_law.proofs.runs.RxRuns.{Holds, IsPast, idle-later, parts-so}

-- the receiver's one turn at the end
record IsOneEnd (last : ℕ) (turns : List RxTurn) : Type 0 where
  turn : RxTurn
  is : turns ≡ turn ∷ []
  event : turn.event ≡ RunEnd
  tick : turn.did.tick ≡ last

one-end : (last : ℕ) (turns : List RxTurn) → EndsReceiving last turns → IsOneEnd last turns
one-end last [] ends = absurd ends
one-end last (turn ∷ more) ends = record { turn = turn; is = ap (λ m. turn ∷ m) ends.2; event = ends.0; tick = ends.1 }

-- after it no reception goes on
pub ends-idle : (run : RxRun) → IsRxRun run → (state_after rx_new (turns_in run)).busy ≡ None
ends-idle run is =
    let before : List RxTurn = turns_of run.parts in
    let one : IsOneEnd run.last run.end = one-end run.last run.end is.ends in
    let happened : HasReceived run.set (one.turn ∷ before) = subst (λ (t : List RxTurn). HasReceived run.set (t ++ before)) one.is is.happened in
    ap (λ (t : List RxTurn). (state_after rx_new (t ++ before)).busy) one.is
    ∙ idle-ended run.set (state_after rx_new before) one.turn.did (subst (λ (e : RxEvent). RxStep run.set (state_after rx_new before) e one.turn.did) one.event happened.1)

pub source_law_of_run : (run : RxRun) (budget : ℕ) → IsRxRun run → SourceLaw run.set.chan.0 run.set.a run.set.functional (source_of budget run).seen (source_of budget run).sessions
source_law_of_run run budget is = source_law_of run.set (turns_in run) is.happened (ends-idle run is)

-- the law of a channel, where the run's end ends a reception or not
module _ (full : ℕ → Bool) (r : SourceChannel) (tells : AllZip (Tells r.rx.chan.0 r.rx.a) (attempts_in r.rx.functional r.seen) r.sessions) where
  law-ended : (old : RxState) (busy : Option Reception) (m : RxDid) (refusing : Option ℕ) (lies : Option Meaning) (records : List SessionRecord) → r.sessions ≡ records ++ m.records → m.tick ≡ r.last → ((on : Reception) → busy ≡ Some on → on.since < r.last + 1) →
      SoBy full r.rx r.shape (r.last + 1) (r.last + 1) refusing lies busy r.seen records r.controls → EndRow r.rx old busy m → ReceptionLaw full r
  law-ended old None m refusing lies records told at since so row =
      let same : records ≡ r.sessions = sym (append-nil records) ∙ ap (λ (more : List SessionRecord). records ++ more) (sym row.records) ∙ sym told in
      law-idle full r tells (r.last + 1) (r.last + 1) refusing lies (omega arith) (subst (λ (all : List SessionRecord). SoBy full r.rx r.shape (r.last + 1) (r.last + 1) refusing lies None r.seen all r.controls) same so)
  law-ended old (Some busy) m refusing lies records told at since so row =
      law-busy full r tells refusing lies busy records (told ∙ ap (λ (more : List SessionRecord). records ++ more) row.records ∙ ap (λ (t : ℕ). records ++ ended r.rx busy (EndOfRun busy.wait (record { 0 = busy.since })) t ∷ []) at) (omega (arith, since busy refl)) so

pub reception_law_of : (run : RxRun) (budget : ℕ) → IsRxRun run → HasLimits run.set → LooksKeepRoom run.set (calls_by (turns_in run)) → ReceptionLaw run.full (source_of budget run)
reception_law_of run budget is limits keep =
    let turns : List RxTurn = turns_of run.parts in
    let r : SourceChannel = source_of budget run in
    let one : IsOneEnd run.last run.end = one-end run.last run.end is.ends in
    let happened : HasReceived run.set (one.turn ∷ turns) = subst (λ (t : List RxTurn). HasReceived run.set (t ++ turns)) one.is is.happened in
    let law : SourceLaw run.set.chan.0 run.set.a run.set.functional r.seen r.sessions = source_law_of_run run budget is in
    let so : IsPast run.full run.set run.shape limits (tick_after run.parts) turns = parts-so run.full run.set run.shape limits run.parts is.parts_are happened.2 (looks-front run.set run.end turns keep) in
    let controls : controls_by run.shape turns ≡ r.controls =
    sym (ap (λ t. controls_by run.shape (t ++ turns)) one.is ∙ ap (λ e. controls_by run.shape turns ++ control_at run.shape e one.turn.did.tick (control_after turns)) one.event ∙ append-nil (controls_by run.shape turns)) in
    let seen : came_by frames_in turns ≡ r.seen = sym (ap (λ t. came_by frames_in (t ++ turns)) one.is ∙ ap (λ e. came_by frames_in turns ++ frames_in one.turn.did.tick e) one.event ∙ append-nil (came_by frames_in turns)) in
    let told : r.sessions ≡ records_by turns ++ one.turn.did.records = ap (λ t. records_by (t ++ turns)) one.is in
    let row : EndRow run.set (state_after rx_new turns) (state_after rx_new turns).busy one.turn.did = subst (λ (e : RxEvent). RxStep run.set (state_after rx_new turns) e one.turn.did) one.event happened.1 in
    let P : Option Reception → Option Meaning → List Seen → List Written → Type 0 = λ busy lies came left. SoBy run.full run.set run.shape (run.last + 1) (run.last + 1) (state_after rx_new turns).refusing lies busy came (records_by turns) left in
    elim is.reached [
      | inr reached ↦
          law-ended run.full r law.tells (state_after rx_new turns) (state_after rx_new turns).busy one.turn.did (state_after rx_new turns).refusing (control_after turns) (records_by turns) told one.tick (λ on busy. omega (arith, so.since on busy, reached))
          (subst (P (state_after rx_new turns).busy (control_after turns) r.seen) controls (subst (λ (c : List Seen). P (state_after rx_new turns).busy (control_after turns) c (controls_by run.shape turns)) seen
          (subst (λ (t : ℕ). Holds run.full run.set run.shape limits t t turns) reached so.holds))) row
      | inl idle ↦
          law-ended run.full r law.tells (state_after rx_new turns) None one.turn.did (state_after rx_new turns).refusing None (records_by turns) told one.tick (λ on busy. cc)
          (subst (P None None r.seen) controls (subst (λ (c : List Seen). P None None c (controls_by run.shape turns)) seen
          (idle-later run.full run.set run.shape limits (tick_after run.parts) (run.last + 1) turns is.in_time idle happened.2 so.holds)))
          (subst (λ (b : Option Reception). EndRow run.set (state_after rx_new turns) b one.turn.did) idle.receiver row)
    ]
