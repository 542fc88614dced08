-- What leaves on a sender's channel in each tick, by its parts.
use Rattle.std.proofs.Common.{Bool, ◌≡◌, ℕ, ◌+◌, Option, None, Some, List, [], ◌∷◌, ◌++◌, refl, ap, ◌∙◌, arith, append-nil}
use Rattle.hub_core.specs.Turns.{Part, tick_after, turns_of}
use Rattle.std.specs.List.{AllByRecursion}
use Rattle.tp_sender.specs.Runs.{box_after, left_by, written_at}
use Rattle.tp_sender.specs.State.{TxTurn}
use Rattle.tp_sender.specs.declared.event.TxEvent.{TxEvent}
use Rattle.tp_sender.specs.declared.event.TxEvent.TheVariants.{Turn, Fc, Left, RunEnd}
use Rattle.tp_unit.proofs.Rises.{Rise, all-by, at-most-once, never-fall, rise-later, rise-written}
use Rattle.tp_unit.specs.Box.{Leaves, Nothing, Stays, Went, Written, written_of}
use Rattle.tp_unit.specs.Unit.{Meaning}
use Rattle.tp_unit.specs.declared.shape.Shape.{Shape}
use Rattle.sender_law.specs.Emission.{DataEmission}
use Rattle.sender_law.specs.Parts.{AnswersIn, IsAnswerIn, IsStepIn, IsTxPart}
use Rattle.sender_law.specs.Runs.{AreTxParts, IsTxRun, TxRun, leg_of, turns_in}
use Rattle.sender_law.proofs.DataFrames.{are-data}
use Rattle.sender_law.proofs.TxParts.{turns-in}

-- a flow control that came writes nothing
answer-silent : (shape : Shape) (tick at : ℕ) (event : TxEvent) (lies : Option Meaning) → AnswersIn tick event at → written_at shape event at lies ≡ []
answer-silent shape tick at Turn lies is = absurd is
answer-silent shape tick at (Fc fs bs st) lies is = refl
answer-silent shape tick at Left lies is = absurd is
answer-silent shape tick at RunEnd lies is = absurd is

answers-silent : (shape : Shape) (tick : ℕ) (answers earlier : List TxTurn) → AllByRecursion (IsAnswerIn tick) answers → left_by shape (answers ++ earlier) ≡ left_by shape earlier
answers-silent shape tick [] earlier all = refl
answers-silent shape tick (m ∷ answers) earlier all = rw (answer-silent shape tick m.did.tick m.event (box_after (answers ++ earlier)) all.0, append-nil) (answers-silent shape tick answers earlier all.1)

-- what lies in the box leaves, or nothing
leaves-written : (shape : Shape) (full : ℕ → Bool) (tick : ℕ) (lies : Option Meaning) (left before : List TxTurn) → box_after before ≡ lies → Leaves (IsStepIn tick Left) full tick lies left → (gone : Option Meaning) × (left_by shape (left ++ before) ≡ left_by shape before ++ written_of shape tick gone)
leaves-written shape full tick lies left before is (Nothing none same) = (None, rw (same, append-nil) refl)
leaves-written shape full tick lies left before is (Went meaning turn lying same goes) = (Some meaning, rw (same, goes.0, goes.1, is, lying) refl)
leaves-written shape full tick lies left before is (Stays meaning lying same busy) = (None, rw (same, append-nil) refl)

-- what a part writes
pub part-written : (shape : Shape) (full : ℕ → Bool) (earlier : List TxTurn) (part : Part TxTurn) → IsTxPart full earlier part → (gone : Option Meaning) × (left_by shape (part.turns ++ earlier) ≡ left_by shape earlier ++ written_of shape part.tick gone)
part-written shape full earlier part is =
    let before : List TxTurn = is.turn ∷ (is.answers ++ earlier) in
    let silent : left_by shape before ≡ left_by shape earlier = rw (is.turn_is, append-nil) (answers-silent shape part.tick is.answers earlier is.answers_only) in
    let wrote = leaves-written shape full part.tick (box_after before) is.left before refl is.left_is in
    (wrote.0, ap (left_by shape) (turns-in full earlier part is) ∙ wrote.1 ∙ ap (λ l. l ++ written_of shape part.tick wrote.0) silent)

pub frames-rise : (shape : Shape) (full : ℕ → Bool) (parts : List (Part TxTurn)) → AreTxParts full parts → Rise 0 (left_by shape (turns_of parts)) (tick_after parts)
frames-rise shape full [] are = omega arith
frames-rise shape full (part ∷ earlier) are =
    let wrote = part-written shape full (turns_of earlier) part are.0.part_is in
    rw wrote.1 (rise-written shape 0 (tick_after earlier) part.tick (left_by shape (turns_of earlier)) wrote.0 are.0.later (frames-rise shape full earlier are.1))

-- the end writes nothing
end-silent : (shape : Shape) (last : ℕ) (end earlier : List TxTurn) → AllByRecursion (IsStepIn last RunEnd) end → left_by shape (end ++ earlier) ≡ left_by shape earlier
end-silent shape last [] earlier all = refl
end-silent shape last (m ∷ end) earlier all = rw (all.0.0, append-nil) (end-silent shape last end earlier all.1)

pub run-rises : (run : TxRun) → IsTxRun run → Rise 0 (left_by run.set.shape (turns_in run)) (run.last + 1)
run-rises run is =
    rw (end-silent run.set.shape run.last run.end (turns_of run.parts) is.ends) (rise-later 0 (tick_after run.parts) (run.last + 1) (left_by run.set.shape (turns_of run.parts)) is.in_time (frames-rise run.set.shape run.full run.parts is.parts_are))

pub emission : (run : TxRun) (budget : ℕ) → IsTxRun run → DataEmission (leg_of budget run)
emission run budget is =
    let written : List Written = left_by run.set.shape (turns_in run) in
    let rises : Rise 0 written (run.last + 1) = run-rises run is in
    record {
      order = never-fall 0 0 (run.last + 1) written (omega arith) rises;
      once = λ tick. at-most-once tick 0 (run.last + 1) written rises;
      end = all-by 0 (run.last + 1) run.last written (omega arith) rises;
      are_data = are-data run.set (turns_in run) is.happened;
    }
