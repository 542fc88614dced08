-- At most one flow control of a channel leaves in a tick: the ticks of what a run wrote strictly rise.
use Rattle.std.proofs.Common.{◌≡◌, ℕ, ◌+◌, Bool, Option, Some, None, List, [], ◌∷◌, ◌++◌, refl, ap, sym, ◌∙◌, arith, append-nil, append_assoc}
use Rattle.std.specs.List.{AllByRecursion}
use Rattle.hub_core.specs.Turns.{Part, tick_after, turns_of}
use Rattle.tp_receiver.specs.Runs.{control_after, control_at, controls_by}
use Rattle.tp_receiver.specs.State.{RxEvent, RxTurn, Came, Timer, FcLeft, RunEnd}
use Rattle.tp_unit.proofs.Rises.{Rise, rise-later, rise-written}
use Rattle.tp_unit.specs.Box.{Leaves, Nothing, Stays, Went, written_of}
use Rattle.tp_unit.specs.Unit.{Meaning}
use Rattle.tp_unit.specs.declared.shape.Shape.{Shape}
use Rattle.receiver_law.specs.Parts.{CameIn, EndsReceiving}
use Rattle.receiver_law.specs.RxRun.{AreRxParts, IsLeftIn, IsRxPart, IsRxRun, RxRun, turns_in}

-- a frame that came writes nothing
came-silent : (shape : Shape) (tick at : ℕ) (event : RxEvent) (lies : Option Meaning) → CameIn tick event at → control_at shape event at lies ≡ []
came-silent shape tick at (Came size meaning) lies is = refl
came-silent shape tick at Timer lies is = absurd is
came-silent shape tick at FcLeft lies is = absurd is
came-silent shape tick at RunEnd lies is = absurd is

all-came-silent : (shape : Shape) (tick : ℕ) (came earlier : List RxTurn) → AllByRecursion (λ (turn : RxTurn). CameIn tick turn.event turn.did.tick) came → controls_by shape (came ++ earlier) ≡ controls_by shape earlier
all-came-silent shape tick [] earlier all = refl
all-came-silent shape tick (turn ∷ came) earlier all = rw (came-silent shape tick turn.did.tick turn.event (control_after (came ++ earlier)) all.0, append-nil) (all-came-silent shape tick came earlier all.1)

-- what a part of a tick writes: what left of its box, if anything did
WritesIn : Shape → (tick : ℕ) → (earlier later : List RxTurn) → Type 0
WritesIn shape tick earlier later = (left : Option Meaning) × (controls_by shape later ≡ controls_by shape earlier ++ written_of shape tick left)

control-leaves : (shape : Shape) (full : ℕ → Bool) (tick : ℕ) (lies : Option Meaning) (left before : List RxTurn) → control_after before ≡ lies → Leaves (IsLeftIn tick) full tick lies left → WritesIn shape tick before (left ++ before)
unfolding WritesIn
control-leaves shape full tick lies left before is (Nothing none gone) = (None, ap (λ (l : List RxTurn). controls_by shape (l ++ before)) gone ∙ sym (append-nil (controls_by shape before)))
control-leaves shape full tick lies left before is (Stays meaning some gone busy) = (None, ap (λ (l : List RxTurn). controls_by shape (l ++ before)) gone ∙ sym (append-nil (controls_by shape before)))
control-leaves shape full tick lies left before is (Went meaning turn some gone went) = (Some meaning, ap (λ (l : List RxTurn). controls_by shape (l ++ before)) gone ∙ rw (went.0, went.1, is, some) refl)

writes-in : (shape : Shape) (full : ℕ → Bool) (earlier : List RxTurn) (part : Part RxTurn) → IsRxPart full earlier part → WritesIn shape part.tick earlier (part.turns ++ earlier)
unfolding WritesIn
writes-in shape full earlier part did =
    let before : List RxTurn = did.timer ∷ (did.came ++ earlier) in
    let silent : controls_by shape before ≡ controls_by shape earlier = rw (did.timer_is, append-nil) (all-came-silent shape part.tick did.came earlier did.came_only) in
    let is : part.turns ++ earlier ≡ did.left ++ before = ap (λ t. t ++ earlier) did.turns_are ∙ append_assoc did.left (did.timer ∷ did.came) earlier in
    let wrote = control-leaves shape full part.tick (control_after before) did.left before refl did.left_is in
    (wrote.0, ap (controls_by shape) is ∙ wrote.1 ∙ ap (λ l. l ++ written_of shape part.tick wrote.0) silent)

controls-rise : (shape : Shape) (full : ℕ → Bool) (parts : List (Part RxTurn)) → AreRxParts full parts → Rise 0 (controls_by shape (turns_of parts)) (tick_after parts)
unfolding WritesIn
controls-rise shape full [] are = omega arith
controls-rise shape full (part ∷ earlier) are =
    let left = writes-in shape full (turns_of earlier) part are.0.part_is in
    rw left.1 (rise-written shape 0 (tick_after earlier) part.tick (controls_by shape (turns_of earlier)) left.0 are.0.later (controls-rise shape full earlier are.1))

-- the run's end writes nothing
end-silent : (shape : Shape) (last : ℕ) (end earlier : List RxTurn) → EndsReceiving last end → controls_by shape (end ++ earlier) ≡ controls_by shape earlier
end-silent shape last [] earlier ends = absurd ends
end-silent shape last (turn ∷ more) earlier ends = rw (ends.2, ends.0, append-nil) refl

-- the ticks of what a run wrote strictly rise, up to its last tick
pub controls-of-run-rise : (run : RxRun) → IsRxRun run → Rise 0 (controls_by run.shape (turns_in run)) (run.last + 1)
controls-of-run-rise run is =
    rw (end-silent run.shape run.last run.end (turns_of run.parts) is.ends) (rise-later 0 (tick_after run.parts) (run.last + 1) (controls_by run.shape (turns_of run.parts)) is.in_time (controls-rise run.shape run.full run.parts is.parts_are))
