-- A sender's bus counted as full just in the ticks after which a frame lies in its box: its records have their causes by that too.
use Rattle.std.proofs.Common.{◌≡◌, ℕ, ◌+◌, ◌<◌, ◌≤◌, Bool, true, false, Option, Some, None, List, [], ◌∷◌, ◌++◌, refl, ap, ◌∙◌, arith, cond}
use Rattle.std.specs.Prelude.{is_some, nat_lt}
use Rattle.std.proofs.lemmas.Bool.Decides.{nat_tests}
use Rattle.hub_core.specs.Turns.{Part, tick_after, turns_of}
use Rattle.sender_law.proofs.TxParts.{turns-in}
use Rattle.sender_law.proofs.causes.TransmissionCauses.{causes}
use Rattle.sender_law.specs.Parts.{IsStepIn, IsTxPart}
use Rattle.sender_law.specs.Runs.{AreTxParts, HasLimits, IsTxRun, TxRun, leg_of}
use Rattle.sender_law.specs.TransmissionCauses.{TransmissionCauses}
use Rattle.tp_sender.specs.Runs.{box_after}
use Rattle.tp_sender.specs.State.{TxTurn}
use Rattle.tp_sender.specs.declared.event.TxEvent.TheVariants.{Left}
use Rattle.tp_unit.specs.Box.{Leaves, Nothing, Stays, Went}
use Rattle.tp_unit.specs.Unit.{Meaning}
use Rattle.gw_law.specs.Deeds.{before}
use Rattle.gw_law.proofs.runs.Before.{AreRising}
use Rattle.gw_law.proofs.runs.Parts.{tx-rising}

-- whether a frame lies in the box after a tick
abbrev pub held_at : List (Part TxTurn) → (tick : ℕ) → Bool
held_at parts tick = is_some (box_after (turns_of (before (tick + 1) parts)))

-- in each part's tick that holds where a frame lies there after the part
abbrev AreHeld : (full : ℕ → Bool) → List (Part TxTurn) → Type 0
AreHeld full [] = Unit {0}
AreHeld full (part ∷ earlier) = (is_some (box_after (part.turns ++ turns_of earlier)) ≡ true → full part.tick ≡ true) × AreHeld full earlier

held-wider : (full wide : ℕ → Bool) (bound : ℕ) (parts : List (Part TxTurn)) → AreRising parts → tick_after parts ≤ bound → ((tick : ℕ) → tick < bound → full tick ≡ true → wide tick ≡ true) → AreHeld full parts → AreHeld wide parts
held-wider full wide bound [] rising le on held = tt
held-wider full wide bound (part ∷ earlier) rising le on held = (λ lies. on part.tick (omega (arith, le)) (held.0 lies), held-wider full wide bound earlier rising.1 (omega (arith, le, rising.0)) on held.1)

held-all : (parts : List (Part TxTurn)) → AreRising parts → AreHeld (held_at parts) parts
held-all [] rising = tt
held-all (part ∷ earlier) rising =
    let here : nat_lt part.tick (part.tick + 1) ≡ true = grind (arith, nat_tests) in (
      λ lies. ap (λ b. is_some (box_after (turns_of (cond b (part ∷ earlier) (before (part.tick + 1) earlier))))) here ∙ lies,
      held-wider (held_at earlier) (held_at (part ∷ earlier)) part.tick earlier rising.1 rising.0
          (λ tick below is. let past : nat_lt part.tick (tick + 1) ≡ false = grind (arith, nat_tests, below) in ap (λ b. is_some (box_after (turns_of (cond b (part ∷ earlier) (before (tick + 1) earlier))))) past ∙ is)
          (held-all earlier rising.1),
    )

leaves-held : (full wide : ℕ → Bool) (tick : ℕ) (lies : Option Meaning) (left : List TxTurn) → (left ≡ [] → is_some lies ≡ true → wide tick ≡ true) → Leaves (IsStepIn tick Left) full tick lies left → Leaves (IsStepIn tick Left) wide tick lies left
leaves-held full wide tick lies left held (Nothing none is) = Nothing none is
leaves-held full wide tick lies left held (Went meaning turn some is goes) = Went meaning turn some is goes
leaves-held full wide tick lies left held (Stays meaning some is busy) = Stays meaning some is (held is (ap (λ (o : Option Meaning). is_some o) some))

part-held : (full wide : ℕ → Bool) (earlier : List TxTurn) (part : Part TxTurn) → (is_some (box_after (part.turns ++ earlier)) ≡ true → wide part.tick ≡ true) → IsTxPart full earlier part → IsTxPart wide earlier part
part-held full wide earlier part held is = record {
  answers = is.answers;
  turn = is.turn;
  left = is.left;
  turns_are = is.turns_are;
  answers_only = is.answers_only;
  turn_is = is.turn_is;
  turn_tick = is.turn_tick;
  left_is = leaves-held full wide part.tick (box_after (is.turn ∷ (is.answers ++ earlier))) is.left
      (λ none some. held (ap (λ (ts : List TxTurn). is_some (box_after ts)) (turns-in full earlier part is ∙ ap (λ l. l ++ is.turn ∷ (is.answers ++ earlier)) none) ∙ some)) is.left_is;
}

parts-held : (full wide : ℕ → Bool) (parts : List (Part TxTurn)) → AreHeld wide parts → AreTxParts full parts → AreTxParts wide parts
parts-held full wide [] held are = tt
parts-held full wide (part ∷ earlier) held are = (record { later = are.0.later; next = are.0.next; part_is = part-held full wide (turns_of earlier) part held.0 are.0.part_is }, parts-held full wide earlier held.1 are.1)

-- the run on such a bus
run-held : (run : TxRun) → IsTxRun run → IsTxRun (record run { full = held_at run.parts })
run-held run is = record {
  shape = is.shape;
  happened = is.happened;
  parts_are = parts-held run.full (held_at run.parts) run.parts (held-all run.parts (tx-rising run.full run.parts is.parts_are)) is.parts_are;
  in_time = is.in_time;
  reached = is.reached;
  ends = is.ends;
  idle = is.idle;
}

pub causes-held : (run : TxRun) (budget : ℕ) → IsTxRun run → HasLimits run.set → TransmissionCauses (held_at run.parts) (leg_of budget run)
causes-held run budget is some = causes (record run { full = held_at run.parts }) budget (run-held run is) some

-- what lies there
pub lies-some : (lies : Option Meaning) → is_some lies ≡ true → (meaning : Meaning) × (lies ≡ Some meaning)
lies-some None is = cc
lies-some (Some meaning) is = (meaning, refl)
