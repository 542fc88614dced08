-- The receiver of the loop's works, by itself: its run is one of those that the laws of a receiver speak of.
use Rattle.std.proofs.Common.{◌≡◌, inl, inr, ℕ, Bool, false, Option, None, Some, List, [], ◌∷◌, ◌++◌, refl, ap, sym, ◌∙◌, subst, arith, append_assoc}
use Rattle.hub_core.proofs.Turns.{happened-front}
use Rattle.hub_core.specs.Turns.{Part, state_after, tick_after as tick_after_parts, turns_of as turns_of_parts}
use Rattle.receiver_law.specs.Parts.{ControlLeaves, ReceivesIn}
use Rattle.receiver_law.specs.RxRun.{AreRxParts, IsLeftIn, IsRxIdle, IsRxPart, IsRxRun, RxRun, turns_in}
use Rattle.tp_receiver.proofs.Made.{after-left}
use Rattle.tp_receiver.specs.Runs.{HasReceived, control_after, control_once}
use Rattle.tp_receiver.specs.State.{RxEvent, RxState, RxTurn, rx_new}
use Rattle.tp_receiver.specs.Table.{RxStep}
use Rattle.tp_receiver.specs.declared.set.RxSet.{RxSet}
use Rattle.tp_unit.specs.Box.{Leaves, Nothing, Went, box_then}
use Rattle.tp_unit.specs.Unit.{Keeps, Meaning}
use Rattle.gw_run.specs.Works.{AreTicks, IsIdle, Work, tick_after, turns_of}
use Rattle.gw_run.proofs.works.SerialRun.{SerialRun, works_of}

-- a bus that is full in no tick
abbrev pub never : ℕ → Bool
never tick = false

-- the receiver's parts
abbrev pub parts_of : List Work → List (Part RxTurn)
parts_of [] = []
parts_of (work ∷ earlier) = record { tick = work.tick; turns = work.turns } ∷ parts_of earlier

pub turns-same : (works : List Work) → turns_of_parts (parts_of works) ≡ turns_of works
turns-same [] = refl
turns-same (work ∷ earlier) = ap (λ t. work.turns ++ t) (turns-same earlier)

after-same : (works : List Work) → tick_after_parts (parts_of works) ≡ tick_after works
after-same [] = refl
after-same (work ∷ earlier) = refl

leaves : (tick : ℕ) (lies : Option Meaning) (left : List RxTurn) → ControlLeaves tick lies left → Leaves (IsLeftIn tick) never tick lies left
leaves tick None left is = Nothing refl is
leaves tick (Some meaning) [] is = absurd is
leaves tick (Some meaning) (turn ∷ more) is = Went meaning turn refl (ap (λ m. turn ∷ m) is.2) (is.0, is.1)

part-of : (tick : ℕ) (earlier turns : List RxTurn) → ReceivesIn tick earlier turns → IsRxPart never earlier (record { tick = tick; turns = turns })
part-of tick earlier turns is = record {
  came = is.came;
  timer = is.timer;
  left = is.left;
  turns_are = is.turns_are;
  came_only = is.came_only;
  timer_is = is.timer_is;
  timer_tick = is.timer_tick;
  left_is = leaves tick (control_after (is.timer ∷ (is.came ++ earlier))) is.left is.left_is;
}

-- after each tick the box is empty
left-empty : (set : RxSet) (tick : ℕ) (lies : Option Meaning) (left before : List RxTurn) → control_after before ≡ lies → ControlLeaves tick lies left → HasReceived set (left ++ before) → control_after (left ++ before) ≡ None
left-empty set tick None left before lies is happened = ap (λ l. control_after (l ++ before)) is ∙ lies
left-empty set tick (Some meaning) [] before lies is happened = absurd is
left-empty set tick (Some meaning) (turn ∷ more) before lies is happened =
    let old : RxState = state_after rx_new (more ++ before) in
    let keeps : turn.did.act ≡ Keeps = (after-left set old turn.did (subst (λ (e : RxEvent). RxStep set old e turn.did) is.0 happened.1)).0 in
    ap (λ a. box_then a (control_once turn.event (control_after (more ++ before)))) keeps ∙ ap (λ e. control_once e (control_after (more ++ before))) is.0

empty : (set : RxSet) (sizes : List ℕ) (works : List Work) → AreTicks sizes works → HasReceived set (turns_of works) → control_after (turns_of works) ≡ None
empty set sizes [] are happened = refl
empty set sizes (work ∷ earlier) are happened =
    let did : ReceivesIn work.tick (turns_of earlier) work.turns = are.0.receives in
    let before : List RxTurn = did.timer ∷ (did.came ++ turns_of earlier) in
    let is : work.turns ++ turns_of earlier ≡ did.left ++ before = ap (λ t. t ++ turns_of earlier) did.turns_are ∙ append_assoc did.left (did.timer ∷ did.came) (turns_of earlier) in
    ap control_after is ∙ left-empty set work.tick (control_after before) did.left before refl did.left_is (subst (HasReceived set) is happened)

idle-of : (set : RxSet) (sizes : List ℕ) (works : List Work) → AreTicks sizes works → HasReceived set (turns_of works) → IsIdle works → IsRxIdle (turns_of_parts (parts_of works))
idle-of set sizes works are happened idle = subst IsRxIdle (sym (turns-same works)) (record { receiver = idle.receiver; box = empty set sizes works are happened })

parts-are : (set : RxSet) (sizes : List ℕ) (works : List Work) → AreTicks sizes works → HasReceived set (turns_of works) → AreRxParts never (parts_of works)
parts-are set sizes [] are happened = tt
parts-are set sizes (work ∷ earlier) are happened =
    let before : HasReceived set (turns_of earlier) = happened-front _ work.turns (turns_of earlier) happened in (
      record {
        later = omega (arith, after-same earlier, are.0.later);
        next = elim are.0.next [
          | inl idle ↦ inl (idle-of set sizes earlier are.1 before idle)
          | inr next ↦ inr (next ∙ sym (after-same earlier))
        ];
        part_is = subst (λ (t : List RxTurn). IsRxPart never t (record { tick = work.tick; turns = work.turns })) (sym (turns-same earlier)) (part-of work.tick (turns_of earlier) work.turns are.0.receives);
      },
      parts-are set sizes earlier are.1 before,
    )

-- the receiver's run
abbrev pub rx_run : SerialRun → RxRun
rx_run o = record { set = o.rx; shape = o.shape; full = never; last = o.last; parts = parts_of o.ticks; end = o.end.turns }

pub turns-are : (o : SerialRun) → turns_in (rx_run o) ≡ turns_of (works_of o)
turns-are o = ap (λ t. o.end.turns ++ t) (turns-same o.ticks)

pub is-rx-run : (o : SerialRun) → IsRxRun (rx_run o)
is-rx-run o = record {
  happened = subst (HasReceived o.rx) (sym (turns-are o)) o.run.received;
  parts_are = parts-are o.rx o.sizes o.ticks o.run.ticks_are (happened-front _ o.end.turns (turns_of o.ticks) o.run.received);
  in_time = omega (arith, after-same o.ticks, o.run.ends.in_time);
  reached = elim o.run.ends.reached [
    | inl idle ↦ inl (idle-of o.rx o.sizes o.ticks o.run.ticks_are (happened-front _ o.end.turns (turns_of o.ticks) o.run.received) idle)
    | inr reached ↦ inr (after-same o.ticks ∙ reached)
  ];
  ends = o.run.ends.receives;
}
