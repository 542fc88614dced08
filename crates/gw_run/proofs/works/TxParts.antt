-- The sender of the loop's works, by itself: its run is one of those that the laws of a sender speak of.
use Rattle.std.proofs.Common.{◌≡◌, ◌⊎◌, inl, inr, ℕ, ◌+◌, Option, None, Some, List, [], ◌∷◌, ◌++◌, refl, ap, sym, ◌∙◌, subst, arith}
use Rattle.hub_core.proofs.Turns.{happened-front}
use Rattle.hub_core.specs.Turns.{Part, state_after, tick_after as tick_past, turns_of as turns_in_parts}
use Rattle.sender_law.proofs.TxParts.{idle-box}
use Rattle.sender_law.specs.Parts.{FrameLeaves, IsStepIn, IsTxPart, SendsIn}
use Rattle.sender_law.specs.Runs.{AreTxParts, IsTxIdle, IsTxRun, TxRun, turns_in}
use Rattle.tp_sender.specs.Runs.{HasSent, box_after}
use Rattle.tp_sender.specs.State.{TxTurn, tx_new}
use Rattle.tp_sender.specs.declared.event.TxEvent.TheVariants.{Left}
use Rattle.tp_sender.specs.declared.set.TxSet.{TxSet}
use Rattle.tp_unit.specs.Box.{Leaves, Nothing, Went}
use Rattle.tp_unit.specs.Unit.{Meaning}
use Rattle.gw_run.specs.Works.{AreTicks, IsIdle, Work, moments_of, tick_after}
use Rattle.gw_run.proofs.works.RxParts.{never}
use Rattle.gw_run.proofs.works.SerialRun.{SerialRun, works_of}

-- the sender's part of each tick
abbrev pub tx_part : Work → Part TxTurn
tx_part work = record { tick = work.tick; turns = work.moments }

abbrev pub tx_parts : List Work → List (Part TxTurn)
tx_parts [] = []
tx_parts (work ∷ earlier) = tx_part work ∷ tx_parts earlier

pub parts-turns : (works : List Work) → turns_in_parts (tx_parts works) ≡ moments_of works
parts-turns [] = refl
parts-turns (work ∷ earlier) = ap (λ l. work.moments ++ l) (parts-turns earlier)

pub parts-tick : (works : List Work) → tick_past (tx_parts works) ≡ tick_after works
parts-tick [] = refl
parts-tick (work ∷ earlier) = refl

-- what lies in its box leaves
leaves : (tick : ℕ) (lies : Option Meaning) (left : List TxTurn) → FrameLeaves tick lies left → Leaves (IsStepIn tick Left) never tick lies left
leaves tick None left is = Nothing refl is
leaves tick (Some meaning) [] is = absurd is
leaves tick (Some meaning) (turn ∷ more) is = Went meaning turn refl (ap (λ l. turn ∷ l) is.1) is.0

part-is : (earlier : List TxTurn) (work : Work) → SendsIn work.tick earlier work.moments → IsTxPart never earlier (tx_part work)
part-is earlier work sends = record {
  answers = sends.answers;
  turn = sends.turn;
  left = sends.left;
  turns_are = sends.moments_are;
  answers_only = sends.answers_only;
  turn_is = sends.turn_is;
  turn_tick = sends.turn_tick;
  left_is = leaves work.tick (box_after (sends.turn ∷ (sends.answers ++ earlier))) sends.left sends.left_is;
}

idle-is : (set : TxSet) (turns : List TxTurn) → HasSent set turns → (state_after tx_new turns).live ≡ None → IsTxIdle turns
idle-is set turns sent is = record { live = is; box = idle-box set turns sent is }

-- nothing is sent, or the next tick is that one
rests : (set : TxSet) (works : List Work) (tick : ℕ) → HasSent set (moments_of works) → IsIdle works ⊎ (tick ≡ tick_after works) → IsTxIdle (turns_in_parts (tx_parts works)) ⊎ (tick ≡ tick_past (tx_parts works))
rests set works tick sent (inl idle) = let P : List TxTurn → Type 0 = λ l. IsTxIdle l in inl (subst P (sym (parts-turns works)) (idle-is set (moments_of works) sent idle.sender))
rests set works tick sent (inr at) = inr (at ∙ sym (parts-tick works))

pub are-parts : (set : TxSet) (sizes : List ℕ) (works : List Work) → AreTicks sizes works → HasSent set (moments_of works) → AreTxParts never (tx_parts works)
are-parts set sizes [] ticks sent = tt
are-parts set sizes (work ∷ earlier) ticks sent =
    let before : HasSent set (moments_of earlier) = happened-front _ work.moments (moments_of earlier) sent in
    let P : List TxTurn → Type 0 = λ l. IsTxPart never l (tx_part work) in (
      record {
        later = omega (arith, ticks.0.later, parts-tick earlier);
        next = rests set earlier work.tick before ticks.0.next;
        part_is = subst P (sym (parts-turns earlier)) (part-is (moments_of earlier) work ticks.0.sends);
      },
      are-parts set sizes earlier ticks.1 before,
    )

-- the sender's own run
abbrev pub tx_run : SerialRun → TxRun
tx_run o = record { set = o.tx; full = never; last = o.last; parts = tx_parts o.ticks; end = o.end.moments }

pub run-turns : (o : SerialRun) → turns_in (tx_run o) ≡ moments_of (works_of o)
run-turns o = ap (λ l. o.end.moments ++ l) (parts-turns o.ticks)

reached-by : (o : SerialRun) → HasSent o.tx (moments_of o.ticks) → IsIdle o.ticks ⊎ (tick_after o.ticks ≡ o.last + 1) → IsTxIdle (turns_in_parts (tx_parts o.ticks)) ⊎ (tick_past (tx_parts o.ticks) ≡ o.last + 1)
reached-by o sent (inl idle) = let P : List TxTurn → Type 0 = λ l. IsTxIdle l in inl (subst P (sym (parts-turns o.ticks)) (idle-is o.tx (moments_of o.ticks) sent idle.sender))
reached-by o sent (inr at) = inr (parts-tick o.ticks ∙ at)

pub is-tx-run : (o : SerialRun) → IsTxRun (tx_run o)
is-tx-run o =
    let before : HasSent o.tx (moments_of o.ticks) = happened-front _ o.end.moments (moments_of o.ticks) o.run.sent in
    let H : List TxTurn → Type 0 = λ l. HasSent o.tx l in
    let L : List TxTurn → Type 0 = λ l. (state_after tx_new l).live ≡ None in
    record {
      shape = o.run.shape;
      happened = subst H (sym (run-turns o)) o.run.sent;
      parts_are = are-parts o.tx o.sizes o.ticks o.run.ticks_are before;
      in_time = omega (arith, o.run.ends.in_time, parts-tick o.ticks);
      reached = reached-by o before o.run.ends.reached;
      ends = o.run.ends.sends;
      idle = subst L (sym (run-turns o)) o.run.ends.idle.sender;
    }
