-- What left on a bus in a run: in order, by priority, and no more than its budget in a tick.
use Rattle.std.proofs.Common.{◌≡◌, ◌==◌, inl, inr, ℕ, zero, suc, ◌<◌, ◌≤◌, false, Some, List, [], ◌∷◌, ◌++◌, length, refl, ap, sym, ◌∙◌, arith, append-nil}
use Rattle.std.specs.Prelude.{slice_get}
use Rattle.std.specs.List.{AllByRecursion}
use Rattle.std.proofs.lemmas.Bool.{cases_eq}
use Rattle.std.proofs.lemmas.List.{length-map}
use Rattle.can_frame.specs.Priority.{priority_of}
use Rattle.gw_base.proofs.Lists.{all-weaker}
use Rattle.tp_unit.specs.Box.{NeverFall, Written, left_in}
use Rattle.tx_mailbox.specs.Boxes.{LeavesBefore, Pending}
use Rattle.gw_law.specs.Emission.{AreByPriority}
use Rattle.bus_worker.proofs.ActLists.{differs}
use Rattle.bus_worker.specs.Emission.{all_sent_in, sent_in}
use Rattle.bus_worker.specs.History.{AreBusTicks, BusTick, Follow, left_in as left_on, next_tick}
use Rattle.bus_worker.specs.declared.channel.Channel.{Channel}
use Rattle.bus_worker.specs.declared.comes.Comes.{Comes}
use Rattle.bus_law.proofs.LeftIn.{all-in, in-append, left-below, none-in, sent-at-tick}
use Rattle.bus_law.specs.Laws.{BusSends}

-- in the order of the ticks
never-append : (low mid : ℕ) (xs ys : List Written) → low ≤ mid → NeverFall low xs → AllByRecursion (λ (w : Written). w.tick ≤ mid) xs → NeverFall mid ys → NeverFall low (xs ++ ys)
never-append low mid [] [] by never all later = tt
never-append low mid [] (y ∷ ys) by never all later = (omega (arith, by, later.0), later.1)
never-append low mid (x ∷ xs) ys by never all later = (never.0, never-append x.tick mid xs ys all.0 never.1 all.1 later)

never-in : (tick : ℕ) (out : List Pending) → NeverFall tick (all_sent_in tick out)
never-in tick [] = tt
never-in tick (entry ∷ out) = (omega arith, never-in tick out)

in-order : (channels : List Channel) (ticks : List BusTick) → Follow channels ticks → NeverFall 0 (left_on ticks)
in-order channels [] follow = tt
in-order channels (t ∷ earlier) follow =
    never-append 0 t.tick (left_on earlier) (all_sent_in t.tick t.out) (omega arith) (in-order channels earlier follow.2)
    (all-weaker (λ (w : Written). w.tick < next_tick 0 earlier) (λ (w : Written). w.tick ≤ t.tick) (left_on earlier) (λ w low. (let f = follow.0 in omega (arith, low, f))) (left-below channels earlier follow.2)) (never-in t.tick t.out)

-- no more than the budget in a tick
most-in : (budget : ℕ) (routes : List Comes) (channels : List Channel) (ticks : List BusTick) → AreBusTicks budget routes channels [] ticks → Follow channels ticks → (tick : ℕ) → length (left_in tick (left_on ticks)) ≤ budget
most-in budget routes channels [] are follow tick = omega arith
most-in budget routes channels (t ∷ earlier) are follow tick = elim (cases_eq tick t.tick) [
  | inl here ↦
      let before = none-in t.tick (left_on earlier) (all-weaker (λ (w : Written). w.tick < next_tick 0 earlier) (λ (w : Written). (w.tick == t.tick) ≡ false) (left_on earlier) (λ w low. differs w.tick t.tick (λ same. (let f = follow.0 in omega (arith, low, f, same)))) (left-below channels earlier follow.2)) in
      let own : left_in tick (left_on earlier ++ all_sent_in t.tick t.out) ≡ all_sent_in t.tick t.out =
      ap (λ n. left_in n (left_on earlier ++ all_sent_in t.tick t.out)) here ∙ in-append t.tick (left_on earlier) (all_sent_in t.tick t.out) ∙ ap (λ l. l ++ left_in t.tick (all_sent_in t.tick t.out)) before ∙ all-in t.tick t.out in
      let few = are.0.emitted.few in
      omega (arith, ap length own, length-map t.out (sent_in t.tick), few)
  | inr ne ↦
      let after = none-in tick (all_sent_in t.tick t.out) (sent-at-tick (λ n. (n == tick) ≡ false) t.tick t.out (differs t.tick tick (λ same. ne (sym same)))) in
      let rest : left_in tick (left_on earlier ++ all_sent_in t.tick t.out) ≡ left_in tick (left_on earlier) =
      in-append tick (left_on earlier) (all_sent_in t.tick t.out) ∙ ap (λ l. left_in tick (left_on earlier) ++ l) after ∙ append-nil (left_in tick (left_on earlier)) in
      let few = most-in budget routes channels earlier are.1 follow.2 tick in
      omega (arith, ap length rest, few)
]

-- by priority
lower-first : (first second : Pending) → LeavesBefore first second → priority_of first.1.id ≤ priority_of second.1.id
lower-first first second (inl lower) = omega (arith, lower)
lower-first first second (inr equal) = omega (arith, equal.0)

abbrev AreInTurn : List Pending → Type 0
AreInTurn out = (i j : ℕ) (first second : Pending) → i < j → slice_get out i ≡ Some first → slice_get out j ≡ Some second → LeavesBefore first second

priority-in : (tick : ℕ) (out : List Pending) → AreInTurn out → AreByPriority (all_sent_in tick out)
priority-in tick [] turn = tt
priority-in tick (entry ∷ []) turn = tt
priority-in tick (entry ∷ next ∷ later) turn =
    ((λ same. lower-first entry next (turn zero (suc zero) entry next (omega arith) refl refl)), priority-in tick (next ∷ later) (λ i j first second less one two. turn (suc i) (suc j) first second (omega (arith, less)) one two))

priority-append : (mid : ℕ) (xs ys : List Written) → AllByRecursion (λ (w : Written). w.tick < mid) xs → AllByRecursion (λ (w : Written). mid ≤ w.tick) ys → AreByPriority xs → AreByPriority ys → AreByPriority (xs ++ ys)
priority-append mid [] ys low high one two = two
priority-append mid (x ∷ []) [] low high one two = tt
priority-append mid (x ∷ []) (y ∷ ys) low high one two = ((λ same. absurd (omega (arith, same, low.0, high.0))), two)
priority-append mid (x ∷ next ∷ xs) ys low high one two = (one.0, priority-append mid (next ∷ xs) ys low.1 high one.1 two)

by-priority : (budget : ℕ) (routes : List Comes) (channels : List Channel) (ticks : List BusTick) → AreBusTicks budget routes channels [] ticks → Follow channels ticks → AreByPriority (left_on ticks)
by-priority budget routes channels [] are follow = tt
by-priority budget routes channels (t ∷ earlier) are follow =
    priority-append (next_tick 0 earlier) (left_on earlier) (all_sent_in t.tick t.out) (left-below channels earlier follow.2) (sent-at-tick (λ n. next_tick 0 earlier ≤ n) t.tick t.out follow.0)
    (by-priority budget routes channels earlier are.1 follow.2) (priority-in t.tick t.out are.0.emitted.in_order)

pub bus-sends : BusSends
bus-sends budget last routes channels ticks end run = record {
  order = in-order channels ticks run.follow;
  most = most-in budget routes channels ticks run.ticks_are run.follow;
  end = all-weaker (λ (w : Written). w.tick < next_tick 0 ticks) (λ (w : Written). w.tick ≤ last) (left_on ticks) (λ w low. (let t = run.in_time in omega (arith, low, t))) (left-below channels ticks run.follow);
  by_priority = by-priority budget routes channels ticks run.ticks_are run.follow;
}
