-- Of all that left on a bus, what left in one tick.
use Rattle.std.proofs.Common.{◌≡◌, ◌==◌, ℕ, ◌+◌, ◌<◌, ◌≤◌, false, cond, List, [], ◌∷◌, ◌++◌, refl, ap, sym, subst, ◌∙◌, arith, eq-eqb, append-nil, append_assoc}
use Rattle.std.proofs.lemmas.List.Elements.{filter-append}
use Rattle.std.specs.List.{AllByRecursion}
use Rattle.gw_base.proofs.Lists.{all-join, all-weaker}
use Rattle.tp_unit.specs.Box.{Written, left_in}
use Rattle.tx_mailbox.specs.Boxes.{Pending}
use Rattle.bus_worker.proofs.ActLists.{differs}
use Rattle.bus_worker.specs.Emission.{all_sent_in, sent_in}
use Rattle.bus_worker.specs.History.{BusTick, Follow, left_in as left_on, next_tick}
use Rattle.bus_worker.specs.declared.channel.Channel.{Channel}

pub in-append : (tick : ℕ) (xs ys : List Written) → left_in tick (xs ++ ys) ≡ left_in tick xs ++ left_in tick ys
in-append tick xs ys = filter-append (λ (w : Written). w.tick == tick) xs ys

pub none-in : (tick : ℕ) (xs : List Written) → AllByRecursion (λ (w : Written). (w.tick == tick) ≡ false) xs → left_in tick xs ≡ []
none-in tick [] all = refl
none-in tick (w ∷ xs) all = ap (λ b. cond b (w ∷ left_in tick xs) (left_in tick xs)) all.0 ∙ none-in tick xs all.1

pub all-in : (tick : ℕ) (out : List Pending) → left_in tick (all_sent_in tick out) ≡ all_sent_in tick out
all-in tick [] = refl
all-in tick (entry ∷ out) = ap (λ b. cond b (sent_in tick entry ∷ left_in tick (all_sent_in tick out)) (left_in tick (all_sent_in tick out))) (eq-eqb tick tick refl) ∙ ap (λ l. sent_in tick entry ∷ l) (all-in tick out)

pub sent-at-tick : (P : ℕ → Type 0) (tick : ℕ) (out : List Pending) → P tick → AllByRecursion (λ (w : Written). P w.tick) (all_sent_in tick out)
sent-at-tick P tick [] is = tt
sent-at-tick P tick (entry ∷ out) is = (is, sent-at-tick P tick out is)

-- all that left before
pub left-below : (channels : List Channel) (ticks : List BusTick) → Follow channels ticks → AllByRecursion (λ (w : Written). w.tick < next_tick 0 ticks) (left_on ticks)
left-below channels [] follow = tt
left-below channels (t ∷ earlier) follow =
    all-join (λ (w : Written). w.tick < t.tick + 1) (left_on earlier) (all_sent_in t.tick t.out)
    (all-weaker (λ (w : Written). w.tick < next_tick 0 earlier) (λ (w : Written). w.tick < t.tick + 1) (left_on earlier) (λ w low. (let f = follow.0 in omega (arith, low, f))) (left-below channels earlier follow.2))
    (sent-at-tick (λ n. n < t.tick + 1) t.tick t.out (omega arith))

-- each tick's frames are those of the whole that have its number
abbrev pub Agree : List Written → List BusTick → Type 0
Agree left ticks = AllByRecursion (λ (t : BusTick). left_in t.tick left ≡ all_sent_in t.tick t.out) ticks

agree-with : (channels : List Channel) (ticks : List BusTick) (later : List Written) → Follow channels ticks → AllByRecursion (λ (w : Written). next_tick 0 ticks ≤ w.tick) later → Agree (left_on ticks ++ later) ticks
agree-with channels [] later follow high = tt
agree-with channels (t ∷ earlier) later follow high =
    let own = all_sent_in t.tick t.out in
    let before = none-in t.tick (left_on earlier) (all-weaker (λ (w : Written). w.tick < next_tick 0 earlier) (λ (w : Written). (w.tick == t.tick) ≡ false) (left_on earlier) (λ w low. differs w.tick t.tick (λ same. (let f = follow.0 in omega (arith, low, f, same)))) (left-below channels earlier follow.2)) in
    let after = none-in t.tick later (all-weaker (λ (w : Written). t.tick + 1 ≤ w.tick) (λ (w : Written). (w.tick == t.tick) ≡ false) later (λ w low. differs w.tick t.tick (λ same. omega (arith, low, same))) high) in
    let first : left_in t.tick ((left_on earlier ++ own) ++ later) ≡ own =
    in-append t.tick (left_on earlier ++ own) later ∙ ap (λ l. left_in t.tick (left_on earlier ++ own) ++ l) after ∙ append-nil (left_in t.tick (left_on earlier ++ own))
    ∙ in-append t.tick (left_on earlier) own ∙ ap (λ l. l ++ left_in t.tick own) before ∙ all-in t.tick t.out in
    let more : AllByRecursion (λ (w : Written). next_tick 0 earlier ≤ w.tick) (own ++ later) =
    all-join (λ (w : Written). next_tick 0 earlier ≤ w.tick) own later (sent-at-tick (λ n. next_tick 0 earlier ≤ n) t.tick t.out follow.0)
    (all-weaker (λ (w : Written). t.tick + 1 ≤ w.tick) (λ (w : Written). next_tick 0 earlier ≤ w.tick) later (λ w low. (let f = follow.0 in omega (arith, low, f))) high) in
    let A : List Written → Type 0 = λ l. Agree l earlier in
    (first, subst A (sym (append_assoc (left_on earlier) own later)) (agree-with channels earlier (own ++ later) follow.2 more))

pub agree : (channels : List Channel) (ticks : List BusTick) → Follow channels ticks → Agree (left_on ticks) ticks
agree channels ticks follow = (let A : List Written → Type 0 = λ l. Agree l ticks in subst A (append-nil (left_on ticks)) (agree-with channels ticks [] follow tt))
