-- What each machine did tick by tick, of all that the bus's machines did.
use Rattle.std.proofs.Common.{◌≡◌, ℕ, List, [], ◌∷◌, ◌++◌, refl, ap, sym, ◌∙◌, append_assoc}
use Rattle.hub_core.specs.Turns.{tick_after, turns_of}
use Rattle.bus_worker.proofs.ActLists.{received-append, sent-append}
use Rattle.bus_worker.specs.Acts.{Act, received_at, sent_at}
use Rattle.bus_worker.specs.History.{BusTick, acts_in, next_tick}
use Rattle.bus_worker.specs.Tick.{acts_of}
use Rattle.bus_law.specs.Runs.{received_parts, sent_parts, tick_acts}

-- the acts of a tick after others
pub tick-front : (t : BusTick) (acts : List Act) → acts_of t.came t.timers t.turns t.left acts ≡ tick_acts t ++ acts
tick-front t acts =
    sym (append_assoc t.left (t.turns ++ (t.timers ++ (t.came ++ []))) acts
    ∙ ap (λ l. t.left ++ l) (append_assoc t.turns (t.timers ++ (t.came ++ [])) acts
    ∙ ap (λ l. t.turns ++ l) (append_assoc t.timers (t.came ++ []) acts
    ∙ ap (λ l. t.timers ++ l) (append_assoc t.came [] acts))))

pub turns-received : (place : ℕ) (ticks : List BusTick) → turns_of (received_parts place ticks) ≡ received_at place (acts_in ticks)
turns-received place [] = refl
turns-received place (t ∷ earlier) = ap (λ l. received_at place (tick_acts t) ++ l) (turns-received place earlier) ∙ sym (ap (received_at place) (tick-front t (acts_in earlier)) ∙ received-append place (tick_acts t) (acts_in earlier))

pub turns-sent : (place : ℕ) (ticks : List BusTick) → turns_of (sent_parts place ticks) ≡ sent_at place (acts_in ticks)
turns-sent place [] = refl
turns-sent place (t ∷ earlier) = ap (λ l. sent_at place (tick_acts t) ++ l) (turns-sent place earlier) ∙ sym (ap (sent_at place) (tick-front t (acts_in earlier)) ∙ sent-append place (tick_acts t) (acts_in earlier))

pub received-after : (place : ℕ) (ticks : List BusTick) → tick_after (received_parts place ticks) ≡ next_tick 0 ticks
received-after place [] = refl
received-after place (t ∷ earlier) = refl

pub sent-after : (place : ℕ) (ticks : List BusTick) → tick_after (sent_parts place ticks) ≡ next_tick 0 ticks
sent-after place [] = refl
sent-after place (t ∷ earlier) = refl
