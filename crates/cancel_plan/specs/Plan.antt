-- Cancellations by their bus and tick.
use Rattle.std.specs.Prelude.{◌≡◌, ℕ, Bool, ◌&&◌, ◌==◌, if◌then◌else◌, List, [], ◌∷◌, ◌++◌, Option, Some, None, filter}
use Rattle.std.specs.BTreeMap.{BTreeMap, get}
use Rattle.std.specs.Global.{Vec}
use Rattle.std.specs.Ordering.{nat_cmp}
use Rattle.cancel_plan.specs.declared.entry.CancelEntry.{CancelEntry}
use Rattle.cancel_plan.specs.declared.plan.CancelPlan.{CancelPlan}

-- the cancellation is of this bus
abbrev pub is_on : (bus : ℕ) → CancelEntry → Bool
is_on bus entry = entry.bus.0 == bus

-- the cancellation is of this tick
abbrev pub is_in : (tick : ℕ) → CancelEntry → Bool
is_in tick entry = entry.tick.0 == tick

-- the cancellations of a bus and tick, in configuration order
abbrev pub due_entries : List CancelEntry → (bus tick : ℕ) → List CancelEntry
due_entries entries bus tick = filter (λ entry. is_in tick entry && is_on bus entry) entries

-- a list, or none
abbrev pub items_of : Option (Vec CancelEntry) → List CancelEntry
items_of None = []
items_of (Some list) = list.items

-- what the map has of a tick
abbrev pub listed : BTreeMap ℕ (Vec CancelEntry) → (tick : ℕ) → List CancelEntry
listed by_tick tick = items_of (get nat_cmp by_tick tick)

-- new is old with the cancellation after those of its tick
abbrev pub AddsEntry : BTreeMap ℕ (Vec CancelEntry) → BTreeMap ℕ (Vec CancelEntry) → CancelEntry → Type 0
AddsEntry old new entry = (tick : ℕ) → listed new tick ≡ (if is_in tick entry then listed old tick ++ entry ∷ [] else listed old tick)

-- what the plan has of a tick
abbrev pub entries_at : CancelPlan → (tick : ℕ) → List CancelEntry
entries_at plan tick = listed plan.by_tick tick

-- the plan of these cancellations
abbrev pub IsPlanOf : List CancelEntry → CancelPlan → Type 0
IsPlanOf entries plan = (tick : ℕ) → entries_at plan tick ≡ filter (is_in tick) entries
