-- What becomes of each unit that is offered to a queue.
use Rattle.std.specs.Prelude.{◌≡◌, ℕ, ◌+◌, ◌<◌, ◌≤◌, Bool, true, false, List, [], ◌∷◌, length, take, drop, map, slice_get, Some}
use Rattle.if_core.specs.Lane.{Lane, queued, refused, within, flushed}
use Rattle.if_core.specs.Unit.{UnitOf}
use Rattle.if_core.specs.declared.lanes.Offer.TheVariants.{Flushed, Refused}
use Rattle.if_core.specs.declared.history.Taking.{Taking}

-- how often a number is among units
abbrev pub times : List UnitOf → ℕ → ℕ
times [] k = 0
times (unit ∷ units) k = within unit.number (unit.number + 1) k + times units k

abbrev pub taken_units : List Taking → List UnitOf
taken_units takes = map (λ taking. taking.unit) takes

-- each unit, by its number, is once among the units taken, flushed and refused and those that the queue still holds.
-- In a queue that flushes the number of a unit is its position
abbrev pub HasOneFate : (position : ℕ) → Lane → (k : ℕ) → Type 0
HasOneFate position lane k =
    times (taken_units lane.takes) k + flushed lane.offers k + times (refused lane.offers) k
    + times (drop position (queued lane.offers)) k ≡ 1

-- a unit was flushed by a later one, at most `depth` after it, that came when a whole depth of units had been offered
pub record IsFlushed (depth : ℕ) (keep : Bool) (lane : Lane) (k : ℕ) : Type 0 where
  pub by : ℕ
  pub after : k < by
  pub near : by ≤ k + depth
  pub full : depth ≤ by
  pub flushes : keep ≡ false
  pub unit : UnitOf
  pub from : ℕ
  pub to : ℕ
  pub there : slice_get lane.offers by ≡ Some (record { unit = unit; answer = Flushed from to })
  pub among : (from ≤ k) × (k ≤ to)

-- a refused unit has at least `depth` units below it that weren't refused
pub record IsRefused (depth : ℕ) (keep : Bool) (lane : Lane) (k : ℕ) : Type 0 where
  pub keeps : keep ≡ true
  pub full : depth ≤ length (queued (take k lane.offers))

-- the laws on the units of a queue
pub record AreFates (depth : ℕ) (keep : Bool) (position : ℕ) (lane : Lane) : Type 0 where
  pub one : (k : ℕ) → k < length lane.offers → HasOneFate position lane k
  pub flushed_units : (k : ℕ) → 0 < flushed lane.offers k → IsFlushed depth keep lane k
  pub refused_units : (k : ℕ) (unit : UnitOf) (count at : ℕ) →
      slice_get lane.offers k ≡ Some (record { unit = unit; answer = Refused count at }) → IsRefused depth keep lane k
  -- a unit after one that the queue still holds was neither taken nor flushed; so it is held too, or was refused
  pub held_last : (j : ℕ) (unit : UnitOf) → position ≤ j → slice_get (queued lane.offers) j ≡ Some unit →
      (k : ℕ) → unit.number < k → (times (taken_units lane.takes) k ≡ 0) × (flushed lane.offers k ≡ 0)
  -- units are taken in the order in which they were offered
  pub in_order : (i j : ℕ) (first second : Taking) → i < j → slice_get lane.takes i ≡ Some first →
      slice_get lane.takes j ≡ Some second → first.unit.number < second.unit.number
