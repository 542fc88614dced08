-- What was done with one path's queue, and the law of both its ends.
use Rattle.std.specs.Prelude.{◌≡◌, ℕ, ◌+◌, ◌<◌, ◌≤◌, nat_lt, if◌then◌else◌, Bool, true, false, List, [], ◌∷◌, ◌++◌, length, take, slice_get, Some}
use Rattle.if_core.specs.Unit.{UnitOf}
use Rattle.if_core.specs.declared.lanes.Offer.{Offer}
use Rattle.if_core.specs.declared.lanes.Offer.TheVariants.{Queued, Flushed, Refused}
use Rattle.if_core.specs.declared.history.Offering.{Offering}
use Rattle.if_core.specs.declared.history.Taking.{Taking}

-- the units that a port offered to the queue with their answers, and those that it took with their positions, in order
pub record Lane : Type 0 where
  pub offers : List Offering
  pub takes : List Taking

abbrev pub empty_lane : Lane
empty_lane = record { offers = []; takes = [] }

-- what an offer and a take add
abbrev pub offered : UnitOf → Offer → Lane → Lane
offered unit answer lane = record lane { offers = lane.offers ++ record { unit = unit; answer = answer } ∷ [] }

abbrev pub took : ℕ → UnitOf → Lane → Lane
took position unit lane = record lane { takes = lane.takes ++ record { position = position; unit = unit } ∷ [] }

-- an answer queues its unit, or refuses it
abbrev pub queued_by : UnitOf → Offer → List UnitOf
queued_by unit Queued = unit ∷ []
queued_by unit (Flushed from to) = unit ∷ []
queued_by unit (Refused count position) = []

abbrev pub refused_by : UnitOf → Offer → List UnitOf
refused_by unit Queued = []
refused_by unit (Flushed from to) = []
refused_by unit (Refused count position) = unit ∷ []

-- the units that were queued, in order; a unit's place in this list is its position
abbrev pub queued : List Offering → List UnitOf
queued [] = []
queued (offer ∷ offers) = queued_by offer.unit offer.answer ++ queued offers

-- the units that were refused, in order
abbrev pub refused : List Offering → List UnitOf
refused [] = []
refused (offer ∷ offers) = refused_by offer.unit offer.answer ++ refused offers

-- 1 from a number up to, not including, another, else 0
abbrev pub within : (from end j : ℕ) → ℕ
within from end j = if nat_lt j from then 0 else (if nat_lt j end then 1 else 0)

abbrev pub flushed_by : Offer → ℕ → ℕ
flushed_by Queued j = 0
flushed_by (Flushed from to) j = within from (to + 1) j
flushed_by (Refused count position) j = 0

-- how often a position was flushed
abbrev pub flushed : List Offering → ℕ → ℕ
flushed [] j = 0
flushed (offer ∷ offers) j = flushed_by offer.answer j + flushed offers j

-- how often a position was taken
abbrev pub taken : List Taking → ℕ → ℕ
taken [] j = 0
taken (taking ∷ takes) j = within taking.position (taking.position + 1) j + taken takes j

-- what the answer to an offer says, where so many units were queued before it. A flush ends with the last one queued,
-- takes at most the depth away, and comes only after a depth of units; of a refusal the queue held its depth
abbrev pub IsCaused : (depth : ℕ) → (keep : Bool) → (count : ℕ) → Offer → Type 0
IsCaused depth keep count Queued = Unit {0}
IsCaused depth keep count (Flushed from to) =
    (keep ≡ false) × (from ≤ to) × (to + 1 ≡ count) × (count ≤ from + depth) × (depth ≤ count)
IsCaused depth keep count (Refused seen position) = (keep ≡ true) × (seen ≡ count) × (position + depth ≡ count)

-- the law of both ends of a queue whose next unit has a position: each position below is taken or flushed, once, and
-- none from there on
pub record IsQueue (depth : ℕ) (keep : Bool) (position : ℕ) (lane : Lane) : Type 0 where
  pub below : position ≤ length (queued lane.offers)
  pub few : length (queued lane.offers) ≤ position + depth
  pub gone : (j : ℕ) → j < position → taken lane.takes j + flushed lane.offers j ≡ 1
  pub left : (j : ℕ) → position ≤ j → taken lane.takes j + flushed lane.offers j ≡ 0
  -- units are numbered as they are offered, refused ones too
  pub numbers : (k : ℕ) (offer : Offering) → slice_get lane.offers k ≡ Some offer → offer.unit.number ≡ k
  pub caused : (k : ℕ) (offer : Offering) → slice_get lane.offers k ≡ Some offer →
      IsCaused depth keep (length (queued (take k lane.offers))) offer.answer
  -- a unit that is taken is the one that was queued at its position, and they are taken in order
  pub units : (at : ℕ) (taking : Taking) → slice_get lane.takes at ≡ Some taking →
      slice_get (queued lane.offers) taking.position ≡ Some taking.unit
  pub rising : (i j : ℕ) (first second : Taking) → i < j → slice_get lane.takes i ≡ Some first →
      slice_get lane.takes j ≡ Some second → first.position < second.position
