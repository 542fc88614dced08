-- The words of the contract of lanes: what a port may do, what a call did, how old a look may be, and what an answer
-- says where the port is the whole of a queue.
use Rattle.std.specs.Prelude.{◌≡◌, ℕ, ◌+◌, ◌<◌, ◌≤◌, ◌==◌, if◌then◌else◌, Bool, length, Option, Some, None}
use Rattle.if_core.specs.Unit.{UnitOf}
use Rattle.if_core.specs.Lane.{Lane, IsCaused, queued, offered, took, IsQueue}
use Rattle.if_core.specs.declared.lanes.Offer.{Offer}
use Rattle.if_core.specs.declared.lanes.Offer.TheVariants.{Queued, Flushed, Refused}

-- what a port did with the queues, by path
abbrev pub View : Type 0
View = ℕ → Lane

-- what one call did. A take misses where it finds nothing, and where another took or flushed what it found
pub data Event : Type 0 where
  Offered : (path : ℕ) → (unit : UnitOf) → (answer : Offer) → Event
  Took : (path position : ℕ) → (unit : UnitOf) → Event
  Missed : (path : ℕ) → Event

abbrev pub with_lane : ℕ → Lane → View → View
with_lane path lane view other = if other == path then lane else view other

-- what a call adds to the view; a take that misses adds nothing
abbrev pub grow : Event → View → View
grow (Offered path unit answer) view = with_lane path (offered unit answer (view path)) view
grow (Took path position unit) view = with_lane path (took position unit (view path)) view
grow (Missed path) view = view

-- what the answer to a take tells
abbrev pub took_of : (path : ℕ) → Option (ℕ × UnitOf) → Event
took_of path None = Missed path
took_of path (Some answer) = Took path answer.0 answer.1

-- what a port may do, by path, and the queue's depth and kind
pub record Means : Type 0 where
  pub depth : ℕ → ℕ
  -- a full queue refuses, and doesn't flush
  pub keep : ℕ → Bool
  pub offers : ℕ → Bool
  pub takes : ℕ → Bool
  -- it does both by one part, so nobody else does either
  pub whole : ℕ → Bool

-- what no look of a port falls behind, by path
pub record Floors : Type 0 where
  -- the position, for the end that offers
  pub position : ℕ → ℕ
  -- the position, for the end that takes: all below it is gone
  pub gone : ℕ → ℕ
  -- the number of units queued, for the end that takes
  pub count : ℕ → ℕ

-- no floor falls
pub record Rise (old new : Floors) : Type 0 where
  pub position : (path : ℕ) → old.position path ≤ new.position path
  pub gone : (path : ℕ) → old.gone path ≤ new.gone path
  pub count : (path : ℕ) → old.count path ≤ new.count path

-- what the answer to an offer says of the path's queue
abbrev pub Answers : Means → View → (path : ℕ) → Offer → Type 0
Answers means view path answer =
    IsCaused (means.depth path) (means.keep path) (length (queued (view path).offers)) answer

-- an answer where so many units were queued, and the floor of the position. What is flushed or refused for was a whole
-- depth of units, of which none is known to be gone
abbrev pub IsOfferFresh : (floor depth count : ℕ) → Offer → Type 0
IsOfferFresh floor depth count Queued = Unit {0}
IsOfferFresh floor depth count (Flushed from to) = floor + depth ≤ count
IsOfferFresh floor depth count (Refused seen position) = floor ≤ position

-- no call looks behind the floors that stood before it. After a take that missed, nothing that was known to be queued
-- is left
abbrev pub IsFresh : Means → View → (old new : Floors) → Event → Type 0
IsFresh means view old new (Offered path unit answer) =
    IsOfferFresh (old.position path) (means.depth path) (length (queued (view path).offers)) answer
IsFresh means view old new (Took path position unit) = (old.gone path ≤ position) × (new.gone path ≡ position + 1)
IsFresh means view old new (Missed path) = old.count path ≤ new.gone path

-- the answer of a queue at a position: flushed, or refused, exactly where it holds its depth
abbrev pub IsOfferExact : (position depth count : ℕ) → Offer → Type 0
IsOfferExact position depth count Queued = count < position + depth
IsOfferExact position depth count (Flushed from to) = (from ≡ position) × (position + depth ≡ count)
IsOfferExact position depth count (Refused seen at) = (at ≡ position) × (position + depth ≡ count)

-- where a queue's position is after an offer
abbrev pub position_after : Offer → ℕ → ℕ
position_after Queued position = position
position_after (Flushed from to) position = to + 1
position_after (Refused seen at) position = position

-- a call of a port that is the whole of a queue, whose position is the floor: the answer is that of the call's moment
abbrev pub IsExact : Means → View → (old new : Floors) → Event → Type 0
IsExact means view old new (Offered path unit answer) =
    IsOfferExact (old.position path) (means.depth path) (length (queued (view path).offers)) answer
    × (new.position path ≡ position_after answer (old.position path)) × (new.gone path ≡ new.position path)
IsExact means view old new (Took path position unit) =
    (position ≡ old.position path) × (new.position path ≡ position + 1) × (new.gone path ≡ new.position path)
IsExact means view old new (Missed path) =
    (old.position path ≡ length (queued (view path).offers)) × (new.position path ≡ old.position path)
    × (new.gone path ≡ new.position path)

-- where the port is the whole of a path's queue, its records are those of a queue, and its floors the present numbers
pub record IsLane (means : Means) (floors : Floors) (view : View) (path : ℕ) : Type 0 where
  pub queue : IsQueue (means.depth path) (means.keep path) (floors.position path) (view path)
  pub gone : floors.gone path ≡ floors.position path
  pub count : floors.count path ≡ length (queued (view path).offers)
