-- What is said of a queue is a fact.
use Rattle.std.specs.Prelude.{ℕ, Bool}
use denote.Struct.Props.{props}
use Rattle.if_core.specs.Lane.{Lane, IsCaused, IsQueue}
use Rattle.if_core.specs.declared.lanes.Offer.{Offer}
use Rattle.if_core.specs.declared.lanes.Offer.TheVariants.{Queued, Flushed, Refused}

IsCaused-prop : (depth : ℕ) (keep : Bool) (count : ℕ) (answer : Offer) → IsProp (IsCaused depth keep count answer)
IsCaused-prop depth keep count Queued = hlevel props
IsCaused-prop depth keep count (Flushed from to) = hlevel props
IsCaused-prop depth keep count (Refused seen position) = hlevel props

pub IsQueue-prop : (depth : ℕ) (keep : Bool) (position : ℕ) (lane : Lane) → IsProp (IsQueue depth keep position lane)
IsQueue-prop depth keep position lane = hlevel (props, IsCaused-prop)
