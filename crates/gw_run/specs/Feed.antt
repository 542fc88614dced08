-- The frames of a log that are still to come.
use Rattle.std.specs.Prelude.{◌≡◌, ◌≤◌, ◌<◌, ℕ, List, [], ◌∷◌, Option, None, Some}
use Rattle.can_frame.specs.Frame.{CanFrame}
use Rattle.gw_law.specs.Channels.{InTick}

-- the tick of the first of the frames
abbrev pub first_tick : List InTick → Option ℕ
first_tick [] = None
first_tick (first ∷ later) = Some first.tick

-- none of the frames comes by that tick, if the first doesn't
abbrev pub ComeAfter : ℕ → List InTick → Type 0
ComeAfter tick [] = Unit {0}
ComeAfter tick (first ∷ later) = tick < first.tick

-- the frame is the first of those that were to come, and came by that tick
pub record TakesFirst (tick : ℕ) (old new : List InTick) (frame : CanFrame) : Type 0 where
  pub at : ℕ
  pub came : at ≤ tick
  pub first : old ≡ record { tick = at; frame = frame } ∷ new

-- the frames come in the order of their ticks, from the least to the most
abbrev pub ComeWithin : (least most : ℕ) → List InTick → Type 0
ComeWithin least most [] = Unit {0}
ComeWithin least most (first ∷ later) = (least ≤ first.tick) × (first.tick ≤ most) × ComeWithin first.tick most later
