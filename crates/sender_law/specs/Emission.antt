-- What leaves on a destination's channel in each tick, and whose its records are.
use Rattle.std.specs.Prelude.{◌≡◌, ℕ, ◌+◌, ◌≤◌, Some, length, slice_get}
use Rattle.std.specs.List.{AllByRecursion}
use Rattle.hub_core.specs.declared.record.DestRecord.{DestRecord}
use Rattle.tp_unit.specs.Box.{NeverFall, Written, left_in}
use Rattle.sender_law.specs.Channel.{DestChannel, WritesData}

-- data frames leave in the order of their ticks, at most one in each tick, and none after the last one
pub record DataEmission (c : DestChannel) : Type 0 where
  pub order : NeverFall 0 c.frames
  pub once : (tick : ℕ) → length (left_in tick c.frames) ≤ 1
  pub end : AllByRecursion (λ (w : Written). w.tick ≤ c.last) c.frames
  pub are_data : AllByRecursion (WritesData c.tx.shape) c.frames

-- a record of the channel's destination, which ends by the last tick
pub record IsOfDestination (c : DestChannel) (told : DestRecord) : Type 0 where
  pub path : told.path ≡ c.tx.path
  pub dest : told.dest ≡ c.tx.dest
  pub end : told.end.0 ≤ c.last

-- the records are the destination's own, and none begins before the one before it ended
pub record DestRecords (c : DestChannel) : Type 0 where
  pub own : AllByRecursion (IsOfDestination c) c.dests
  pub follow : (place : ℕ) (told next : DestRecord) → slice_get c.dests place ≡ Some told → slice_get c.dests (place + 1) ≡ Some next → told.end.0 ≤ next.begin.0
