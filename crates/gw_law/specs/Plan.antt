-- What a configuration fixes of a run: its source channels and its destinations, their buses, the buffers and the ticks.
use Rattle.std.specs.Prelude.{◌≡◌, ℕ, ◌<◌, ◌≤◌, Option, Some, List, length, slice_get}
use Rattle.std.specs.List.{AllByRecursion}
use Rattle.can_frame.specs.declared.id.CanId.{CanId}
use Rattle.tp_receiver.specs.declared.set.RxSet.{RxSet}
use Rattle.tp_sender.specs.declared.set.TxSet.{TxSet}
use Rattle.tp_unit.specs.Shape.{IsShape}
use Rattle.tp_unit.specs.declared.shape.Shape.{Shape}

-- which frames are a channel's: their identifier and, where the channel has one, their address byte
pub record Address : Type 0 where
  pub id : CanId
  pub byte : Option ℕ

-- a source channel: its receiver, the frames that come to it, its flow controls, and its bus
pub record Receiving : Type 0 where
  pub set : RxSet
  pub comes : Address
  pub shape : Shape
  pub bus : ℕ

-- a destination of a path: its sender, the flow controls that come to its channel, and its bus
pub record Sending : Type 0 where
  pub set : TxSet
  pub comes : Address
  pub bus : ℕ

-- how a run is configured: its source channels, the destinations of their paths, the most frames that each bus sends in a tick,
-- the cells of the buffers of each group, the most ticks of a window, and the last tick
pub record Plan : Type 0 where
  pub receivers : List Receiving
  pub senders : List Sending
  pub budget : ℕ → ℕ
  pub groups : List (List ℕ)
  pub window : ℕ
  pub last : ℕ

-- a source channel's flow controls have a lawful shape, its path's group of buffers is there, its limits are of a tick at least, and its
-- bus sends a frame in a tick at least
pub record IsLawfulReceiving (p : Plan) (r : Receiving) : Type 0 where
  pub shape : IsShape r.shape
  pub group : r.set.group.0 < length p.groups
  pub n_ar : 1 ≤ r.set.n_ar
  pub n_br : 1 ≤ r.set.n_br
  pub n_cr : 1 ≤ r.set.n_cr
  pub budget : 1 ≤ p.budget r.bus

-- a destination is one of those of a source channel's path, and has a lawful shape and limits
pub record IsLawfulSending (p : Plan) (s : Sending) : Type 0 where
  pub shape : IsShape s.set.shape
  pub n_as : 1 ≤ s.set.n_as
  pub n_bs : 1 ≤ s.set.n_bs
  pub budget : 1 ≤ p.budget s.bus

-- a path's destination of that number is configured
pub record HasSending (p : Plan) (path dest : ℕ) : Type 0 where
  pub place : ℕ
  pub sending : Sending
  pub there : slice_get p.senders place ≡ Some sending
  pub path_is : sending.set.path.0 ≡ path
  pub dest_is : sending.set.dest.0 ≡ dest

-- each channel is the source of one path at most, each path has all its destinations, each once, and windows have a tick at least
pub record IsLawfulPlan (p : Plan) : Type 0 where
  pub window : 1 ≤ p.window
  pub receivers : AllByRecursion (IsLawfulReceiving p) p.receivers
  pub senders : AllByRecursion (IsLawfulSending p) p.senders
  pub apart : (place other : ℕ) (r another : Receiving) → slice_get p.receivers place ≡ Some r → slice_get p.receivers other ≡ Some another → r.set.path.0 ≡ another.set.path.0 → place ≡ other
  pub each_dest : (place dest : ℕ) (r : Receiving) → slice_get p.receivers place ≡ Some r → dest < r.set.readers → HasSending p r.set.path.0 dest
  pub own_dest : (place other : ℕ) (r : Receiving) (s : Sending) → slice_get p.receivers place ≡ Some r → slice_get p.senders other ≡ Some s → s.set.path.0 ≡ r.set.path.0 → s.set.dest.0 < r.set.readers
