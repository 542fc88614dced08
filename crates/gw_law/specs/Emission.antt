-- What the buses of a run send in each tick, and in which order.
use Rattle.std.specs.Prelude.{◌≡◌, ◌⊎◌, ℕ, ◌≤◌, ◌&&◌, true, false, List, [], ◌∷◌, length}
use Rattle.std.specs.List.{AllByRecursion}
use Rattle.can_frame.specs.Priority.{priority_of}
use Rattle.hub_core.specs.declared.record.DestRecord.{DestRecord}
use Rattle.hub_core.specs.declared.record.SessionRecord.{SessionRecord}
use Rattle.receiver_law.specs.Channel.{SourceChannel, WritesControl}
use Rattle.sender_law.specs.Channel.{WritesData}
use Rattle.tp_attempts.specs.Seen.{is_data}
use Rattle.tp_unit.specs.Box.{NeverFall, Written, left_in}
use Rattle.tp_unit.specs.Reading.{unit_of}
use Rattle.tp_unit.specs.Shape.{address_size}
use Rattle.gw_law.specs.Account.{Account}
use Rattle.gw_law.specs.Channels.{address_in, is_addressed, is_control}
use Rattle.gw_law.specs.Deeds.{StandsIn}
use Rattle.gw_law.specs.Plan.{Receiving, Sending}

-- a source channel's flow controls leave in the order of their ticks, at most one in each tick, and none after the last one
pub record ControlEmission (c : SourceChannel) : Type 0 where
  pub order : NeverFall 0 c.controls
  pub once : (tick : ℕ) → length (left_in tick c.controls) ≤ 1
  pub end : AllByRecursion (λ (w : Written). w.tick ≤ c.last) c.controls
  pub are_controls : AllByRecursion (WritesControl c.rx c.shape) c.controls

-- in one tick no frame leaves after one of a lower priority
abbrev pub AreByPriority : List Written → Type 0
AreByPriority [] = Unit {0}
AreByPriority (w ∷ []) = Unit {0}
AreByPriority (w ∷ next ∷ later) = (w.tick ≡ next.tick → priority_of w.frame.id ≤ priority_of next.frame.id) × AreByPriority (next ∷ later)

-- a frame is a flow control of a source channel on the bus, and a data frame of a destination's channel on it
abbrev pub IsControlOn : Account → (bus : ℕ) → Written → Type 0
IsControlOn a bus w = (r : Receiving) × StandsIn a.plan.receivers r × (r.bus ≡ bus) × ((is_addressed (address_in r.shape) w.frame && is_control (unit_of (address_size r.shape) w.frame)) ≡ true)

abbrev pub IsDataOn : Account → (bus : ℕ) → Written → Type 0
IsDataOn a bus w = (s : Sending) × StandsIn a.plan.senders s × (s.bus ≡ bus) × ((is_addressed (address_in s.set.shape) w.frame && is_data (unit_of (address_size s.set.shape) w.frame)) ≡ true)

-- a bus sends in the order of its ticks, in each of them no more frames than its budget, by priority, and frames of its channels alone
pub record BusLaw (a : Account) (bus : ℕ) : Type 0 where
  pub order : NeverFall 0 (a.left bus)
  pub most : (tick : ℕ) → length (left_in tick (a.left bus)) ≤ a.plan.budget bus
  pub end : AllByRecursion (λ (w : Written). w.tick ≤ a.plan.last) (a.left bus)
  pub by_priority : AreByPriority (a.left bus)
  pub own : AllByRecursion (λ (w : Written). IsControlOn a bus w ⊎ IsDataOn a bus w) (a.left bus)

-- a frame is a flow control of a source channel on the bus, or a data frame of a destination's channel on it, and is what the
-- channel's shape makes of a unit: the identifier, the kind, the bit rate, the address byte, the length and the filling are the shape's
abbrev pub WritesControlOn : Account → (bus : ℕ) → Written → Type 0
WritesControlOn a bus w = (r : Receiving) × StandsIn a.plan.receivers r × (r.bus ≡ bus) × WritesControl r.set r.shape w

abbrev pub WritesDataOn : Account → (bus : ℕ) → Written → Type 0
WritesDataOn a bus w = (s : Sending) × StandsIn a.plan.senders s × (s.bus ≡ bus) × WritesData s.set.shape w

-- no channel on the bus has FD frames
pub record IsClassicBus (a : Account) (bus : ℕ) : Type 0 where
  pub receivers : AllByRecursion (λ (r : Receiving). r.bus ≡ bus → r.shape.fd ≡ false) a.plan.receivers
  pub senders : AllByRecursion (λ (s : Sending). s.bus ≡ bus → s.set.shape.fd ≡ false) a.plan.senders

-- each frame that a bus sends is written so, and none is an FD frame where no channel of the bus has those
pub record WrittenLaw (a : Account) (bus : ℕ) : Type 0 where
  pub by_shape : AllByRecursion (λ (w : Written). WritesControlOn a bus w ⊎ WritesDataOn a bus w) (a.left bus)
  pub classic : IsClassicBus a bus → AllByRecursion (λ (w : Written). w.frame.fd ≡ false) (a.left bus)

-- each record is one of a configured source channel, or of a configured destination
abbrev pub IsOfReceiving : Account → SessionRecord → Type 0
IsOfReceiving a told = (r : Receiving) × StandsIn a.plan.receivers r × (told.chan ≡ r.set.chan)

abbrev pub IsOfSending : Account → DestRecord → Type 0
IsOfSending a told = (s : Sending) × StandsIn a.plan.senders s × (told.path ≡ s.set.path) × (told.dest ≡ s.set.dest)

pub record NoOthers (a : Account) : Type 0 where
  pub sessions : AllByRecursion (IsOfReceiving a) a.sessions
  pub dests : AllByRecursion (IsOfSending a) a.dests
