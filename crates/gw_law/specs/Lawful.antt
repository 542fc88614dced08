-- The laws of a run: what its configuration, its logs, its outputs and its report say together.
use Rattle.std.specs.Prelude.{◌≡◌, ℕ, Bool, Some, slice_get}
use Rattle.std.specs.List.{AllByRecursion}
use Rattle.receiver_law.specs.ReceptionCauses.{ReceptionLaw}
use Rattle.receiver_law.specs.Source.{SourceLaw}
use Rattle.sender_law.specs.Emission.{DataEmission, DestRecords}
use Rattle.sender_law.specs.TransmissionCauses.{TransmissionCauses}
use Rattle.gw_law.specs.Account.{Account, Route, dest_in, is_full_for, route_in, source_in}
use Rattle.gw_law.specs.Delivery.{AreOfEach, DeliveryLaw}
use Rattle.gw_law.specs.Emission.{BusLaw, ControlEmission, NoOthers, WrittenLaw}
use Rattle.gw_law.specs.JointCauses.{JointCauses}
use Rattle.gw_law.specs.Plan.{Receiving, Sending}
use Rattle.gw_law.specs.PoolOfAccount.{PoolOf}
use Rattle.gw_law.specs.Readers.{ReaderLaw}
use Rattle.gw_law.specs.Records.{SessionRecords}
use Rattle.gw_law.specs.Rooms.{RoomLaw}
use Rattle.gw_law.specs.Timely.{TimelyLaw, delivery_of_route}

-- the bus of a source channel has no place for its flow control in a tick
abbrev pub is_full_at : Account → Receiving → ℕ → Bool
is_full_at a r tick = is_full_for (a.plan.budget r.bus) (a.left r.bus) r.shape.id tick

-- the bus of a destination has no place for its data frame in a tick
abbrev pub is_full_of : Account → Sending → ℕ → Bool
is_full_of a s tick = is_full_for (a.plan.budget s.bus) (a.left s.bus) s.set.shape.id tick

-- a source channel, over the frames that came to it, its flow controls that left, and its records
pub record IsLawfulSource (a : Account) (r : Receiving) : Type 0 where
  -- the records are those of the channel's attempts, one for each, in order
  pub source : SourceLaw r.set.chan.0 r.set.a r.set.functional (source_in a r).seen (source_in a r).sessions
  -- whose they are, that they lie within the run, and that one follows another
  pub records : SessionRecords (source_in a r)
  -- at most one flow control leaves in a tick
  pub emission : ControlEmission (source_in a r)
  -- the flow controls are those of its receptions: which ones leave, and where one that is owed doesn't, its bus was full; each record
  -- comes of its cause, and no earlier one is passed over
  pub receptions : ReceptionLaw (is_full_at a r) (source_in a r)
  -- a record that tells of too little room tells what room its buffer had, by what was put there
  pub rooms : RoomLaw a.plan.groups (source_in a r)
  -- its consecutive frames are put while a destination of the path reads
  pub readers : ReaderLaw a (source_in a r)

-- a destination of a path, over the flow controls that came to its channel, the data frames that left, and its records
pub record IsLawfulDest (a : Account) (s : Sending) : Type 0 where
  pub records : DestRecords (dest_in a s)
  pub emission : DataEmission (dest_in a s)
  -- each record comes of its cause, and no earlier one is passed over; a data frame waits for its bus only while that has no place for it
  pub transmissions : TransmissionCauses (is_full_of a s) (dest_in a s)

-- a path from its source channel to one of its destinations
pub record IsLawfulRoute (r : Route) : Type 0 where
  -- the destination's transmissions reassemble, in source order, to the first bytes, as many as its records tell, of the source
  -- units that the records name
  pub delivery : DeliveryLaw (delivery_of_route r)
  -- each opened session has one record of the destination, and there are no others
  pub each : AreOfEach r.source.sessions r.leg.dests
  -- nothing leaves before its bytes came, and each frame is a counted one of a transmission
  pub timely : TimelyLaw r
  -- records whose end the other party's part decides come of their causes
  pub joint : JointCauses r

-- what is told of a run keeps all laws
pub record Lawful (a : Account) : Type 0 where
  pub sources : AllByRecursion (IsLawfulSource a) a.plan.receivers
  pub dests : AllByRecursion (IsLawfulDest a) a.plan.senders
  pub routes : (place other : ℕ) (r : Receiving) (s : Sending) → slice_get a.plan.receivers place ≡ Some r → slice_get a.plan.senders other ≡ Some s → s.set.path.0 ≡ r.set.path.0 → IsLawfulRoute (route_in a r s)
  -- no record is of another channel or destination
  pub no_others : NoOthers a
  -- the moves of the pool replay, and at the end each buffer is free
  pub pool : PoolOf a
  -- what each bus sends in a tick, and that each frame is what its channel's shape makes of a unit
  pub buses : (bus : ℕ) → BusLaw a bus
  pub written : (bus : ℕ) → WrittenLaw a bus
