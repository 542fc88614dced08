-- What every step of a receiver keeps to, whatever its row: its calls and records are its own, and it offers its own flow controls.
use Rattle.std.specs.Prelude.{◌≡◌, ℕ, ◌<◌, ◌≤◌}
use Rattle.std.specs.List.{AllByRecursion}
use Rattle.flow_plan.specs.Grant.{most_of}
use Rattle.hub_core.specs.View.{Event, Took, Refused, Entered, Asked, Put, Published, Joining, Missed, Saw, Read, Closed, Parted}
use Rattle.hub_core.specs.declared.record.SessionRecord.{SessionRecord}
use Rattle.tp_receiver.specs.Grant.{ask_to_wait, continue_to_send, overflow}
use Rattle.tp_receiver.specs.State.{RxDid}
use Rattle.tp_receiver.specs.declared.set.RxSet.{RxSet}
use Rattle.tp_unit.specs.Unit.{BoxMeaning, Keeps, Offers, Revokes, Meaning}

-- a call of a path's writer, or its use of its group's buffers
abbrev pub OfWriter : (path group : ℕ) → Event → Type 0
OfWriter path its (Took group number buf size need) = group ≡ its
OfWriter path its (Refused group number free need) = group ≡ its
OfWriter path its (Entered p seq buf number size len readers) = p ≡ path
OfWriter path its (Asked p seq cells readers) = p ≡ path
OfWriter path its (Put p seq cell) = p ≡ path
OfWriter path its (Published p seq bytes) = p ≡ path
OfWriter path its (Joining p dest seq buf len) = ⊥
OfWriter path its (Missed group p dest seq) = ⊥
OfWriter path its (Saw p dest seq cells bytes writer) = ⊥
OfWriter path its (Read p dest seq cell) = ⊥
OfWriter path its (Closed p seq freed) = p ≡ path
OfWriter path its (Parted p dest seq freed) = ⊥

-- a block size that is configured: one frame at least and no more than the limit, or any where none is set
pub record IsBlock (set : RxSet) (frames : ℕ) : Type 0 where
  pub most : frames ≤ most_of set.bs
  pub some : 0 < set.bs → 1 ≤ frames

-- one of the flow controls that a receiver sends
pub data IsControl (set : RxSet) (meaning : Meaning) : Type 0 where
  Continues : (frames : ℕ) → IsBlock set frames → meaning ≡ continue_to_send set frames → IsControl set meaning
  AsksToWait : meaning ≡ ask_to_wait → IsControl set meaning
  TellsOverflow : meaning ≡ overflow → IsControl set meaning

-- an act offers no other
abbrev pub IsControlAct : RxSet → BoxMeaning → Type 0
IsControlAct set Keeps = Unit {0}
IsControlAct set (Offers meaning) = IsControl set meaning
IsControlAct set Revokes = Unit {0}

-- a record is of the receiver's channel, and its end is the tick of the step that made it
abbrev pub IsMadeNow : RxSet → ℕ → SessionRecord → Type 0
IsMadeNow set tick told = (told.chan ≡ set.chan) × (told.end.0 ≡ tick)

-- whatever a step does: its calls are the path's writer's own, over its group's buffers, its records are its channel's and end in its tick, and it offers its own flow controls alone
pub record IsOwnStep (set : RxSet) (m : RxDid) : Type 0 where
  pub writes : AllByRecursion (OfWriter set.path.0 set.group.0) m.calls
  pub ends : AllByRecursion (IsMadeNow set m.tick) m.records
  pub control : IsControlAct set m.act
