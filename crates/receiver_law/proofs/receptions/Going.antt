-- A reception in progress: what its flow controls asked for, and what it waits for.
use Rattle.std.proofs.Common.{◌≡◌, ℕ, ◌+◌, ◌<◌, ◌≤◌, suc, zero, Bool, Option, Some, None, List, ◌∷◌, ◌++◌, length, max}
use Rattle.std.specs.List.{AllByRecursion}
use Rattle.hub_core.specs.declared.record.RxWait.{RxWait}
use Rattle.hub_core.specs.declared.record.RxWait.TheVariants.{Box, Room, Cf}
use Rattle.tp_attempts.specs.Cuts.{Cut}
use Rattle.tp_attempts.specs.Seen.{Seen}
use Rattle.tp_attempts.specs.Walk.{Piece, last_place, walk_of}
use Rattle.tp_receiver.specs.State.{Reception}
use Rattle.tp_receiver.specs.declared.set.RxSet.{RxSet}
use Rattle.tp_unit.specs.Unit.{Meaning}
use Rattle.receiver_law.specs.FlowControls.{AreAnswers, IsFullFrom, IsOfSession, MayFollow}
use Rattle.receiver_law.specs.ReceptionCauses.{IsAskedIn}
use Rattle.receiver_law.specs.Receptions.{ControlKind, Continue, ControlLeft, Refuse, Wait, control_of, waits_in}
use Rattle.receiver_law.proofs.receptions.Counting.{ComeBy, ComeFrom}

-- of a block of so many frames, granted in one tick, some are still to come: those that were put since then came in it or later, and those
-- before it by another tick
pub record IsBlockOn (from by block : ℕ) (left : Option ℕ) (frames : List Piece) : Type 0 where
  pub rest : ℕ
  pub left_is : left ≡ Some rest
  pub some : 0 < rest
  pub before : List Piece
  pub after : List Piece
  pub are : frames ≡ before ++ after
  pub early : ComeBy by before
  pub late : ComeFrom from after
  pub sum : rest + length after ≡ block

-- what a flow control that was put into the box in a tick lets come yet
abbrev pub LetsYet : (from by : ℕ) → ControlKind → (left : Option ℕ) → (waits : ℕ) → List Piece → Type 0
LetsYet from by (Continue zero) left waits frames = (left ≡ None) × (waits ≡ 0)
LetsYet from by (Continue (suc block)) left waits frames = IsBlockOn from by (suc block) left frames × (waits ≡ 0)
LetsYet from by Wait left waits frames = left ≡ Some 0
LetsYet from by Refuse left waits frames = ⊥

-- how many waits follow one another with the one in the box
abbrev pub WaitsSo : ControlKind → (waits now : ℕ) → Type 0
WaitsSo (Continue block) waits now = Unit {0}
WaitsSo Wait waits now = (now ≤ waits) × (waits ≤ now + 1)
WaitsSo Refuse waits now = Unit {0}

-- its flow control lies in the box; its bus was full since then
pub record IsBoxed (full : ℕ → Bool) (set : RxSet) (tick due : ℕ) (lies : Option Meaning) (busy : Reception) (frames : List Piece) (controls : List ControlLeft) : Type 0 where
  pub kind : ControlKind
  pub lies_is : lies ≡ Some (control_of set kind)
  pub of : IsOfSession set kind
  pub lets : LetsYet busy.since busy.since kind busy.left busy.waits frames
  pub kept : IsFullFrom full busy.since tick
  pub from : busy.begin ≤ busy.since
  pub by : busy.since ≤ tick
  pub early : AllByRecursion (λ (control : ControlLeft). control.tick < busy.since) controls
  pub may : MayFollow full set frames controls busy.since
  pub waits : WaitsSo kind busy.waits (waits_in tick frames controls)
  pub in_time : due ≤ busy.since + set.n_ar

-- a consecutive frame is awaited, which the newest flow control lets come
pub record IsForFrame (full : ℕ → Bool) (set : RxSet) (tick due : ℕ) (lies : Option Meaning) (busy : Reception) (start : Piece) (frames : List Piece) (controls : List ControlLeft) : Type 0 where
  pub left : ℕ
  pub block : ℕ
  pub earlier : List ControlLeft
  pub newest : controls ≡ record { tick = left; kind = Continue block } ∷ earlier
  pub from : ℕ
  pub from_by : from ≤ left
  pub kept : IsFullFrom full from left
  pub lets : LetsYet from left (Continue block) busy.left busy.waits frames
  pub lies_is : lies ≡ None
  pub since_is : busy.since ≡ max left (last_place start.at frames)
  pub up_to : ComeBy busy.since frames
  pub in_time : due ≤ busy.since + set.n_cr

-- room is awaited, since the newest flow control left that asked to wait
pub record IsForRoom (set : RxSet) (tick due : ℕ) (lies : Option Meaning) (busy : Reception) (frames : List Piece) (controls : List ControlLeft) : Type 0 where
  pub earlier : List ControlLeft
  pub newest : controls ≡ record { tick = busy.since; kind = Wait } ∷ earlier
  pub left_is : busy.left ≡ Some 0
  pub few : waits_in tick frames controls ≤ busy.waits + 1
  pub many : busy.waits ≤ waits_in tick frames controls
  pub lies_is : lies ≡ None
  pub in_time : due ≤ busy.since + set.n_br

abbrev pub WaitsFor : (full : ℕ → Bool) → RxSet → (tick due : ℕ) → Option Meaning → Reception → Piece → List Piece → List ControlLeft → RxWait → Type 0
WaitsFor full set tick due lies busy start frames controls Box = IsBoxed full set tick due lies busy frames controls
WaitsFor full set tick due lies busy start frames controls Room = IsForRoom set tick due lies busy frames controls
WaitsFor full set tick due lies busy start frames controls Cf = IsForFrame full set tick due lies busy start frames controls

-- what is so of a reception whatever it waits for: its attempt's frames, and its flow controls that left below a tick
pub record IsUnder (full : ℕ → Bool) (set : RxSet) (tick : ℕ) (busy : Reception) (attempt : Cut Seen) (start : Piece) (frames : List Piece) (controls : List ControlLeft) : Type 0 where
  pub pieces : (walk_of set.a attempt).pieces ≡ start ∷ frames
  pub begin : start.at ≡ busy.begin
  pub by : busy.begin ≤ tick
  pub early : ComeBy tick frames
  pub answers : AreAnswers full set frames busy.begin tick controls
  pub waits : busy.waits ≤ set.wft_max

-- a reception in progress, in a tick; what it waits for is due in that tick or later, or only after it
pub record IsGoing (full : ℕ → Bool) (set : RxSet) (tick due : ℕ) (lies : Option Meaning) (busy : Reception) (attempt : Cut Seen) (controls : List ControlLeft) : Type 0 where
  pub start : Piece
  pub frames : List Piece
  pub under : IsUnder full set tick busy attempt start frames controls
  pub waits_for : WaitsFor full set tick due lies busy start frames controls busy.wait

-- a reception of which a flow control is asked for in a tick
pub record IsAsking (full : ℕ → Bool) (set : RxSet) (tick : ℕ) (busy : Reception) (attempt : Cut Seen) (controls : List ControlLeft) : Type 0 where
  pub start : Piece
  pub frames : List Piece
  pub under : IsUnder full set tick busy attempt start frames controls
  pub may : MayFollow full set frames controls tick
  pub few : waits_in tick frames controls ≤ busy.waits + 1
  pub many : busy.waits ≤ waits_in tick frames controls
  pub asked : IsAskedIn set (start ∷ frames) busy.begin tick controls
