-- A frame that comes to a bus in a tick: to which channel, and who of its machines is told of what.
use Rattle.std.specs.Prelude.{◌≡◌, ◌+◌, ◌*◌, ◌≤◌, ℕ, true, false, Option, None, Some, List, [], ◌∷◌, ◌++◌, length, map, slice_get, All}
use Rattle.can_frame.specs.Frame.{CanFrame}
use Rattle.hub_core.specs.Stays.{PortState}
use Rattle.hub_core.specs.Turns.{came_by}
use Rattle.tp_receiver.specs.Runs.{frames_in}
use Rattle.tp_receiver.specs.State.{Came}
use Rattle.tp_sender.specs.Runs.{clear_from}
use Rattle.tp_sender.specs.declared.event.TxEvent.{TxEvent}
use Rattle.tp_sender.specs.declared.event.TxEvent.TheVariants.{Fc}
use Rattle.tp_unit.specs.Reading.{unit_of}
use Rattle.tp_unit.specs.Unit.{Meaning, SingleFrame, FirstFrame, ConsecutiveFrame, FlowControl, NoUnit}
use Rattle.gw_law.specs.Channels.{InTick, bytes_of_address, is_addressed}
use Rattle.bus_worker.specs.Acts.{Act, received_at, sent_at}
use Rattle.bus_worker.specs.Comes.{address_of}
use Rattle.bus_worker.specs.Phases.{IsReceived, IsSent, Rests, Works}
use Rattle.bus_worker.specs.declared.channel.Channel.{Channel}
use Rattle.bus_worker.specs.declared.comes.Comes.{Comes}
use Rattle.bus_worker.specs.declared.worker.Worker.{Worker}

-- the frame comes to the channel at that place
pub record ComesTo (routes : List Comes) (frame : CanFrame) (place : ℕ) : Type 0 where
  pub comes : Comes
  pub there : slice_get routes place ≡ Some comes
  pub is : is_addressed (address_of comes) frame ≡ true

-- it comes to no channel
abbrev pub ComesToNone : List Comes → CanFrame → Type 0
ComesToNone routes frame = All (λ (comes : Comes). is_addressed (address_of comes) frame ≡ false) routes

-- what a sender is told of a unit that comes to its channel: of a flow control, and of nothing else
abbrev pub IsAnswer : Meaning → Option TxEvent → Type 0
IsAnswer (SingleFrame bytes) event = event ≡ None
IsAnswer (FirstFrame len bytes) event = event ≡ None
IsAnswer (ConsecutiveFrame number bytes) event = event ≡ None
IsAnswer (FlowControl status block_size separation) event = event ≡ Some (Fc status block_size separation)
IsAnswer (NoUnit why) event = event ≡ None

-- so many frames can come in a tick: no frame of a sender left in it, and each frame has a take, nine cells and a number
pub record HearsBy {Home : Type 0} (tick count : ℕ) (w : Worker) (port : PortState Home) : Type 0 where
  pub since : ℕ
  pub acts : List Act
  pub by : since ≤ tick
  pub at : Rests since acts w port
  pub clear : (place : ℕ) → clear_from (sent_at place acts) ≤ tick
  pub few : (place : ℕ) → length (came_by frames_in (received_at place acts)) + count ≤ 1000000
  pub takes : count ≤ port.means.takes
  pub spare : 9 * count ≤ port.means.spare

-- a unit came to a channel in a frame of so many bytes: its receiver was told
abbrev pub IsFrameHeard : (tick place size : ℕ) → Meaning → List Channel → List Act → Type 0
IsFrameHeard tick place size meaning channels done = IsReceived tick (Came size meaning) place channels done

-- its sender was told, where the unit is a flow control
abbrev pub IsAnswerHeard : (tick place : ℕ) → Meaning → List Channel → List Act → Type 0
IsAnswerHeard tick place (SingleFrame bytes) channels done = done ≡ []
IsAnswerHeard tick place (FirstFrame len bytes) channels done = done ≡ []
IsAnswerHeard tick place (ConsecutiveFrame number bytes) channels done = done ≡ []
IsAnswerHeard tick place (FlowControl status block_size separation) channels done = IsSent tick (Fc status block_size separation) place channels done
IsAnswerHeard tick place (NoUnit why) channels done = done ≡ []

-- what is heard of a frame: at the channel that it comes to the receiver is told of its unit, and then the sender of a flow control
pub data IsHeard (tick : ℕ) (routes : List Comes) (channels : List Channel) (frame : CanFrame) (done : List Act) : Type 0 where
  Nowhere : ComesToNone routes frame → done ≡ [] → IsHeard tick routes channels frame done
  Somewhere : (place : ℕ) → (to : ComesTo routes frame place) → (frames answers : List Act) → done ≡ answers ++ frames →
      IsFrameHeard tick place (length frame.bytes) (unit_of (bytes_of_address to.comes.byte) frame) channels frames →
      IsAnswerHeard tick place (unit_of (bytes_of_address to.comes.byte) frame) channels answers → IsHeard tick routes channels frame done

-- whatever was done before, as long as no frame of a sender left in the tick
abbrev pub HearsAfter : {Home : Type 0} → (tick takes spare : ℕ) → (List Act → Type 0) → (v w : Worker) → (old new : PortState Home) → Type 0
HearsAfter tick takes spare Are v w old new = (since : ℕ) (acts : List Act) → since ≤ tick → Rests since acts v old → ((place : ℕ) → clear_from (sent_at place acts) ≤ tick) → Works tick takes spare Are acts v w old new

abbrev pub Hears : {Home : Type 0} → (tick : ℕ) → CanFrame → (v w : Worker) → (old new : PortState Home) → Type 0
Hears tick frame v w old new = HearsAfter tick 1 9 (IsHeard tick v.routes.items v.channels.items frame) v w old new

-- the frames alone
abbrev pub frames_of : List InTick → List CanFrame
frames_of frames = map (λ (f : InTick). f.frame) frames

-- so are several frames, one after another; the acts stand newest first
abbrev pub AreHeard : (tick : ℕ) → List Comes → List Channel → List CanFrame → List Act → Type 0
AreHeard tick routes channels [] done = done ≡ []
AreHeard tick routes channels (frame ∷ later) done = (first : List Act) × (rest : List Act) × (done ≡ rest ++ first) × IsHeard tick routes channels frame first × AreHeard tick routes channels later rest

abbrev pub HearsAll : {Home : Type 0} → (tick : ℕ) → List CanFrame → (v w : Worker) → (old new : PortState Home) → Type 0
HearsAll tick frames v w old new = HearsAfter tick (length frames) (9 * length frames) (AreHeard tick v.routes.items v.channels.items frames) v w old new
