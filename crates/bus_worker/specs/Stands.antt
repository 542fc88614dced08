-- The machines of a bus after what they did: what each is at, what lies in the boxes, and what the port knows of them.
use Rattle.std.specs.Prelude.{◌≡◌, ℕ, ◌+◌, ◌*◌, ◌≤◌, true, Option, None, Some, List, length, slice_get, option_and_then, option_map}
use Rattle.can_frame.specs.Frame.{CanFrame}
use Rattle.hub_core.specs.Calls.{Means}
use Rattle.hub_core.specs.Turns.{calls_by, came_by, now_of, records_by, state_after}
use Rattle.hub_core.specs.View.{View}
use Rattle.tp_receiver.specs.Port.{ActsFor, Knows}
use Rattle.tp_receiver.specs.Runs.{HasReceived, control_after, frames_in}
use Rattle.tp_receiver.specs.State.{RxTurn, WaitsBy, rx_new, state_of as receiver_state}
use Rattle.tp_sender.specs.Port.{ActsForSet, Knows as KnowsPort}
use Rattle.tp_sender.specs.Runs.{HasSent, box_after}
use Rattle.tp_sender.specs.State.{HasFrame, TxTurn, set_of, since_of, state_of as sender_state, tx_new}
use Rattle.tp_receiver.specs.declared.set.RxSet.{RxSet}
use Rattle.tp_sender.specs.declared.set.TxSet.{TxSet}
use Rattle.tp_unit.specs.Shape.{fits_shape}
use Rattle.tp_unit.specs.Unit.{Meaning}
use Rattle.tp_unit.specs.Writing.{frame_of}
use Rattle.tp_unit.specs.declared.shape.Shape.{Shape}
use Rattle.gw_law.specs.Channels.{bytes_of_address}
use Rattle.gw_law.specs.Deeds.{IsMadeIn, own_view}
use Rattle.bus_worker.specs.Acts.{Act, received_at, sent_at}
use Rattle.bus_worker.specs.declared.channel.Channel.{Channel}
use Rattle.bus_worker.specs.declared.channel.Receiving.{Receiving}
use Rattle.bus_worker.specs.declared.channel.Sending.{Sending}
use Rattle.bus_worker.specs.declared.comes.Comes.{Comes}

-- something lies in a box
abbrev pub Lies : Option Meaning → Type 0
Lies None = ⊥
Lies (Some meaning) = Unit {0}

-- what lies there can be written in the channel's shape
abbrev pub FitsIn : Shape → Option Meaning → Type 0
FitsIn shape None = Unit {0}
FitsIn shape (Some meaning) = fits_shape shape meaning ≡ true

-- the numbers of a channel's two boxes, by its place on the bus
abbrev pub control_box : (place : ℕ) → ℕ
control_box place = 2 * place

abbrev pub frame_box : (place : ℕ) → ℕ
frame_box place = 2 * place + 1

-- the receiver of the channel at a place, and the sender
abbrev pub receiver_at : List Channel → (place : ℕ) → Option Receiving
receiver_at channels place = option_and_then (λ (channel : Channel). channel.receiving) (slice_get channels place)

abbrev pub sender_at : List Channel → (place : ℕ) → Option Sending
sender_at channels place = option_and_then (λ (channel : Channel). channel.sending) (slice_get channels place)

-- a receiver after these turns, the last of them no later than the tick, with what the port knows of it and what it told
pub record ReceiverStands (tick : ℕ) (view : View) (turns : List RxTurn) (r : Receiving) : Type 0 where
  pub happened : HasReceived r.machine.set turns
  pub state : receiver_state r.machine ≡ state_after rx_new turns
  pub knows : Knows view r.machine
  pub number : r.machine.next_n ≤ length (came_by frames_in turns)
  pub now : now_of turns ≤ tick
  pub waits : WaitsBy r.machine tick
  pub fits : FitsIn r.shape (control_after turns)
  pub sessions : r.sessions ≡ records_by turns
  pub own : view.sessions r.machine.set.path.0 ≡ (own_view (calls_by turns)).sessions r.machine.set.path.0
  pub made : IsMadeIn view (calls_by turns)

-- a sender after these turns; a frame of its session lies in its box where the session says so
pub record SenderStands (tick : ℕ) (view : View) (turns : List TxTurn) (s : Sending) : Type 0 where
  pub happened : HasSent (set_of s.machine) turns
  pub state : sender_state s.machine ≡ state_after tx_new turns
  pub knows : KnowsPort view s.machine
  pub now : now_of turns ≤ tick
  pub since : since_of (sender_state s.machine).live ≤ tick
  pub fits : FitsIn s.shape (box_after turns)
  pub has : HasFrame (sender_state s.machine).live → Lies (box_after turns)
  pub had : Lies (box_after turns) → HasFrame (sender_state s.machine).live
  pub dests : s.dests ≡ records_by turns
  pub own : view.readings (set_of s.machine).path.0 (set_of s.machine).dest.0 ≡ (own_view (calls_by turns)).readings (set_of s.machine).path.0 (set_of s.machine).dest.0
  pub made : IsMadeIn view (calls_by turns)

-- how the channel's receiver is configured, with the shape of its flow controls, and how its sender is
abbrev pub receives_at : List Channel → (place : ℕ) → Option (RxSet × Shape)
receives_at channels place = option_map (λ (r : Receiving). (r.machine.set, r.shape)) (receiver_at channels place)

abbrev pub sends_at : List Channel → (place : ℕ) → Option TxSet
sends_at channels place = option_map (λ (s : Sending). set_of s.machine) (sender_at channels place)

-- no two receivers have one path, and no two senders one path and destination
pub record AreApart (channels : List Channel) : Type 0 where
  pub paths : (place other : ℕ) (one another : RxSet × Shape) → receives_at channels place ≡ Some one → receives_at channels other ≡ Some another → one.0.path.0 ≡ another.0.path.0 → place ≡ other
  pub dests : (place other : ℕ) (one another : TxSet) → sends_at channels place ≡ Some one → sends_at channels other ≡ Some another → one.path.0 ≡ another.path.0 → one.dest.0 ≡ another.dest.0 → place ≡ other

-- the channels are configured as before
pub record SameChannels (old new : List Channel) : Type 0 where
  pub count : length new ≡ length old
  pub receives : (place : ℕ) → receives_at new place ≡ receives_at old place
  pub sends : (place : ℕ) → sends_at new place ≡ sends_at old place

-- all machines of the bus after these acts
pub record Stand (tick : ℕ) (view : View) (acts : List Act) (channels : List Channel) : Type 0 where
  pub receivers : (place : ℕ) (r : Receiving) → receiver_at channels place ≡ Some r → ReceiverStands tick view (received_at place acts) r
  pub senders : (place : ℕ) (s : Sending) → sender_at channels place ≡ Some s → SenderStands tick view (sent_at place acts) s
  pub apart : AreApart channels
  pub few : length channels ≤ 64

-- a receiver's frames have as many address bytes as those that come to its channel
pub record AreRouted (routes : List Comes) (channels : List Channel) : Type 0 where
  pub address : (place : ℕ) (comes : Comes) (one : RxSet × Shape) → slice_get routes place ≡ Some comes → receives_at channels place ≡ Some one → one.0.a ≡ bytes_of_address comes.byte

-- the port acts for all machines of the bus
pub record ActsForAll (channels : List Channel) (means : Means) : Type 0 where
  pub receivers : (place : ℕ) (one : RxSet × Shape) → receives_at channels place ≡ Some one → ActsFor one.0 means
  pub senders : (place : ℕ) (one : TxSet) → sends_at channels place ≡ Some one → ActsForSet means one

-- the frame that lies in a box where this unit does
abbrev pub framed : Shape → Option Meaning → Option CanFrame
framed shape lies = option_map (frame_of shape) lies

-- what lies in the boxes by their numbers is what the channels' machines left there, and there are no others
pub record LieThere (acts : List Act) (channels : List Channel) (lies : ℕ → Option CanFrame) : Type 0 where
  pub controls : (place : ℕ) (r : Receiving) → receiver_at channels place ≡ Some r → lies (control_box place) ≡ framed r.shape (control_after (received_at place acts))
  pub frames : (place : ℕ) (s : Sending) → sender_at channels place ≡ Some s → lies (frame_box place) ≡ framed s.shape (box_after (sent_at place acts))
  pub no_controls : (place : ℕ) → receiver_at channels place ≡ None → lies (control_box place) ≡ None
  pub no_frames : (place : ℕ) → sender_at channels place ≡ None → lies (frame_box place) ≡ None
