-- The laws of the machines of one bus.
use Rattle.std.specs.Prelude.{◌≡◌, ℕ, Some, List, ◌++◌, slice_get}
use Rattle.hub_core.specs.Turns.{came_by}
use Rattle.tp_receiver.specs.Runs.{frames_in}
use Rattle.tp_sender.specs.Runs.{controls_in}
use Rattle.gw_law.specs.Channels.{answers_in, bytes_of_address, frames_for, seen_in}
use Rattle.receiver_law.specs.RxRun.{IsRxRun}
use Rattle.sender_law.specs.Runs.{IsTxRun}
use Rattle.tp_receiver.specs.declared.set.RxSet.{RxSet}
use Rattle.tp_sender.specs.declared.set.TxSet.{TxSet}
use Rattle.tp_unit.specs.declared.shape.Shape.{Shape}
use Rattle.bus_worker.specs.Acts.{Act, received_at, sent_at}
use Rattle.bus_worker.specs.Comes.{address_of}
use Rattle.bus_worker.specs.Ended.{IsBusRun}
use Rattle.bus_worker.specs.History.{BusTick, acts_in, came_in, left_in}
use Rattle.bus_worker.specs.Stands.{receives_at, sends_at}
use Rattle.bus_worker.specs.declared.channel.Channel.{Channel}
use Rattle.bus_worker.specs.declared.comes.Comes.{Comes}
use Rattle.bus_law.specs.Apart.{AreApartOnBus}
use Rattle.bus_law.specs.Runs.{AreTables, SendsInOrder, rx_run, tx_run}

-- in each run of a bus, what a source channel's receiver did is a run of that receiver
abbrev pub ReceiversRun : Type 0
ReceiversRun =
    (budget last : ℕ) (routes : List Comes) (channels : List Channel) (ticks : List BusTick) (end : List Act) → IsBusRun budget last routes channels ticks end → AreTables channels (end ++ acts_in ticks) →
    (place : ℕ) (one : RxSet × Shape) → receives_at channels place ≡ Some one → IsRxRun (rx_run budget last ticks end place one)

-- and what a destination's sender did is a run of that sender
abbrev pub SendersRun : Type 0
SendersRun =
    (budget last : ℕ) (routes : List Comes) (channels : List Channel) (ticks : List BusTick) (end : List Act) → IsBusRun budget last routes channels ticks end → AreTables channels (end ++ acts_in ticks) →
    (place : ℕ) (set : TxSet) → sends_at channels place ≡ Some set → IsTxRun (tx_run budget last ticks end place set)

-- the frames of which a source channel's receiver was told are those of the bus that are the channel's, in their order
abbrev pub FramesCome : Type 0
FramesCome =
    (budget last : ℕ) (routes : List Comes) (channels : List Channel) (ticks : List BusTick) (end : List Act) → IsBusRun budget last routes channels ticks end → AreApartOnBus routes channels →
    (place : ℕ) (comes : Comes) (one : RxSet × Shape) → slice_get routes place ≡ Some comes → receives_at channels place ≡ Some one →
    came_by frames_in (received_at place (end ++ acts_in ticks)) ≡ seen_in (bytes_of_address comes.byte) (frames_for (address_of comes) (came_in ticks))

-- and so are the flow controls of which a destination's sender was told
abbrev pub AnswersCome : Type 0
AnswersCome =
    (budget last : ℕ) (routes : List Comes) (channels : List Channel) (ticks : List BusTick) (end : List Act) → IsBusRun budget last routes channels ticks end → AreApartOnBus routes channels →
    (place : ℕ) (comes : Comes) (set : TxSet) → slice_get routes place ≡ Some comes → sends_at channels place ≡ Some set →
    came_by controls_in (sent_at place (end ++ acts_in ticks)) ≡ answers_in (bytes_of_address comes.byte) (frames_for (address_of comes) (came_in ticks))

-- a bus sends in order
abbrev pub BusSends : Type 0
BusSends = (budget last : ℕ) (routes : List Comes) (channels : List Channel) (ticks : List BusTick) (end : List Act) → IsBusRun budget last routes channels ticks end → SendsInOrder budget last (left_in ticks)
