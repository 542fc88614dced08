-- The run of a bus from its first tick to the run's end.
use Rattle.std.specs.Prelude.{◌≡◌, ◌⊎◌, ℕ, ◌+◌, ◌≤◌, None, Some, List, []}
use Rattle.std.specs.List.{AllByRecursion}
use Rattle.sender_law.specs.Parts.{IsStepIn}
use Rattle.tp_receiver.specs.State.{RunEnd}
use Rattle.tp_receiver.specs.declared.set.RxSet.{RxSet}
use Rattle.tp_sender.specs.declared.event.TxEvent.TheVariants.{RunEnd as RunEndOfSender}
use Rattle.tp_unit.specs.declared.shape.Shape.{Shape}
use Rattle.bus_worker.specs.Acts.{Act, received_at, sent_at}
use Rattle.bus_worker.specs.History.{AreBusTicks, BusTick, Follow, IsIdle, acts_in, next_tick}
use Rattle.bus_worker.specs.Phases.{OneReceived}
use Rattle.bus_worker.specs.Stands.{receives_at, sends_at}
use Rattle.bus_worker.specs.declared.channel.Channel.{Channel}
use Rattle.bus_worker.specs.declared.comes.Comes.{Comes}

-- in the last tick each receiver was told once that the run ends, and each sender so often as it needed; nobody was told of anything else
pub record AreEnds (last : ℕ) (channels : List Channel) (done : List Act) : Type 0 where
  pub receivers : (place : ℕ) (one : RxSet × Shape) → receives_at channels place ≡ Some one → OneReceived last RunEnd (received_at place done)
  pub senders : (place : ℕ) → AllByRecursion (IsStepIn last RunEndOfSender) (sent_at place done)
  pub no_receivers : (place : ℕ) → receives_at channels place ≡ None → received_at place done ≡ []
  pub no_senders : (place : ℕ) → sends_at channels place ≡ None → sent_at place done ≡ []

-- the ticks of a bus in a run, and its machines' acts at the run's end, which comes after the last tick, or before it where the bus is idle
pub record IsBusRun (budget last : ℕ) (routes : List Comes) (channels : List Channel) (ticks : List BusTick) (end : List Act) : Type 0 where
  pub ticks_are : AreBusTicks budget routes channels [] ticks
  pub follow : Follow channels ticks
  pub in_time : next_tick 0 ticks ≤ last + 1
  pub reached : IsIdle channels (acts_in ticks) ⊎ (next_tick 0 ticks ≡ last + 1)
  pub ends : AreEnds last channels end
