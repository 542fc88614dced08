-- How a worker begins: with which machines, and that these stand before their first tick.
use Rattle.std.specs.Prelude.{◌≡◌, ◌<◌, ◌≤◌, ℕ, List, [], Option, None, Some, length, map, slice_get}
use Rattle.std.specs.List.{AllZip}
use Rattle.hub_core.specs.Calls.{Means}
use Rattle.hub_core.specs.View.{View}
use Rattle.tp_receiver.specs.Port.{ActsFor}
use Rattle.tp_receiver.specs.Set.{IsRxSet}
use Rattle.tp_receiver.specs.State.{rx_new, state_of as receiver_state}
use Rattle.tp_sender.specs.Port.{ActsForSet}
use Rattle.tp_sender.specs.State.{state_of as sender_state, tx_new}
use Rattle.tp_sender.specs.declared.set.TxSet.{TxSet}
use Rattle.tp_unit.specs.Shape.{IsShape}
use Rattle.gw_law.specs.Channels.{bytes_of_address}
use Rattle.tx_mailbox.specs.Boxes.{content}
use Rattle.bus_worker.specs.Did.{IsAtView}
use Rattle.bus_worker.specs.declared.channel.Channel.{Channel}
use Rattle.bus_worker.specs.declared.channel.Receiving.{Receiving}
use Rattle.bus_worker.specs.declared.channel.Sending.{Sending}
use Rattle.bus_worker.specs.declared.plan.ChannelPlan.{ChannelPlan}
use Rattle.bus_worker.specs.declared.plan.SourcePlan.{SourcePlan}
use Rattle.bus_worker.specs.declared.worker.Worker.{Worker}

-- a source's configured numbers are in their ranges, and its frames have the address bytes of the channel
pub record IsSourcePlan (address : ℕ) (plan : SourcePlan) : Type 0 where
  pub set : IsRxSet plan.set
  pub shape : IsShape plan.shape
  pub address_is : plan.set.a ≡ address

-- a destination's frames have a lawful shape, and a tick has a length
pub record IsDestinationPlan (set : TxSet) : Type 0 where
  pub shape : IsShape set.shape
  pub period : 0 < set.period

abbrev pub IsSource : (address : ℕ) → Option SourcePlan → Type 0
IsSource address None = Unit {0}
IsSource address (Some plan) = IsSourcePlan address plan

abbrev pub IsDestination : Option TxSet → Type 0
IsDestination None = Unit {0}
IsDestination (Some set) = IsDestinationPlan set

pub record IsChannelPlan (plan : ChannelPlan) : Type 0 where
  pub source : IsSource (bytes_of_address plan.comes.byte) plan.source
  pub destination : IsDestination plan.destination

-- a bus has at most 64 channels, no two sources with one path, and no two destinations with one path and number
pub record IsBusPlan (plans : List ChannelPlan) : Type 0 where
  pub few : length plans ≤ 64
  pub each : (place : ℕ) (plan : ChannelPlan) → slice_get plans place ≡ Some plan → IsChannelPlan plan
  pub paths : (place other : ℕ) (plan another : ChannelPlan) (one two : SourcePlan) → slice_get plans place ≡ Some plan → slice_get plans other ≡ Some another → plan.source ≡ Some one → another.source ≡ Some two → one.set.path.0 ≡ two.set.path.0 → place ≡ other
  pub dests : (place other : ℕ) (plan another : ChannelPlan) (one two : TxSet) → slice_get plans place ≡ Some plan → slice_get plans other ≡ Some another → plan.destination ≡ Some one → another.destination ≡ Some two → one.path.0 ≡ two.path.0 → one.dest.0 ≡ two.dest.0 → place ≡ other

-- a source's receiver to which no frame came yet
pub record IsNewReceiving (plan : SourcePlan) (r : Receiving) : Type 0 where
  pub set : r.machine.set ≡ plan.set
  pub shape : r.shape ≡ plan.shape
  pub state : receiver_state r.machine ≡ rx_new
  pub sessions : r.sessions ≡ []

-- a destination's sender that sent nothing yet
pub record IsNewSending (set : TxSet) (s : Sending) : Type 0 where
  pub set_is : s.machine.set ≡ set
  pub state : sender_state s.machine ≡ tx_new
  pub dests : s.dests ≡ []

abbrev pub IsNewSource : Option SourcePlan → Option Receiving → Type 0
IsNewSource None None = Unit {0}
IsNewSource None (Some r) = ⊥
IsNewSource (Some plan) None = ⊥
IsNewSource (Some plan) (Some r) = IsNewReceiving plan r

abbrev pub IsNewDestination : Option TxSet → Option Sending → Type 0
IsNewDestination None None = Unit {0}
IsNewDestination None (Some s) = ⊥
IsNewDestination (Some set) None = ⊥
IsNewDestination (Some set) (Some s) = IsNewSending set s

pub record IsNewChannel (plan : ChannelPlan) (channel : Channel) : Type 0 where
  pub source : IsNewSource plan.source channel.receiving
  pub destination : IsNewDestination plan.destination channel.sending

-- the port acts for all machines that are planned, and knows of none of their sessions yet
pub record IsReady (plans : List ChannelPlan) (view : View) (means : Means) : Type 0 where
  pub sources : (place : ℕ) (plan : ChannelPlan) (one : SourcePlan) → slice_get plans place ≡ Some plan → plan.source ≡ Some one → ActsFor one.set means × (view.sessions one.set.path.0 ≡ [])
  pub destinations : (place : ℕ) (plan : ChannelPlan) (set : TxSet) → slice_get plans place ≡ Some plan → plan.destination ≡ Some set → ActsForSet means set × (view.readings set.path.0 set.dest.0 ≡ [])

-- a worker with machines for all that is planned, none of which did anything yet: they stand over each port that is ready
pub record StartsWith (budget : ℕ) (plans : List ChannelPlan) (w : Worker) : Type 0 where
  pub budget_is : w.budget ≡ budget
  pub channels : AllZip IsNewChannel plans w.channels.items
  pub routes : w.routes.items ≡ map (λ (plan : ChannelPlan). plan.comes) plans
  pub boxes : w.boxes ≡ []
  pub sent : w.sent ≡ []
  pub moves : w.moves ≡ []
  pub stands : (view : View) (means : Means) → IsReady plans view means → IsAtView 0 [] (λ number. content number w.boxes) w view means
