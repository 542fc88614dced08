-- The run's end on a bus, machine by machine.
use Rattle.std.specs.Prelude.{◌≡◌, ◌≢◌, ℕ, ◌<◌, ◌≤◌, false, Bool, None, Some, List, [], ◌++◌}
use Rattle.std.specs.Bool.{MatchBool}
use Rattle.std.specs.List.{AllByRecursion}
use Rattle.hub_core.specs.Floors.{Floors}
use Rattle.hub_core.specs.Stays.{PortState}
use Rattle.sender_law.specs.Parts.{IsStepIn}
use Rattle.tp_receiver.specs.State.{RunEnd}
use Rattle.tp_sender.specs.State.{set_of, state_of as sender_state}
use Rattle.tp_sender.specs.declared.event.TxEvent.TheVariants.{RunEnd as EndOfRun}
use Rattle.bus_worker.specs.Acts.{Act, received_at, sent_at}
use Rattle.bus_worker.specs.Did.{Did}
use Rattle.bus_worker.specs.Ended.{AreEnds}
use Rattle.bus_worker.specs.Phases.{AreReceived, IsReceived, Rests, Works, WorksAfter}
use Rattle.bus_worker.specs.Stands.{sender_at, sends_at}
use Rattle.bus_worker.specs.Steps.{SenderWasTold}
use Rattle.bus_worker.specs.declared.channel.Channel.{Channel}
use Rattle.bus_worker.specs.declared.channel.Sending.{Sending}
use Rattle.bus_worker.specs.declared.worker.Worker.{Worker}

-- a receiver was told of the run's end, and the first so many
abbrev pub EndsReceiver : {Home : Type 0} → (last place : ℕ) → (v w : Worker) → (old new : PortState Home) → Type 0
EndsReceiver last place v w old new = WorksAfter last 0 0 (IsReceived last RunEnd place v.channels.items) v w old new

abbrev pub EndsReceivers : {Home : Type 0} → (last count : ℕ) → (v w : Worker) → (old new : PortState Home) → Type 0
EndsReceivers last count v w old new = WorksAfter last 0 0 (AreReceived last RunEnd count v.channels.items) v w old new

-- a sender was told of the run's end some times, and nobody else of anything
pub record IsEnded (last place : ℕ) (channels : List Channel) (done : List Act) : Type 0 where
  pub own : AllByRecursion (IsStepIn last EndOfRun) (sent_at place done)
  pub none : sends_at channels place ≡ None → sent_at place done ≡ []
  pub others : (other : ℕ) → other ≢ place → sent_at other done ≡ []
  pub receivers : (other : ℕ) → received_at other done ≡ []

-- each of the first so many
pub record AreEnded (last count : ℕ) (channels : List Channel) (done : List Act) : Type 0 where
  pub each : (place : ℕ) → AllByRecursion (IsStepIn last EndOfRun) (sent_at place done)
  pub none : (place : ℕ) → sends_at channels place ≡ None → sent_at place done ≡ []
  pub receivers : (place : ℕ) → received_at place done ≡ []

-- a sender sends nothing, and no further session of its path was there
pub record IsOver (f : Floors) (s : Sending) : Type 0 where
  pub live : (sender_state s.machine).live ≡ None
  pub none : f.entered (set_of s.machine).group.0 (set_of s.machine).path.0 (set_of s.machine).dest.0 (sender_state s.machine).next ≡ false

-- the sender was told of the run's end once; the answer is whether it made a record
pub record IsToldOnce {Home : Type 0} (last place : ℕ) (some : Bool) (v w : Worker) (old new : PortState Home) : Type 0 where
  pub told : SenderWasTold place EndOfRun last v w old new
  pub made : MatchBool some (told.tells.did.records ≡ [] → ⊥) (told.tells.did.records ≡ [])

-- what is done of one sender leaves the other machines as they were
pub record EndsOne {Home : Type 0} (last place : ℕ) (acts : List Act) (v w : Worker) (old new : PortState Home) : Type 0 where
  pub works : Works last 0 0 (IsEnded last place v.channels.items) acts v w old new
  pub others : (other : ℕ) → other ≢ place → sender_at w.channels.items other ≡ sender_at v.channels.items other

abbrev pub EndsOneAfter : {Home : Type 0} → (last place : ℕ) → (v w : Worker) → (old new : PortState Home) → Type 0
EndsOneAfter last place v w old new = (since : ℕ) (acts : List Act) → since ≤ last → Rests since acts v old → EndsOne last place acts v w old new

-- a sender has ended, where there is one at that place
pub record EndsSender {Home : Type 0} (last place : ℕ) (v w : Worker) (old new : PortState Home) : Type 0 where
  pub ends : EndsOneAfter last place v w old new
  pub over : (s : Sending) → sender_at w.channels.items place ≡ Some s → IsOver old.floors s

-- and the first so many
pub record EndsSenders {Home : Type 0} (last count : ℕ) (v w : Worker) (old new : PortState Home) : Type 0 where
  pub ends : WorksAfter last 0 0 (AreEnded last count v.channels.items) v w old new
  pub over : (place : ℕ) (s : Sending) → place < count → sender_at w.channels.items place ≡ Some s → IsOver old.floors s

-- the run's end on the bus: all machines were told, and no sender has anything left to send
pub record IsFinished {Home : Type 0} (last : ℕ) (acts : List Act) (v w : Worker) (old new : PortState Home) : Type 0 where
  pub done : List Act
  pub at : Rests last (done ++ acts) w new
  pub did : Did 0 0 done v w old new
  pub are : AreEnds last v.channels.items done
  pub over : (place : ℕ) (s : Sending) → sender_at w.channels.items place ≡ Some s → IsOver old.floors s
  pub sent : w.sent ≡ v.sent

-- whatever was done before
abbrev pub Finishes : {Home : Type 0} → (last : ℕ) → (v w : Worker) → (old new : PortState Home) → Type 0
Finishes last v w old new = (since : ℕ) (acts : List Act) → since ≤ last → Rests since acts v old → IsFinished last acts v w old new
