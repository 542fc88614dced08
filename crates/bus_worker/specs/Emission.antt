-- The frames that leave a bus in a tick, in their order, and that each of their machines is told of its own.
use Rattle.std.specs.Prelude.{◌≡◌, ◌≢◌, ℕ, ◌≤◌, None, List, [], ◌∷◌, ◌++◌, map}
use Rattle.can_frame.specs.Frame.{CanFrame}
use Rattle.hub_core.specs.Stays.{PortState}
use Rattle.tp_receiver.specs.State.{RxTurn, FcLeft}
use Rattle.tp_sender.specs.State.{TxTurn}
use Rattle.tp_sender.specs.declared.event.TxEvent.TheVariants.{Left}
use Rattle.tp_unit.specs.Box.{Written}
use Rattle.tx_mailbox.specs.Boxes.{IsEmitted, Pending, content}
use Rattle.bus_worker.specs.Acts.{Act, Received, Sent}
use Rattle.bus_worker.specs.Did.{Did, IsAt}
use Rattle.bus_worker.specs.Phases.{Rests}
use Rattle.bus_worker.specs.Stands.{control_box, frame_box}
use Rattle.bus_worker.specs.declared.worker.Worker.{Worker}

-- all machines of the bus after these acts, where those of some frames that left weren't told yet: to them these frames lie in their boxes
abbrev pub RestsBut : {Home : Type 0} → (tick : ℕ) → List Act → (left : List Pending) → Worker → PortState Home → Type 0
RestsBut tick acts left w port = IsAt tick acts (λ number. content number (left ++ w.boxes)) w port

-- these frames left different boxes, each of which is empty
abbrev pub AreOut : (left boxes : List Pending) → Type 0
AreOut [] boxes = Unit {0}
AreOut (entry ∷ later) boxes = (content entry.0 (later ++ boxes) ≡ None) × AreOut later boxes

-- they stand so since that tick or an earlier one
pub record AwaitsLeft {Home : Type 0} (tick : ℕ) (left : List Pending) (w : Worker) (port : PortState Home) : Type 0 where
  pub since : ℕ
  pub acts : List Act
  pub by : since ≤ tick
  pub at : RestsBut since acts left w port
  pub out : AreOut left w.boxes

-- the frame left the box of that number in that tick, and its machine was told: the receiver of its flow control, or the sender of its frame
pub data IsLeaving (tick number : ℕ) (act : Act) : Type 0 where
  Control : (place : ℕ) (turn : RxTurn) → number ≡ control_box place → act ≡ Received place turn → turn.event ≡ FcLeft → turn.did.tick ≡ tick → IsLeaving tick number act
  Data : (place : ℕ) (turn : TxTurn) → number ≡ frame_box place → act ≡ Sent place turn → turn.event ≡ Left → turn.did.tick ≡ tick → IsLeaving tick number act

-- each frame's machine was told once, in the order in which the frames left; the newest act stands first
abbrev pub AreLeaving : (tick : ℕ) → (left : List Pending) → List Act → Type 0
AreLeaving tick [] done = done ≡ []
AreLeaving tick (entry ∷ later) done = (act : Act) × (rest : List Act) × (done ≡ rest ++ act ∷ []) × IsLeaving tick entry.0 act × AreLeaving tick later rest

-- a frame as it is noted, and all frames that left
abbrev pub sent_in : (tick : ℕ) → Pending → Written
sent_in tick entry = record { tick = tick; frame = entry.1 }

abbrev pub all_sent_in : (tick : ℕ) → List Pending → List Written
all_sent_in tick left = map (sent_in tick) left

-- a frame left the box of that number, which is empty, and so is that of each frame that left after it
pub record LeftBox {Home : Type 0} (tick number : ℕ) (w : Worker) (port : PortState Home) : Type 0 where
  pub since : ℕ
  pub acts : List Act
  pub frame : CanFrame
  pub later : List Pending
  pub by : since ≤ tick
  pub at : RestsBut since acts ((number, frame) ∷ later) w port
  pub out : content number (later ++ w.boxes) ≡ None

-- the machine of a frame that left was told: what lies in the other boxes stays
pub record OneLeft {Home : Type 0} (tick number : ℕ) (later : List Pending) (acts : List Act) (v w : Worker) (old new : PortState Home) : Type 0 where
  pub act : Act
  pub at : RestsBut tick (act ∷ acts) later w new
  pub did : Did 0 0 (act ∷ []) v w old new
  pub is : IsLeaving tick number act
  pub sent : w.sent ≡ v.sent
  pub others : (other : ℕ) → other ≢ number → content other w.boxes ≡ content other v.boxes

-- whatever was done before, and whatever left after it
abbrev pub LeavesAfter : {Home : Type 0} → (tick number : ℕ) → (v w : Worker) → (old new : PortState Home) → Type 0
LeavesAfter tick number v w old new = (since : ℕ) (acts : List Act) (frame : CanFrame) (later : List Pending) → since ≤ tick → RestsBut since acts ((number, frame) ∷ later) v old → content number (later ++ v.boxes) ≡ None → OneLeft tick number later acts v w old new

-- the same, and the frame was noted
pub record OneNoted {Home : Type 0} (tick : ℕ) (entry : Pending) (later : List Pending) (acts : List Act) (v w : Worker) (old new : PortState Home) : Type 0 where
  pub act : Act
  pub at : RestsBut tick (act ∷ acts) later w new
  pub did : Did 0 0 (act ∷ []) v w old new
  pub is : IsLeaving tick entry.0 act
  pub sent : w.sent ≡ v.sent ++ sent_in tick entry ∷ []
  pub others : (other : ℕ) → other ≢ entry.0 → content other w.boxes ≡ content other v.boxes

abbrev pub NotedAfter : {Home : Type 0} → (tick : ℕ) → Pending → (v w : Worker) → (old new : PortState Home) → Type 0
NotedAfter tick entry v w old new = (since : ℕ) (acts : List Act) (later : List Pending) → since ≤ tick → RestsBut since acts ((entry.0, entry.1) ∷ later) v old → content entry.0 (later ++ v.boxes) ≡ None → OneNoted tick entry later acts v w old new

-- some of the frames that left were noted, the others not yet
pub record SomeLeft {Home : Type 0} (tick : ℕ) (front rest : List Pending) (acts : List Act) (v w : Worker) (old new : PortState Home) : Type 0 where
  pub done : List Act
  pub at : RestsBut tick (done ++ acts) rest w new
  pub out : AreOut rest w.boxes
  pub did : Did 0 0 done v w old new
  pub are : AreLeaving tick front done
  pub sent : w.sent ≡ v.sent ++ all_sent_in tick front

abbrev pub SomeLeaveAfter : {Home : Type 0} → (tick : ℕ) → (left front rest : List Pending) → (v w : Worker) → (old new : PortState Home) → Type 0
SomeLeaveAfter tick left front rest v w old new = (since : ℕ) (acts : List Act) → since ≤ tick → RestsBut since acts left v old → AreOut left v.boxes → SomeLeft tick front rest acts v w old new

-- these frames left, and their machines were told
pub record AllLeft {Home : Type 0} (tick : ℕ) (left : List Pending) (acts : List Act) (v w : Worker) (old new : PortState Home) : Type 0 where
  pub done : List Act
  pub at : Rests tick (done ++ acts) w new
  pub did : Did 0 0 done v w old new
  pub are : AreLeaving tick left done
  pub sent : w.sent ≡ v.sent ++ all_sent_in tick left

-- whatever was done before
abbrev pub AllLeaveAfter : {Home : Type 0} → (tick : ℕ) → (left : List Pending) → (v w : Worker) → (old new : PortState Home) → Type 0
AllLeaveAfter tick left v w old new = (since : ℕ) (acts : List Act) → since ≤ tick → RestsBut since acts left v old → AreOut left v.boxes → AllLeft tick left acts v w old new

-- a tick's frames left, at most a budget of them, by arbitration, and their machines were told
pub record Emits {Home : Type 0} (tick : ℕ) (acts : List Act) (v w : Worker) (old new : PortState Home) : Type 0 where
  pub out : List Pending
  -- what lay in the boxes right after the emission
  pub after : List Pending
  pub emitted : IsEmitted v.budget v.boxes out after
  pub done : List Act
  pub at : Rests tick (done ++ acts) w new
  pub did : Did 0 0 done v w old new
  pub are : AreLeaving tick out done
  pub sent : w.sent ≡ v.sent ++ all_sent_in tick out

-- whatever was done before
abbrev pub EmitsAfter : {Home : Type 0} → (tick : ℕ) → (v w : Worker) → (old new : PortState Home) → Type 0
EmitsAfter tick v w old new = (since : ℕ) (acts : List Act) → since ≤ tick → Rests since acts v old → Emits tick acts v w old new
