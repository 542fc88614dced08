-- The gateway at its work: what its fields are after what the receiver and the sender did, and where in a tick its work stands.
use Rattle.std.specs.Prelude.{◌≡◌, ◌⊎◌, ℕ, ◌+◌, ◌-◌, ◌≤◌, true, None, Some, Option, option_map, List, [], ◌∷◌, ◌++◌, length, map}
use Rattle.tp_unit.specs.Box.{Answer, Written}
use Rattle.tp_sender.specs.Runs.{HasSent, controls_in, box_after, clear_from, left_by}
use Rattle.tp_sender.specs.Port.{Knows as KnowsPort}
use Rattle.tp_receiver.specs.Port.{Knows}
use Rattle.tp_receiver.specs.State.{WaitsBy, state_of as receiver_state, RxTurn, rx_new}
use Rattle.hub_core.specs.HubPort.{groups_of}
use Rattle.hub_core.specs.Moves.{move_of}
use Rattle.tp_receiver.specs.Runs.{HasReceived, frames_in}
use Rattle.hub_core.specs.Turns.{AreFreshTurns, calls_by, now_of, came_by, state_after, records_by}
use Rattle.std.specs.List.{AllByRecursion}
use Rattle.receiver_law.specs.Parts.{CameIn, ReceivesIn}
use Rattle.gw_run.specs.Works.{AreTicks, IsIdle, IsJoint, IsSerialRun, Work, moments_of, tick_after, told_by, turns_of, view_of}
use Rattle.sender_law.specs.Parts.{IsAnswerIn}
use Rattle.tp_receiver.specs.Runs.{control_after, controls_by}
use Rattle.hub_core.specs.Past.{view_after}
use Rattle.hub_core.specs.View.{View, grows}
use Rattle.hub_core.specs.declared.plain.PlainHub.{PlainHub}
use Rattle.hub_core.specs.declared.record.DestRecord.{DestRecord}
use Rattle.hub_core.specs.declared.record.Move.{Move}
use Rattle.hub_core.specs.declared.record.SessionRecord.{SessionRecord}
use Rattle.tick_clock.specs.declared.clock.Clock.{Clock}
use Rattle.tp_attempts.specs.Seen.{Seen}
use Rattle.tp_receiver.specs.declared.receiver.Receiver.{Receiver}
use Rattle.tp_receiver.specs.declared.set.RxSet.{RxSet}
use Rattle.tp_sender.specs.State.{HasFrame, set_of, since_of, state_of as sender_state, TxTurn, tx_new}
use Rattle.tp_sender.specs.declared.sender.Sender.{Sender}
use Rattle.tp_sender.specs.declared.set.TxSet.{TxSet}
use Rattle.tp_unit.specs.Shape.{fits_shape}
use Rattle.tp_unit.specs.Unit.{Meaning, meaning_of}
use Rattle.tp_unit.specs.declared.shape.Shape.{Shape}
use Rattle.tp_unit.specs.declared.unit.Unit.{Unit as ProtocolUnit}
use Rattle.gw_run.specs.Played.{Told, told_with}
use Rattle.gw_run.specs.declared.gateway.Gateway.{Gateway}
use Rattle.gw_run.specs.declared.machines.Machines.{Machines}

-- what lies in a box
abbrev pub lying : Option ProtocolUnit → Option Meaning
lying unit = option_map meaning_of unit

-- something lies in the box
abbrev pub Lies : Option Meaning → Type 0
Lies None = ⊥
Lies (Some meaning) = Unit {0}

-- what lies in the box can be written in the channel's shape
abbrev pub FitsIn : Shape → Option Meaning → Type 0
FitsIn shape None = Unit {0}
FitsIn shape (Some meaning) = fits_shape shape meaning ≡ true

-- the cells of the hub's buffers, group by group
abbrev pub groups_in : PlainHub → List (List ℕ)
groups_in hub = groups_of hub

-- what the hub did and saw
abbrev pub view_in : PlainHub → View
view_in hub = view_after hub.past.seat.me.0.deeds

-- the receiver after these turns, the last of them no later than the tick, with what lies in its box, what left and what is told
pub record RxStands (rx : RxSet) (shape : Shape) (tick : ℕ) (turns : List RxTurn) (view : View) (receiver : Receiver) (lies : Option Meaning) (controls : List Written) (sessions : List SessionRecord) : Type 0 where
  pub happened : HasReceived rx turns
  pub set : receiver.set ≡ rx
  pub state : receiver_state receiver ≡ state_after rx_new turns
  pub knows : Knows view receiver
  pub number : receiver.next_n ≤ length (came_by frames_in turns)
  pub now : now_of turns ≤ tick
  pub waits : WaitsBy receiver tick
  pub lies_is : lies ≡ control_after turns
  pub fits : FitsIn shape lies
  pub controls_are : controls ≡ controls_by shape turns
  pub sessions_are : sessions ≡ records_by turns

-- the sender after these moments, the last of them no later than the tick, with what lies in its box, what left and what is told
pub record TxStands (tx : TxSet) (tick : ℕ) (moments : List TxTurn) (view : View) (sender : Sender) (lies : Option Meaning) (frames : List Written) (dests : List DestRecord) : Type 0 where
  pub happened : HasSent tx moments
  pub set : set_of sender ≡ tx
  pub state : sender_state sender ≡ state_after tx_new moments
  pub knows : KnowsPort view sender
  pub now : now_of moments ≤ tick
  pub since : since_of (sender_state sender).live ≤ tick
  pub lies_is : lies ≡ box_after moments
  pub fits : FitsIn tx.shape lies
  pub has : HasFrame (sender_state sender).live → Lies lies
  pub had : Lies lies → HasFrame (sender_state sender).live
  pub frames_are : frames ≡ left_by tx.shape moments
  pub dests_are : dests ≡ records_by moments

-- the pool, with one group of buffers of these cells, after so many frames of the source channel: one take is used for each at most, and its moves are told
pub record PoolStands (sizes : List ℕ) (came : ℕ) (view : View) (hub : PlainHub) (moves : List Move) : Type 0 where
  pub view_is : view_in hub ≡ view
  pub groups : groups_in hub ≡ sizes ∷ []
  pub takes : 1000000 ≤ came + hub.takes
  pub moves_are : moves ≡ map move_of view.changes

-- the gateway after these turns and moments, the last of them no later than the tick
pub record Stands (sizes : List ℕ) (g : Gateway) (tick : ℕ) (turns : List RxTurn) (moments : List TxTurn) (view : View) : Type 0 where
  pub receives : RxStands g.machines.rx g.machines.shape tick turns view g.receiver (lying g.control) g.controls g.sessions
  pub sends : TxStands g.machines.tx tick moments view g.sender (lying g.frame) g.frames g.dests
  pub pool : PoolStands sizes (length (came_by frames_in turns)) view g.hub g.moves

-- nothing is received and nothing is sent
pub record IsQuiet (g : Gateway) : Type 0 where
  pub receiver : (receiver_state g.receiver).busy ≡ None
  pub sender : (sender_state g.sender).live ≡ None

-- between two ticks: these frames and flow controls came so far, and the next tick is this one or, where nothing goes on, any later one
pub record AtBarrier (sizes : List ℕ) (g : Gateway) (seen : List Seen) (answers : List Answer) (next : ℕ) : Type 0 where
  pub works : List Work
  pub ticks : AreTicks sizes works
  pub next_is : tick_after works ≡ next
  pub stands : Stands sizes g (next - 1) (turns_of works) (moments_of works) (view_of works)
  pub clear : clear_from (moments_of works) ≤ next
  pub seen_is : came_by frames_in (turns_of works) ≡ seen
  pub answers_is : came_by controls_in (moments_of works) ≡ answers

-- at the source's part of a tick's work: these turns are those of its frames that came so far
pub record InSource (sizes : List ℕ) (g : Gateway) (seen : List Seen) (answers : List Answer) (tick : ℕ) : Type 0 where
  pub earlier : List Work
  pub turns : List RxTurn
  pub ticks : AreTicks sizes earlier
  pub later : tick_after earlier ≤ tick
  pub next : IsIdle earlier ⊎ (tick ≡ tick_after earlier)
  pub came : AllByRecursion (λ (turn : RxTurn). CameIn tick turn.event turn.did.tick) turns
  pub looks : AreFreshTurns (sizes ∷ []) (view_of earlier) turns
  pub stands : Stands sizes g tick (turns ++ turns_of earlier) (moments_of earlier) (grows (calls_by turns) (view_of earlier))
  pub clear : clear_from (moments_of earlier) ≤ tick
  pub seen_is : came_by frames_in (turns ++ turns_of earlier) ≡ seen
  pub answers_is : came_by controls_in (moments_of earlier) ≡ answers

-- at the destination's part of a tick's work: these moments are those of the flow controls that came so far
pub record InDestination (sizes : List ℕ) (g : Gateway) (seen : List Seen) (answers : List Answer) (tick : ℕ) : Type 0 where
  pub earlier : List Work
  pub turns : List RxTurn
  pub moments : List TxTurn
  pub ticks : AreTicks sizes earlier
  pub later : tick_after earlier ≤ tick
  pub next : IsIdle earlier ⊎ (tick ≡ tick_after earlier)
  pub receives : ReceivesIn tick (turns_of earlier) turns
  pub looks : AreFreshTurns (sizes ∷ []) (view_of earlier) turns
  pub between : IsJoint sizes (grows (calls_by turns) (view_of earlier))
  pub only : AllByRecursion (IsAnswerIn tick) moments
  pub sees : AreFreshTurns (sizes ∷ []) (grows (calls_by turns) (view_of earlier)) moments
  pub stands : Stands sizes g tick (turns ++ turns_of earlier) (moments ++ moments_of earlier) (grows (calls_by moments) (grows (calls_by turns) (view_of earlier)))
  pub clear : clear_from (moments ++ moments_of earlier) ≤ tick
  pub seen_is : came_by frames_in (turns ++ turns_of earlier) ≡ seen
  pub answers_is : came_by controls_in (moments ++ moments_of earlier) ≡ answers

-- the run is over, these frames and flow controls came in it, and this is what it tells
pub record Finishes (sizes : List ℕ) (m : Machines) (clock : Clock) (last : ℕ) (seen : List Seen) (answers : List Answer) (told : Told) : Type 0 where
  pub ticks : List Work
  pub end : Work
  pub run : IsSerialRun m.rx m.tx sizes last told.report.pool.changes told.report.pool.free ticks end
  pub tells : told_by m.tx m.shape told.report.pool.changes told.report.pool.free ticks end ≡ told_with seen answers told
  pub clock_is : told.report.clock ≡ clock
  pub buffers : told.report.pool.buffers ≡ 1
