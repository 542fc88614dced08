-- What the loop over ticks did, for one path with one destination: in each tick the steps of the source channel's receiver, and then
-- those of the destination's sender. The newest of everything stands first.
use Rattle.std.specs.Prelude.{◌≡◌, ◌⊎◌, ℕ, ◌+◌, ◌≤◌, None, List, [], ◌∷◌, ◌++◌, length, map}
use Rattle.tp_sender.specs.Runs.{HasSent, controls_in, left_by}
use Rattle.tp_sender.specs.State.{TxTurn, tx_new}
use Rattle.tp_receiver.specs.State.{RunEnd, RxTurn, rx_new}
use Rattle.hub_core.specs.Moves.{move_of}
use Rattle.tp_receiver.specs.Runs.{HasReceived, frames_in}
use Rattle.hub_core.specs.Turns.{AreFreshTurns, calls_by, came_by, state_after, records_by}
use Rattle.std.specs.List.{AllByRecursion}
use Rattle.hub_core.specs.Groups.{IsWordOf}
use Rattle.hub_core.specs.Joint.{Joint}
use Rattle.hub_core.specs.Journal.{number_of}
use Rattle.hub_core.specs.View.{View, empty_view, grows}
use Rattle.hub_core.specs.declared.record.DestRecord.{DestRecord}
use Rattle.hub_core.specs.declared.record.Move.{Move}
use Rattle.hub_core.specs.declared.record.SessionRecord.{SessionRecord}
use Rattle.tp_attempts.specs.Seen.{Seen}
use Rattle.tp_unit.specs.Box.{Answer, Written}
use Rattle.tp_receiver.specs.declared.set.RxSet.{RxSet}
use Rattle.tp_sender.specs.declared.event.TxEvent.TheVariants.{RunEnd}
use Rattle.tp_sender.specs.declared.set.TxSet.{TxSet}
use Rattle.tp_unit.specs.Shape.{IsShape}
use Rattle.tp_unit.specs.declared.shape.Shape.{Shape}
use Rattle.receiver_law.specs.Parts.{EndsReceiving, ReceivesIn}
use Rattle.receiver_law.specs.Source.{CountsFrom}
use Rattle.sender_law.specs.Parts.{IsStepIn, SendsIn}
use Rattle.tp_receiver.specs.Runs.{controls_by}

-- what was done in a tick: first the turns of the receiver, then the moments of the sender
pub record Work : Type 0 where
  pub tick : ℕ
  pub turns : List RxTurn
  pub moments : List TxTurn

-- all turns, and all moments
abbrev pub turns_of : List Work → List RxTurn
turns_of [] = []
turns_of (work ∷ earlier) = work.turns ++ turns_of earlier

abbrev pub moments_of : List Work → List TxTurn
moments_of [] = []
moments_of (work ∷ earlier) = work.moments ++ moments_of earlier

-- the hub's view after all that was done
abbrev pub view_of : List Work → View
view_of [] = empty_view
view_of (work ∷ earlier) = grows (calls_by work.moments) (grows (calls_by work.turns) (view_of earlier))

-- the hub's view in the midst of a tick's work, once the source's bus is done
abbrev pub view_between : List Work → Work → View
view_between earlier work = grows (calls_by work.turns) (view_of earlier)

-- the tick of the last work, and the one after it; 0 where nothing was done
abbrev pub tick_after : List Work → ℕ
tick_after [] = 0
tick_after (work ∷ earlier) = work.tick + 1

-- the hub's view is joint, over one group of buffers
abbrev pub IsJoint : List ℕ → View → Type 0
IsJoint sizes v = Joint (sizes ∷ []) v

-- nothing is received and nothing is sent
pub record IsIdle (works : List Work) : Type 0 where
  pub receiver : (state_after rx_new (turns_of works)).busy ≡ None
  pub sender : (state_after tx_new (moments_of works)).live ≡ None

-- the work of one tick, after that of earlier ones, in which each machine sees all that stands; no tick is left out but where all is idle
pub record IsTick (sizes : List ℕ) (earlier : List Work) (work : Work) : Type 0 where
  pub later : tick_after earlier ≤ work.tick
  pub next : IsIdle earlier ⊎ (work.tick ≡ tick_after earlier)
  pub receives : ReceivesIn work.tick (turns_of earlier) work.turns
  pub looks : AreFreshTurns (sizes ∷ []) (view_of earlier) work.turns
  pub between : IsJoint sizes (view_between earlier work)
  pub sends : SendsIn work.tick (moments_of earlier) work.moments
  pub sees : AreFreshTurns (sizes ∷ []) (view_between earlier work) work.moments
  pub after : IsJoint sizes (view_of (work ∷ earlier))

abbrev pub AreTicks : List ℕ → List Work → Type 0
AreTicks sizes [] = Unit {0}
AreTicks sizes (work ∷ earlier) = IsTick sizes earlier work × AreTicks sizes earlier

-- the run's end in its last tick, after the work of its ticks: no reception and no transmission goes on, and each session was joined
pub record IsEnd (sizes : List ℕ) (path last : ℕ) (ticks : List Work) (end : Work) : Type 0 where
  pub tick_is : end.tick ≡ last
  pub in_time : tick_after ticks ≤ last + 1
  pub reached : IsIdle ticks ⊎ (tick_after ticks ≡ last + 1)
  pub receives : EndsReceiving last end.turns
  pub between : IsJoint sizes (view_between ticks end)
  pub sends : AllByRecursion (IsStepIn last RunEnd) end.moments
  pub idle : IsIdle (end ∷ ticks)
  pub joined : length ((view_of (end ∷ ticks)).sessions path) ≤ (state_after tx_new (moments_of (end ∷ ticks))).next

-- a whole run of a path with one destination, from the first tick to the end
pub record IsSerialRun (rx : RxSet) (tx : TxSet) (sizes : List ℕ) (last count free : ℕ) (ticks : List Work) (end : Work) : Type 0 where
  pub shape : IsShape tx.shape
  pub path : tx.path ≡ rx.path
  pub readers : rx.readers ≡ 1
  pub ticks_are : AreTicks sizes ticks
  pub ends : IsEnd sizes rx.path.0 last ticks end
  pub received : HasReceived rx (turns_of (end ∷ ticks))
  pub sent : HasSent tx (moments_of (end ∷ ticks))
  pub joint : IsJoint sizes (view_of (end ∷ ticks))
  pub word : IsWordOf (sizes ∷ []) 0 (view_of (end ∷ ticks)) count free
  pub in_order : CountsFrom 1 (map number_of (view_of (end ∷ ticks)).changes)

-- what is told of such a run: what came and what left on both channels, the records, the pool's moves, their number and the last free set
pub record RunTold : Type 0 where
  pub seen : List Seen
  pub controls : List Written
  pub sessions : List SessionRecord
  pub answers : List Answer
  pub frames : List Written
  pub dests : List DestRecord
  pub moves : List Move
  pub count : ℕ
  pub free : ℕ

-- what a run tells
abbrev pub told_by : TxSet → Shape → (count free : ℕ) → (ticks : List Work) → (end : Work) → RunTold
told_by tx shape count free ticks end = record {
  seen = came_by frames_in (turns_of (end ∷ ticks));
  controls = controls_by shape (turns_of (end ∷ ticks));
  sessions = records_by (turns_of (end ∷ ticks));
  answers = came_by controls_in (moments_of (end ∷ ticks));
  frames = left_by tx.shape (moments_of (end ∷ ticks));
  dests = records_by (moments_of (end ∷ ticks));
  moves = map move_of (view_of (end ∷ ticks)).changes;
  count = count;
  free = free;
}
