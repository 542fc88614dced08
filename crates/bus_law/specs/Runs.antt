-- What each machine of a bus did in a run by itself, and what is told of its channel.
use Rattle.std.specs.Prelude.{◌≡◌, ℕ, ◌≤◌, None, Some, List, [], ◌∷◌, length}
use Rattle.std.specs.List.{AllByRecursion}
use Rattle.hub_core.specs.Turns.{Part, state_after}
use Rattle.receiver_law.specs.RxRun.{RxRun}
use Rattle.sender_law.specs.Runs.{TxRun}
use Rattle.tp_receiver.specs.Runs.{HasReceived}
use Rattle.tp_receiver.specs.State.{RxTurn}
use Rattle.tp_receiver.specs.declared.set.RxSet.{RxSet}
use Rattle.tp_sender.specs.Runs.{HasSent}
use Rattle.tp_sender.specs.State.{TxTurn, tx_new}
use Rattle.tp_sender.specs.declared.set.TxSet.{TxSet}
use Rattle.tp_unit.specs.Box.{NeverFall, Written, left_in}
use Rattle.tp_unit.specs.Shape.{IsShape}
use Rattle.tp_unit.specs.declared.shape.Shape.{Shape}
use Rattle.gw_law.specs.Account.{is_full_for}
use Rattle.gw_law.specs.Emission.{AreByPriority}
use Rattle.bus_worker.specs.Acts.{Act, received_at, sent_at}
use Rattle.bus_worker.specs.History.{BusTick, left_in as left_on}
use Rattle.bus_worker.specs.Stands.{receives_at, sends_at}
use Rattle.bus_worker.specs.Tick.{acts_of}
use Rattle.bus_worker.specs.declared.channel.Channel.{Channel}

-- the acts of one tick, the newest first
abbrev pub tick_acts : BusTick → List Act
tick_acts t = acts_of t.came t.timers t.turns t.left []

-- what a channel's receiver, and its sender, did tick by tick
abbrev pub received_parts : (place : ℕ) → List BusTick → List (Part RxTurn)
received_parts place [] = []
received_parts place (t ∷ earlier) = record { tick = t.tick; turns = received_at place (tick_acts t) } ∷ received_parts place earlier

abbrev pub sent_parts : (place : ℕ) → List BusTick → List (Part TxTurn)
sent_parts place [] = []
sent_parts place (t ∷ earlier) = record { tick = t.tick; turns = sent_at place (tick_acts t) } ∷ sent_parts place earlier

-- their runs, on a bus that sends so many frames in a tick: it is full for a frame of an identifier by what left
abbrev pub rx_run : (budget last : ℕ) → List BusTick → (end : List Act) → (place : ℕ) → RxSet × Shape → RxRun
rx_run budget last ticks end place one = record {
  set = one.0;
  shape = one.1;
  full = is_full_for budget (left_on ticks) one.1.id;
  last = last;
  parts = received_parts place ticks;
  end = received_at place end;
}

abbrev pub tx_run : (budget last : ℕ) → List BusTick → (end : List Act) → (place : ℕ) → TxSet → TxRun
tx_run budget last ticks end place set = record {
  set = set;
  full = is_full_for budget (left_on ticks) set.shape.id;
  last = last;
  parts = sent_parts place ticks;
  end = sent_at place end;
}

-- what the machines of a bus did are runs of their tables; at the end no session is sent any more
pub record AreTables (channels : List Channel) (all : List Act) : Type 0 where
  pub receivers : (place : ℕ) (one : RxSet × Shape) → receives_at channels place ≡ Some one → HasReceived one.0 (received_at place all) × IsShape one.1
  pub senders : (place : ℕ) (set : TxSet) → sends_at channels place ≡ Some set → HasSent set (sent_at place all) × IsShape set.shape
  pub idle : (place : ℕ) (set : TxSet) → sends_at channels place ≡ Some set → (state_after tx_new (sent_at place all)).live ≡ None

-- what left on a bus: in the order of the ticks, at most a budget of frames in each, by priority, and none after the last one
pub record SendsInOrder (budget last : ℕ) (left : List Written) : Type 0 where
  pub order : NeverFall 0 left
  pub most : (tick : ℕ) → length (left_in tick left) ≤ budget
  pub end : AllByRecursion (λ (w : Written). w.tick ≤ last) left
  pub by_priority : AreByPriority left
