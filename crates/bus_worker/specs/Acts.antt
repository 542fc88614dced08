-- What the machines of a bus did, one step after another, and what each of them did by itself.
use Rattle.std.specs.Prelude.{ℕ, ◌==◌, if◌then◌else◌, List, [], ◌∷◌, ◌++◌}
use Rattle.hub_core.specs.View.{Event}
use Rattle.tp_receiver.specs.State.{RxTurn}
use Rattle.tp_sender.specs.State.{TxTurn}

-- a turn of a machine, by its channel's place on the bus
pub data Act : Type 0 where
  Received : (place : ℕ) → (turn : RxTurn) → Act
  Sent : (place : ℕ) → (turn : TxTurn) → Act

-- the turns of a channel's receiver, and of its sender, among acts, the newest first
abbrev pub received_by : (place : ℕ) → Act → List RxTurn
received_by place (Received other turn) = if other == place then turn ∷ [] else []
received_by place (Sent other turn) = []

abbrev pub sent_by : (place : ℕ) → Act → List TxTurn
sent_by place (Received other turn) = []
sent_by place (Sent other turn) = if other == place then turn ∷ [] else []

abbrev pub received_at : (place : ℕ) → List Act → List RxTurn
received_at place [] = []
received_at place (act ∷ earlier) = received_by place act ++ received_at place earlier

abbrev pub sent_at : (place : ℕ) → List Act → List TxTurn
sent_at place [] = []
sent_at place (act ∷ earlier) = sent_by place act ++ sent_at place earlier

-- what an act asked of the port and saw there, and what all acts did, the oldest first
abbrev pub calls_of : Act → List Event
calls_of (Received place turn) = turn.did.calls
calls_of (Sent place turn) = turn.did.calls

abbrev pub calls_in : List Act → List Event
calls_in [] = []
calls_in (act ∷ earlier) = calls_in earlier ++ calls_of act
