-- The laws of whole runs, as their functions state them.
use Rattle.std.specs.Prelude.{◌≡◌, ◌≤◌, ℕ, List, filter, length, map}
use Rattle.hub_core.specs.Turns.{records_by, state_after}
use Rattle.hub_core.specs.View.{View}
use Rattle.hub_core.specs.declared.record.Move.{Move}
use Rattle.tp_attempts.specs.Seen.{Seen, is_data}
use Rattle.tp_receiver.specs.State.{RxTurn}
use Rattle.tp_receiver.specs.declared.set.RxSet.{RxSet}
use Rattle.tp_sender.specs.State.{TxTurn, tx_new}
use Rattle.tp_sender.specs.declared.set.TxSet.{TxSet}
use Rattle.gw_law.specs.Account.{Account}
use Rattle.gw_law.specs.Deeds.{Deeds, Window}
use Rattle.gw_law.specs.Delivery.{AreOfEach, AreWholeRuns, DeliveryLaw, delivery_of}
use Rattle.gw_law.specs.Lawful.{Lawful}
use Rattle.gw_law.specs.Pool.{AreAllOver, AreAllUsed, AreNamed, IsPoolRun, PoolEnds, PoolLaw, Source, channel_of}
use Rattle.gw_law.specs.Run.{IsRun}

-- the frames that a sender wrote deliver what the receiver of its path got
abbrev pub RunsDeliver : Type 0
RunsDeliver = (rx : RxSet) (turns : List RxTurn) (tx : TxSet) (moments : List TxTurn) (v : View) → AreWholeRuns rx turns tx moments v → DeliveryLaw (delivery_of rx turns tx moments)

-- so do all frames of its channel, with others between that carry no data
abbrev pub ChannelsDeliver : Type 0
ChannelsDeliver = (rx : RxSet) (turns : List RxTurn) (tx : TxSet) (moments : List TxTurn) (v : View) (frames : List Seen) → AreWholeRuns rx turns tx moments v →
    filter (λ (s : Seen). is_data s.meaning) frames ≡ (delivery_of rx turns tx moments).frames → DeliveryLaw (record (delivery_of rx turns tx moments) { frames = frames })

-- where a destination has joined as many sessions as its path has, each opened session has one record of it, in order
abbrev pub SessionsAreTold : Type 0
SessionsAreTold = (rx : RxSet) (turns : List RxTurn) (tx : TxSet) (moments : List TxTurn) (v : View) → AreWholeRuns rx turns tx moments v →
    length (v.sessions rx.path.0) ≤ (state_after tx_new moments).next → AreOfEach (records_by turns) (records_by moments)

-- the moves of a group of buffers replay, and each session has a take of its own
abbrev pub PoolsReplay : Type 0
PoolsReplay = (sources : List Source) (groups : List (List ℕ)) (group count free : ℕ) (v : View) (moves : List Move) → IsPoolRun sources groups group count free v moves → PoolLaw groups group count free (map channel_of sources) moves

-- where each take is a session's in the view, it is one's in the records
abbrev pub TakesAreNamed : Type 0
TakesAreNamed = (sources : List Source) (groups : List (List ℕ)) (group count free : ℕ) (v : View) (moves : List Move) → IsPoolRun sources groups group count free v moves → AreAllUsed groups group v → AreNamed groups (map channel_of sources) moves

-- where all sessions are over, all buffers of the group are free
abbrev pub PoolsEnd : Type 0
PoolsEnd = (sources : List Source) (groups : List (List ℕ)) (group count free : ℕ) (v : View) (moves : List Move) → IsPoolRun sources groups group count free v moves → AreAllOver v → PoolEnds groups group free (map channel_of sources) moves

-- what every run tells keeps all laws
abbrev pub RunsAreLawful : Type 0
RunsAreLawful = (a : Account) (d : Deeds) (windows : List Window) (v : View) → IsRun a d windows v → Lawful a
