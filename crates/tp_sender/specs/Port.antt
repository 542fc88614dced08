-- A sender and its port: what they know of one another, what a step over the port is, and what its calls leave as it is.
use Rattle.std.specs.Prelude.{◌≡◌, ◌≢◌, ℕ, ◌+◌, ◌<◌, ◌≤◌, ◌⊎◌, true, false, List, length, map, All, Option, Some, None}
use Rattle.std.specs.Prelude.{option_map, option_to_list}
use Rattle.gw_base.specs.Cell.{IsCell}
use Rattle.hub_core.specs.Calls.{Means, SameMeans, ByReader}
use Rattle.hub_core.specs.Floors.{Floors, IsFresh}
use Rattle.hub_core.specs.Tokens.{Reads}
use Rattle.hub_core.specs.Stays.{PortState}
use Rattle.hub_core.specs.Turns.{Over}
use Rattle.hub_core.specs.declared.port.Left.{Left}
use Rattle.hub_core.specs.declared.port.Left.TheVariants.{Others, Last}
use Rattle.hub_core.specs.declared.record.Move.{Move}
use Rattle.hub_core.specs.View.{View, Event, Joining, Missed, Read, grow, grows}
use Rattle.tp_unit.specs.Unit.{box_meaning_of}
use Rattle.tp_sender.specs.declared.event.TxActs.{TxActs}
use Rattle.tp_sender.specs.declared.event.TxEvent.{TxEvent}
use Rattle.tp_sender.specs.declared.sender.Sender.{Sender}
use Rattle.tp_sender.specs.declared.transmission.Outcome.{Outcome}
use Rattle.tp_sender.specs.declared.transmission.Transmission.{Transmission as HeldTransmission}
use Rattle.tp_sender.specs.declared.set.TxSet.{TxSet}
use Rattle.tp_sender.specs.State.{TxDid, TxState, transmission_of}
use Rattle.tp_sender.specs.Table.{AreWanted, TxStep, fetched, joined_in}

-- a session's token is of this path and destination, and of the session before the next one, and the port's view has it
pub record KnowsToken (v : View) (set : TxSet) (next : ℕ) (live : HeldTransmission) : Type 0 where
  pub path : live.at.path ≡ set.path
  pub dest : live.at.dest ≡ set.dest
  pub seq : live.at.seq + 1 ≡ next
  pub reads : Reads v live.at

abbrev pub KnowsLive : View → TxSet → ℕ → Option HeldTransmission → Type 0
KnowsLive v set next None = Unit {0}
KnowsLive v set next (Some live) = KnowsToken v set next live

-- the port expects the sender's next session of its destination, and knows the token of the one that it sends
pub record Knows (v : View) (sender : Sender) : Type 0 where
  pub next : length (v.readings sender.set.path.0 sender.set.dest.0) ≡ sender.next
  pub live : KnowsLive v sender.set sender.next sender.live

-- the port acts for the set's destination, and the set's group is one of its pool's
pub record ActsForSet (means : Means) (set : TxSet) : Type 0 where
  pub reads : means.reads set.path.0 set.dest.0 ≡ true
  pub group : set.group.0 < length means.groups

abbrev pub ActsFor : Means → Sender → Type 0
ActsFor means sender = ActsForSet means sender.set

-- all other parties' sessions and readings are as before
pub record OthersStay (path dest : ℕ) (old new : View) : Type 0 where
  pub sessions : new.sessions ≡ old.sessions
  pub others_of : (other : ℕ) → other ≢ path → new.readings other ≡ old.readings other
  pub others : (other : ℕ) → other ≢ dest → new.readings path other ≡ old.readings path other

-- what a step in a tick comes to, over a port that did and saw these calls, by what the machine does and its state then
abbrev pub did_by : ℕ → List Event → TxActs → TxState → TxDid
did_by tick calls acts new = record { tick = tick; calls = calls; act = box_meaning_of acts.boxed; records = option_to_list acts.ended; new = new }

abbrev pub did_of : (tick next : ℕ) → List Event → Outcome → TxDid
did_of tick next calls outcome = did_by tick calls outcome.acts (record { next = next; live = option_map transmission_of outcome.live })

-- what the last party to leave freed
abbrev pub left_by : Option Move → Left
left_by None = Others
left_by (Some move) = Last move.change move.buf

abbrev pub IsFree : Option Move → Type 0
IsFree None = Unit {0}
IsFree (Some move) = move.took ≡ false

-- a part of a step that comes to this over the port, whatever the step's other calls
abbrev pub OverRow : (List Event → TxDid → Type 0) → Floors → (before after : View) → (tick next : ℕ) → Outcome → Type 0
OverRow Row floors before after tick next outcome = Over floors before after (option_to_list outcome.acts.moved) (λ calls. (all : List Event) → Row calls (did_of tick next all outcome))

-- the same over a port
abbrev pub RowOver : {Home : Type 0} → (List Event → TxDid → Type 0) → (old new : PortState Home) → (tick next : ℕ) → Outcome → Type 0
RowOver Row old new tick next outcome = OverRow Row old.floors old.view new.view tick next outcome

-- a step of the sender over its port
abbrev pub StepOver : TxSet → (old new : TxState) → TxEvent → ℕ → Floors → (before after : View) → TxActs → Type 0
StepOver set old new event tick floors before after acts = Over floors before after (option_to_list acts.moved) (λ calls. TxStep set old event (did_by tick calls acts new))

-- the same over a port
abbrev pub StepOverPort : {Home : Type 0} → TxSet → (was now : TxState) → TxEvent → ℕ → (old new : PortState Home) → TxActs → Type 0
StepOverPort set was now event tick old new acts = StepOver set was now event tick old.floors old.view new.view acts

-- after calls of this destination: its number of sessions and all other parties are as before, what the port may do stays,
-- and the port knows the session that goes on
pub record KeepsPort (set : TxSet) (next : ℕ) (live : Option HeldTransmission) (before after : View) (had has : Means) : Type 0 where
  pub by : ByReader set.path.0 set.dest.0 0 before after
  pub means : SameMeans had has
  pub knows : KnowsLive after set next live

-- the cells read so far, while fewer bytes than wanted are carried
pub record ReadsOn (wanted : ℕ) (was now : HeldTransmission) (before after : View) (cells : List ℕ) : Type 0 where
  pub view : after ≡ grows (map (Read was.at.path.0 was.at.dest.0 was.at.seq) cells) before
  pub cells_only : All IsCell cells
  pub wanted_all : AreWanted wanted (length was.carry) cells
  pub state : transmission_of now ≡ fetched cells (transmission_of was)
  pub path : now.at.path ≡ was.at.path
  pub dest : now.at.dest ≡ was.at.dest
  pub seen : now.at.seen ≡ was.at.seen
  pub within : now.at.at ≤ now.at.seen
  pub reads : Reads after now.at
  pub by : ByReader was.at.path.0 was.at.dest.0 0 before after

-- some cells are read
pub record ReadsSome (wanted : ℕ) (was now : HeldTransmission) (before after : View) (had has : Means) : Type 0 where
  pub cells : List ℕ
  pub on : ReadsOn wanted was now before after cells
  pub means : SameMeans had has

-- some cells are read, until as many bytes as wanted are carried or no cell is left
pub record ReadsEnough (wanted : ℕ) (was now : HeldTransmission) (before after : View) (had has : Means) : Type 0 where
  pub some : ReadsSome wanted was now before after had has
  pub stops : (wanted ≤ length now.carry) ⊎ (now.at.at ≡ now.at.seen)

-- the session that is joined is the next one, and the port knows its token
pub record JoinsLive (set : TxSet) (next tick : ℕ) (before after : View) (live : HeldTransmission) : Type 0 where
  pub view : after ≡ grow (Joining set.path.0 set.dest.0 next live.at.buf.0 live.at.len) before
  pub some : 0 < live.at.len
  pub few : next < 8000000
  pub state : transmission_of live ≡ joined_in tick next live.at.len
  pub by : ByReader set.path.0 set.dest.0 1 before after
  pub knows : KnowsToken after set (next + 1) live

-- the next session is joined, or none stands
abbrev pub JoinsOver : TxSet → (next tick : ℕ) → Floors → (before after : View) → Option HeldTransmission → Type 0
JoinsOver set next tick floors before after None =
    (after ≡ grow (Missed set.group.0 set.path.0 set.dest.0 next) before) × ByReader set.path.0 set.dest.0 0 before after × IsFresh before floors (Missed set.group.0 set.path.0 set.dest.0 next)
JoinsOver set next tick floors before after (Some live) = JoinsLive set next tick before after live
