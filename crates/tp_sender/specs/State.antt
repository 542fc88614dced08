-- What a sender is at.
use Rattle.std.specs.Prelude.{ℕ, List, Option, Some, None}
use Rattle.std.specs.Prelude.{option_map}
use Rattle.hub_core.specs.Turns.{Did, Turn as TurnOf}
use Rattle.hub_core.specs.View.{Event}
use Rattle.hub_core.specs.declared.record.DestRecord.{DestRecord}
use Rattle.tp_unit.specs.Unit.{BoxMeaning, Keeps, Offers, Revokes}
use Rattle.tp_sender.specs.declared.event.TxEvent.{TxEvent}
use Rattle.tp_sender.specs.declared.event.TxEvent.TheVariants.{Turn, Fc as CameFc, Left, RunEnd}
use Rattle.tp_sender.specs.declared.transmission.Transmission.{Transmission as HeldTransmission}
use Rattle.tp_sender.specs.declared.transmission.Phase.{Phase}
use Rattle.tp_sender.specs.declared.transmission.Phase.TheVariants.{Start, Bytes, Box, Fc, Gap}
use Rattle.tp_sender.specs.declared.sender.Sender.{Sender}
use Rattle.tp_sender.specs.declared.set.TxSet.{TxSet}

-- a session that is being sent
pub record Transmission : Type 0 where
  -- its number on its path, and its unit's length in bytes
  pub seq : ℕ
  pub len : ℕ
  -- how many of its cells were read, and their bytes that weren't offered in a frame
  pub at : ℕ
  pub carried : List ℕ
  -- the tick in which it was joined, the bytes that left in frames, the sequence number of the next consecutive frame
  pub begin : ℕ
  pub sent : ℕ
  pub number : ℕ
  -- how many frames may still leave before a flow control is awaited again, where that isn't 0, and the ticks between two of them
  pub block : ℕ
  pub gap : ℕ
  -- what it waits for, and since which tick
  pub phase : Phase
  pub since : ℕ

-- a sender: the number of the session that it joins next, and the one that it sends
pub record TxState : Type 0 where
  pub next : ℕ
  pub live : Option Transmission

abbrev pub transmission_of : HeldTransmission → Transmission
transmission_of live = record {
  seq = live.at.seq;
  len = live.at.len;
  at = live.at.at;
  carried = live.carry;
  begin = live.begin.0;
  sent = live.sent;
  number = live.number;
  block = live.block;
  gap = live.gap;
  phase = live.phase;
  since = live.since.0;
}

abbrev pub state_of : Sender → TxState
state_of sender = record { next = sender.next; live = option_map transmission_of sender.live }

-- how it is configured
abbrev pub set_of : Sender → TxSet
set_of sender = sender.set

-- no session was joined yet
abbrev pub tx_new : TxState
tx_new = record { next = 0; live = None }

-- what a step of a sender comes to, and its turn
abbrev pub TxDid : Type 0
TxDid = Did Event BoxMeaning DestRecord TxState

abbrev pub TxTurn : Type 0
TxTurn = TurnOf TxEvent Event BoxMeaning DestRecord TxState

-- the tick since which its phase lasts, and 0 where it sends nothing
abbrev pub since_of : Option Transmission → ℕ
since_of None = 0
since_of (Some s) = s.since

-- a frame of it lies in its box
abbrev pub in_box : Phase → Type 0
in_box Start = ⊥
in_box Bytes = ⊥
in_box Box = Unit {0}
in_box Fc = ⊥
in_box (Gap until) = ⊥

abbrev pub HasFrame : Option Transmission → Type 0
HasFrame None = ⊥
HasFrame (Some s) = in_box s.phase

-- whether a frame lies in the box still, once the event came and nothing was done
abbrev pub StillHasFrame : TxEvent → Option Transmission → Type 0
StillHasFrame Turn live = HasFrame live
StillHasFrame (CameFc fs bs st) live = HasFrame live
StillHasFrame Left live = ⊥
StillHasFrame RunEnd live = HasFrame live

-- after an act a frame of the session lies in the box, or none does
abbrev pub IsInBox : BoxMeaning → (was : Type 0) → Option Transmission → Type 0
IsInBox Keeps was live = (was → HasFrame live) × (HasFrame live → was)
IsInBox (Offers meaning) was live = HasFrame live
IsInBox Revokes was live = HasFrame live → ⊥
