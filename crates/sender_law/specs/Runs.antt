-- A run of one sender, tick by tick: it sees its bus only by the ticks in which that is full for its frame.
use Rattle.std.specs.Prelude.{Bool, ◌≡◌, ◌⊎◌, ℕ, ◌+◌, ◌≤◌, None, List, [], ◌∷◌, ◌++◌}
use Rattle.std.specs.List.{AllByRecursion}
use Rattle.hub_core.specs.Turns.{Part, came_by, records_by, state_after, tick_after, turns_of}
use Rattle.tp_sender.specs.Runs.{HasSent, box_after, controls_in, left_by}
use Rattle.tp_sender.specs.State.{TxTurn, tx_new}
use Rattle.tp_sender.specs.declared.event.TxEvent.TheVariants.{RunEnd}
use Rattle.tp_sender.specs.declared.set.TxSet.{TxSet}
use Rattle.tp_unit.specs.Shape.{IsShape}
use Rattle.sender_law.specs.Channel.{DestChannel}
use Rattle.sender_law.specs.Parts.{IsStepIn, IsTxPart}

-- no session is sent, and nothing lies in the box
pub record IsTxIdle (turns : List TxTurn) : Type 0 where
  pub live : (state_after tx_new turns).live ≡ None
  pub box : box_after turns ≡ None

-- the part of a tick after earlier ones; no tick is left out but where the sender is idle
pub record IsNextPart (full : ℕ → Bool) (earlier : List (Part TxTurn)) (part : Part TxTurn) : Type 0 where
  pub later : tick_after earlier ≤ part.tick
  pub next : IsTxIdle (turns_of earlier) ⊎ (part.tick ≡ tick_after earlier)
  pub part_is : IsTxPart full (turns_of earlier) part

abbrev pub AreTxParts : (full : ℕ → Bool) → List (Part TxTurn) → Type 0
AreTxParts full [] = Unit {0}
AreTxParts full (part ∷ earlier) = IsNextPart full earlier part × AreTxParts full earlier

-- a sender in a run: how it is configured, the ticks in which its bus was full for its frame, the run's last tick, what it did
-- tick by tick, and its turns at the run's end
pub record TxRun : Type 0 where
  pub set : TxSet
  pub full : ℕ → Bool
  pub last : ℕ
  pub parts : List (Part TxTurn)
  pub end : List TxTurn

-- all its turns
abbrev pub turns_in : TxRun → List TxTurn
turns_in run = run.end ++ turns_of run.parts

-- it did so from the first tick on to the run's end, which comes in the last tick, or before it where it is idle; nothing is sent then
pub record IsTxRun (run : TxRun) : Type 0 where
  pub shape : IsShape run.set.shape
  pub happened : HasSent run.set (turns_in run)
  pub parts_are : AreTxParts run.full run.parts
  pub in_time : tick_after run.parts ≤ run.last + 1
  pub reached : IsTxIdle (turns_of run.parts) ⊎ (tick_after run.parts ≡ run.last + 1)
  pub ends : AllByRecursion (IsStepIn run.last RunEnd) run.end
  pub idle : (state_after tx_new (turns_in run)).live ≡ None

-- the limits of a flow control and of a frame in its box are of at least a tick
pub record HasLimits (set : TxSet) : Type 0 where
  pub n_as : 1 ≤ set.n_as
  pub n_bs : 1 ≤ set.n_bs

-- what its flow controls, its frames and its records are, on a bus that sends so many frames in a tick
abbrev pub leg_of : (budget : ℕ) → TxRun → DestChannel
leg_of budget run = record {
  tx = run.set;
  budget = budget;
  last = run.last;
  answers = came_by controls_in (turns_in run);
  frames = left_by run.set.shape (turns_in run);
  dests = records_by (turns_in run);
}
