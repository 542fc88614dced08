-- What a sender does in a tick: the flow controls that came, its turn, and its frame that leaves.
use Rattle.std.specs.Prelude.{◌≡◌, ℕ, Bool, Option, Some, None, List, [], ◌∷◌, ◌++◌}
use Rattle.std.specs.List.{AllByRecursion}
use Rattle.hub_core.specs.Turns.{Part}
use Rattle.tp_sender.specs.Runs.{box_after}
use Rattle.tp_sender.specs.State.{TxTurn}
use Rattle.tp_sender.specs.declared.event.TxEvent.{TxEvent}
use Rattle.tp_sender.specs.declared.event.TxEvent.TheVariants.{Turn, Fc, Left, RunEnd}
use Rattle.tp_unit.specs.Box.{Leaves}
use Rattle.tp_unit.specs.Unit.{Meaning}

-- a flow control that came in that tick
abbrev pub AnswersIn : ℕ → TxEvent → ℕ → Type 0
AnswersIn tick (Fc status block_size separation) at = at ≡ tick
AnswersIn tick Turn at = ⊥
AnswersIn tick Left at = ⊥
AnswersIn tick RunEnd at = ⊥

abbrev pub IsAnswerIn : ℕ → TxTurn → Type 0
IsAnswerIn tick turn = AnswersIn tick turn.event turn.did.tick

-- a step of the sender in that tick, for that event
abbrev pub IsStepIn : ℕ → TxEvent → TxTurn → Type 0
IsStepIn tick event turn = (turn.event ≡ event) × (turn.did.tick ≡ tick)

-- what lies in the sender's box leaves in that tick, and where nothing does nothing leaves
abbrev pub FrameLeaves : ℕ → Option Meaning → List TxTurn → Type 0
FrameLeaves tick None turns = turns ≡ []
FrameLeaves tick (Some meaning) [] = ⊥
FrameLeaves tick (Some meaning) (turn ∷ more) = IsStepIn tick Left turn × (more ≡ [])

-- the sender's part of a tick, on a bus that always has a place: the flow controls that came, its turn, and its frame that leaves
pub record SendsIn (tick : ℕ) (earlier moments : List TxTurn) : Type 0 where
  pub answers : List TxTurn
  pub turn : TxTurn
  pub left : List TxTurn
  pub moments_are : moments ≡ left ++ turn ∷ answers
  pub answers_only : AllByRecursion (IsAnswerIn tick) answers
  pub turn_is : turn.event ≡ Turn
  pub turn_tick : turn.did.tick ≡ tick
  pub left_is : FrameLeaves tick (box_after (turn ∷ (answers ++ earlier))) left

-- a sender's part of a tick, on a bus that is full for its frame in some ticks: the flow controls that came, its turn, and its
-- frame where that leaves
pub record IsTxPart (full : ℕ → Bool) (earlier : List TxTurn) (part : Part TxTurn) : Type 0 where
  pub answers : List TxTurn
  pub turn : TxTurn
  pub left : List TxTurn
  pub turns_are : part.turns ≡ left ++ turn ∷ answers
  pub answers_only : AllByRecursion (IsAnswerIn part.tick) answers
  pub turn_is : turn.event ≡ Turn
  pub turn_tick : turn.did.tick ≡ part.tick
  pub left_is : Leaves (IsStepIn part.tick Left) full part.tick (box_after (turn ∷ (answers ++ earlier))) left
