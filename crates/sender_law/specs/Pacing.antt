-- What the flow controls of a destination's channel let leave (ISO 15765-2, flow control).
use Rattle.std.specs.Prelude.{ℕ, List, [], ◌∷◌, map}
use Rattle.flow_plan.specs.Gap.{gap_in}
use Rattle.flow_plan.specs.Pace.{Control, IsPaced}
use Rattle.tp_attempts.specs.Walk.{Piece}
use Rattle.tp_unit.specs.Box.{Answer}

-- what a flow control asks for, where a tick lasts so many microseconds
abbrev pub control_of : (period : ℕ) → Answer → Control
control_of period answer = record { tick = answer.tick; status = answer.status; block = answer.block_size; gap = gap_in answer.separation period }

abbrev pub controls_of : (period : ℕ) → List Answer → List Control
controls_of period answers = map (control_of period) answers

-- the frames of a transmission leave as the flow controls permit, each consecutive frame after the first one
abbrev pub Paced : List Control → List Piece → Type 0
Paced controls [] = Unit {0}
Paced controls (first ∷ later) = IsPaced controls first.at (map (λ (piece : Piece). piece.at) later)
