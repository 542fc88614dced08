-- What the formulas are for.
use Rattle.std.specs.Prelude.{◌≡◌, ℕ, ◌+◌, ◌<◌, ◌≤◌, Bool, false, Some, List, length, slice_get, take}
use Rattle.flow_plan.specs.Cells.{ArePayloads, cells_for, cells_in, cells_left}
use Rattle.flow_plan.specs.Grant.{frames_of, granted}
use Rattle.flow_plan.specs.Need.{needed}
use Rattle.flow_plan.specs.declared.block.Grant.{Grant}
use Rattle.flow_plan.specs.declared.block.Grant.TheVariants.{Wait}

-- the payloads of consecutive frames have as many cells as the formula says
abbrev pub PayloadsLaw : Type 0
PayloadsLaw = (cf left : ℕ) (payloads : List ℕ) → 0 < cf → ArePayloads cf left payloads → cells_in payloads ≡ cells_left cf left

-- what is granted with so many cells of room, while these payloads remain
abbrev pub grant_for : (bs room cf : ℕ) → List ℕ → Grant
grant_for bs room cf payloads = granted bs room (cells_for cf) (cells_in payloads) (length payloads)

-- after the granted frames before it each granted frame still has room; no more are granted than remain, and no more than the
-- block size; and a sender is asked to wait only where no full frame has room and not all that remains
pub record IsGranted (bs room cf : ℕ) (payloads : List ℕ) (grant : Grant) : Type 0 where
  pub room_for : (place bytes : ℕ) → place < frames_of grant (length payloads) → slice_get payloads place ≡ Some bytes → cells_in (take place payloads) + cells_for bytes ≤ room
  pub remain : frames_of grant (length payloads) ≤ length payloads
  pub block : 0 < bs → frames_of grant (length payloads) ≤ bs
  pub waits : grant ≡ Wait → 0 < length payloads → (room < cells_for cf) × (room < cells_in payloads)

abbrev pub GrantedLaw : Type 0
GrantedLaw = (bs room cf left : ℕ) (payloads : List ℕ) → 0 < cf → ArePayloads cf left payloads → IsGranted bs room cf payloads (grant_for bs room cf payloads)

-- in a buffer that fits a message, while no destination has read a cell: where a full frame has no room, and neither has all that
-- remains, the cells that were put have reached the threshold, and the message isn't stored whole before it is sent
pub record IsAtThreshold (threshold put : ℕ) (store : Bool) : Type 0 where
  pub reached : threshold ≤ put
  pub passes : store ≡ false

abbrev pub ProgressLaw : Type 0
ProgressLaw = (first whole threshold per_cf size put room left : ℕ) (store : Bool) → 0 < per_cf → needed first whole threshold per_cf store ≤ size → put + room ≡ size → put + left ≡ whole →
    room < per_cf → room < left → IsAtThreshold threshold put store
