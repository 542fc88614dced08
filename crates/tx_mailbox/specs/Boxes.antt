-- What lies in the boxes of a bus, and which frames leave.
use Rattle.std.specs.Prelude.{◌≡◌, ℕ, ◌<◌, ◌≤◌, ◌==◌, ◌&&◌, ◌||◌, nat_lt, if◌then◌else◌, Bool, true, false, List, [], ◌∷◌, length, Option, Some, None, slice_get, ⊤}
use Rattle.std.specs.List.{AllByRecursion}
use Rattle.can_frame.specs.Frame.{CanFrame}
use Rattle.can_frame.specs.Priority.{priority_of, IsLower}

-- a box's number and the frame that lies in it
abbrev pub Pending : Type 0
Pending = ℕ × CanFrame

-- what lies in a box
abbrev pub content : (number : ℕ) → List Pending → Option CanFrame
content number [] = None
content number (entry ∷ pending) = if entry.0 == number then Some entry.1 else content number pending

-- what lies in a box when another one's content was set
abbrev pub with_content : (number : ℕ) → Option CanFrame → List Pending → (other : ℕ) → Option CanFrame
with_content number lies pending other = if other == number then lies else content other pending

-- the first frame wins arbitration, or the identifiers are equal and its box has the lower number
abbrev pub LeavesBefore : (first second : Pending) → Type 0
LeavesBefore first second = IsLower (priority_of first.1.id) (priority_of second.1.id) (first.0 < second.0)

-- the same as a test
abbrev pub leaves_before : (first second : Pending) → Bool
leaves_before first second =
    nat_lt (priority_of first.1.id) (priority_of second.1.id)
    || (priority_of first.1.id == priority_of second.1.id && nat_lt first.0 second.0)

-- frames of different boxes, such that each leaves before all that stand before it
abbrev pub AreInOrder : List Pending → Type 0
AreInOrder [] = ⊤
AreInOrder (entry ∷ pending) =
    AllByRecursion (λ other. (leaves_before other entry ≡ true) × ((other.0 == entry.0) ≡ false)) pending
    × AreInOrder pending

pub record IsPending (pending : List Pending) : Type 0 where
  pub in_order : AreInOrder pending
  pub boxes : AllByRecursion (λ entry. entry.0 < 176) pending

-- the frames that leave, and what stays, where at most a budget of frames may leave
pub record IsEmitted (budget : ℕ) (before out after : List Pending) : Type 0 where
  pub few : length out ≤ budget
  -- what leaves lay in its box, which is empty then
  pub pending : (i : ℕ) (entry : Pending) → slice_get out i ≡ Some entry → content entry.0 before ≡ Some entry.1
  pub gone : (i : ℕ) (entry : Pending) → slice_get out i ≡ Some entry → content entry.0 after ≡ None
  pub in_order : (i j : ℕ) (first second : Pending) → i < j → slice_get out i ≡ Some first →
      slice_get out j ≡ Some second → LeavesBefore first second
  -- a box of which nothing leaves keeps its frame
  pub kept : (number : ℕ) → ((i : ℕ) (entry : Pending) → slice_get out i ≡ Some entry → entry.0 ≡ number → ⊥) →
      content number after ≡ content number before
  -- where a frame stays, the budget is used up, by frames that all leave before it
  pub least : (number : ℕ) (frame : CanFrame) → content number after ≡ Some frame →
      (i : ℕ) (entry : Pending) → slice_get out i ≡ Some entry → LeavesBefore entry (number, frame)
  pub full : (number : ℕ) (frame : CanFrame) → content number after ≡ Some frame →
      (length out ≡ budget) × AllByRecursion (λ entry. priority_of entry.1.id ≤ priority_of frame.id) out
