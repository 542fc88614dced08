-- How many cells hold a payload, and all payloads of a message.
use Rattle.std.specs.Prelude.{◌≡◌, ℕ, ◌+◌, ◌-◌, ◌*◌, ◌/◌, ◌%◌, ◌<◌, min, List, [], ◌∷◌, sum_by}

-- the cells of a payload of so many bytes: seven bytes in each, and one more for the rest
abbrev pub cells_for : ℕ → ℕ
cells_for bytes = (bytes + 6) / 7

-- the cells of so many bytes in consecutive frames of up to `cf` bytes: those of the full frames, and those of the rest
abbrev pub cells_left : (cf left : ℕ) → ℕ
cells_left cf left = (left / cf) * cells_for cf + cells_for (left % cf)

-- these are the payloads of consecutive frames that carry so many bytes: each is full, or carries all that remains
abbrev pub ArePayloads : (cf left : ℕ) → List ℕ → Type 0
ArePayloads cf left [] = left ≡ 0
ArePayloads cf left (bytes ∷ later) = (0 < bytes) × (bytes ≡ min cf left) × ArePayloads cf (left - bytes) later

-- the cells of some payloads, each in cells of its own
abbrev pub cells_in : List ℕ → ℕ
cells_in payloads = sum_by cells_for payloads
