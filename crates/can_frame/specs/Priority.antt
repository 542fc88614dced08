-- Which of two identifiers wins arbitration.
use Rattle.std.specs.Prelude.{◌≡◌, ℕ, ◌+◌, ◌*◌, ◌/◌, ◌%◌, ◌^◌, ◌<◌, ◌⊎◌, Bool, true, false}
use Rattle.can_frame.specs.declared.id.CanId.{CanId}
use Rattle.can_frame.specs.declared.id.CanId.TheVariants.{Std, Ext}
use Rattle.can_frame.specs.declared.arbitration.Priority.{Priority}

-- the first 11 bits
abbrev pub base_of : CanId → ℕ
base_of (Std number) = number
base_of (Ext number) = number / 2 ^ 18

-- 1 for an extended identifier
abbrev pub format_of : CanId → ℕ
format_of (Std number) = 0
format_of (Ext number) = 1

-- the other 18 bits
abbrev pub rest_of : CanId → ℕ
rest_of (Std number) = 0
rest_of (Ext number) = number % 2 ^ 18

-- whether it is an extended identifier
abbrev pub is_extended : CanId → Bool
is_extended (Std number) = false
is_extended (Ext number) = true

-- all bits in the order in which they are sent, as one number
abbrev pub priority_of : CanId → ℕ
priority_of id = base_of id * 2 ^ 19 + format_of id * 2 ^ 18 + rest_of id

-- the priority of an identifier
pub record IsPriority (id : CanId) (priority : Priority) : Type 0 where
  pub base : priority.base ≡ base_of id
  pub ext : priority.ext ≡ is_extended id
  pub rest : priority.rest ≡ rest_of id

-- a number is lower, or they are equal and what follows decides
abbrev pub IsLower : (a b : ℕ) → Type 0 → Type 0
IsLower a b next = (a < b) ⊎ ((a ≡ b) × next)

-- by the first 11 bits, then by the format, then by the other 18 bits
abbrev pub ComesBefore : (first second : CanId) → Type 0
ComesBefore first second =
    IsLower (base_of first) (base_of second)
    (IsLower (format_of first) (format_of second) (rest_of first < rest_of second))
