-- The order of priorities as one number is that of their parts.
use Rattle.std.proofs.Common.{◌≡◌, ℕ, ◌+◌, ◌*◌, ◌^◌, ◌<◌, ◌≤◌, inl, inr, ⊎_elim, arith, mod-lt}
use Rattle.std.specs.Prelude.{◌↔◌}
use mathlib.Core.Logic.{dite}
use native.Mathlib.Decide.{dec_lt}
use Rattle.can_frame.specs.Priority.{base_of, format_of, rest_of, priority_of, IsLower, ComesBefore}
use Rattle.can_frame.specs.declared.id.CanId.{CanId}
use Rattle.can_frame.specs.declared.id.CanId.TheVariants.{Std, Ext}

format_small : (id : CanId) → format_of id ≤ 1
format_small (Std number) = omega arith
format_small (Ext number) = omega arith

rest_small : (id : CanId) → rest_of id < 2 ^ 18
rest_small (Std number) = omega arith
rest_small (Ext number) = mod-lt number (omega arith)

by_parts : (a b c x y z : ℕ) → b ≤ 1 → y ≤ 1 → c < 2 ^ 18 → z < 2 ^ 18 → a * 2 ^ 19 + b * 2 ^ 18 + c < x * 2 ^ 19 + y * 2 ^ 18 + z → IsLower a x (IsLower b y (c < z))
by_parts a b c x y z e f g h less = dite (dec_lt a x)
    (λ low. inl low)
    (λ not. let same : a ≡ x = omega (arith, not, less, e, f, g, h) in inr (
      same,
      dite (dec_lt b y)
          (λ low. inl low)
          (λ no. let also : b ≡ y = omega (arith, no, same, less, e, f, g, h) in inr (also, omega (arith, same, also, less))),
    ))

by_number : (a b c x y z : ℕ) → b ≤ 1 → y ≤ 1 → c < 2 ^ 18 → z < 2 ^ 18 → IsLower a x (IsLower b y (c < z)) → a * 2 ^ 19 + b * 2 ^ 18 + c < x * 2 ^ 19 + y * 2 ^ 18 + z
by_number a b c x y z e f g h low = ⊎_elim
    (λ less. omega (arith, less, e, f, g, h))
    (λ same. ⊎_elim (λ less. omega (arith, same.0, less, e, f, g, h)) (λ also. omega (arith, same.0, also.0, also.1)) same.1)
    low

pub order_of_parts : (first second : CanId) → (priority_of first < priority_of second) ↔ ComesBefore first second
order_of_parts first second = (
  by_parts (base_of first) (format_of first) (rest_of first) (base_of second) (format_of second) (rest_of second) (format_small first) (format_small second) (rest_small first) (rest_small second),
  by_number (base_of first) (format_of first) (rest_of first) (base_of second) (format_of second) (rest_of second) (format_small first) (format_small second) (rest_small first) (rest_small second),
)
