-- The payloads of consecutive frames, their number of cells, and the cells of the first of them.
use Rattle.std.proofs.Common.{◌≡◌, ℕ, ◌+◌, ◌-◌, ◌*◌, ◌<◌, ◌≤◌, zero, suc, Some, List, [], ◌∷◌, length, refl, ap, sym, ◌∙◌, inl, inr, arith}
use Rattle.std.specs.Prelude.{slice_get, take}
use Rattle.std.proofs.Math.Nat.{div-eq-sub-div, div-eq_of_lt, min-eq_left, min-eq_right, mod-eq-sub-mod, mod-eq_of_lt, add-mul, suc-mul}
use Rattle.std.proofs.lemmas.Bool.{cases_lt}
use Rattle.std.proofs.lemmas.List.Sums.{sum_by-cons}
use Rattle.flow_plan.specs.Cells.{ArePayloads, cells_for, cells_in, cells_left}

-- bytes of less than a full frame are the rest alone
pub left-short : (cf left : ℕ) → left < cf → cells_left cf left ≡ cells_for left
left-short cf left less = rw (div-eq_of_lt less, mod-eq_of_lt less) (omega arith)

-- and more are a full frame and what remains
pub left-full : (cf left : ℕ) → 0 < cf → cf ≤ left → cells_left cf left ≡ cells_for cf + cells_left cf (left - cf)
left-full cf left some le = rw (div-eq-sub-div some le, mod-eq-sub-mod le) (omega arith)

pub payloads_cells : (cf left : ℕ) (payloads : List ℕ) → 0 < cf → ArePayloads cf left payloads → cells_in payloads ≡ cells_left cf left
payloads_cells cf left [] some are = sym (left-short cf left (omega (arith, some, are)) ∙ ap cells_for are)
payloads_cells cf left (bytes ∷ later) some are =
    let rest : cells_in later ≡ cells_left cf (left - bytes) = payloads_cells cf (left - bytes) later some are.2 in
    let sum : cells_in (bytes ∷ later) ≡ cells_for bytes + cells_in later = sum_by-cons cells_for bytes later in
    elim (cases_lt left cf) [
      | inl less ↦
          let all : bytes ≡ left = are.1 ∙ min-eq_right (omega (arith, less)) in
          let none : left - bytes ≡ 0 = omega (arith, all) in
          omega (arith, sum, rest, ap cells_for all, left-short cf left less, ap (λ n. cells_left cf n) none, left-short cf 0 some)
      | inr more ↦
          let full : bytes ≡ cf = are.1 ∙ min-eq_left (omega (arith, more)) in
          omega (arith, sum, rest, ap cells_for full, left-full cf left some (omega (arith, more)), ap (λ n. cells_left cf (left - n)) full)
    ]

-- a payload has no more cells than a full frame's
pub payload-most : (cf left : ℕ) (payloads : List ℕ) (place bytes : ℕ) → ArePayloads cf left payloads → slice_get payloads place ≡ Some bytes → cells_for bytes ≤ cells_for cf
payload-most cf left [] place bytes are is = absurd cc
payload-most cf left (one ∷ later) zero bytes are is = let same : one ≡ bytes = cc in omega (arith, same, are.1)
payload-most cf left (one ∷ later) (suc place) bytes are is = payload-most cf (left - one) later place bytes are.2 is

-- so all have no more than as many full frames
pub payloads-most : (cf left : ℕ) (payloads : List ℕ) → ArePayloads cf left payloads → cells_in payloads ≤ length payloads * cells_for cf
payloads-most cf left [] are = omega arith
payloads-most cf left (bytes ∷ later) are =
    let rest : cells_in later ≤ length later * cells_for cf = payloads-most cf (left - bytes) later are.2 in
    let first : cells_for bytes ≤ cells_for cf = payload-most cf left (bytes ∷ later) 0 bytes are refl in
    let sum : cells_in (bytes ∷ later) ≡ cells_for bytes + cells_in later = sum_by-cons cells_for bytes later in
    let times : length (bytes ∷ later) * cells_for cf ≡ length later * cells_for cf + cells_for cf = suc-mul (length later) (cells_for cf) in
    omega (arith, rest, first, sum, times)

-- the cells of the first payloads, up to the one at a place: no more than of all, and no more than of as many full frames
pub first-of-all : (payloads : List ℕ) (place bytes : ℕ) → slice_get payloads place ≡ Some bytes → cells_in (take place payloads) + cells_for bytes ≤ cells_in payloads
first-of-all [] place bytes is = absurd cc
first-of-all (one ∷ later) zero bytes is =
    let same : one ≡ bytes = cc in
    let sum : cells_in (one ∷ later) ≡ cells_for one + cells_in later = sum_by-cons cells_for one later in
    omega (arith, ap cells_for same, sum)
first-of-all (one ∷ later) (suc place) bytes is =
    let so = first-of-all later place bytes is in
    let sum : cells_in (one ∷ later) ≡ cells_for one + cells_in later = sum_by-cons cells_for one later in
    let front : cells_in (take (suc place) (one ∷ later)) ≡ cells_for one + cells_in (take place later) = sum_by-cons cells_for one (take place later) in
    omega (arith, so, sum, front)

pub first-of-full : (cf left : ℕ) (payloads : List ℕ) (place bytes : ℕ) → ArePayloads cf left payloads → slice_get payloads place ≡ Some bytes →
    cells_in (take place payloads) + cells_for bytes ≤ (place + 1) * cells_for cf
first-of-full cf left [] place bytes are is = absurd cc
first-of-full cf left (one ∷ later) zero bytes are is = let most = payload-most cf left (one ∷ later) 0 bytes are is in omega (arith, most)
first-of-full cf left (one ∷ later) (suc place) bytes are is =
    let so : cells_in (take place later) + cells_for bytes ≤ (place + 1) * cells_for cf = first-of-full cf (left - one) later place bytes are.2 is in
    let first : cells_for one ≤ cells_for cf = payload-most cf left (one ∷ later) 0 one are refl in
    let front : cells_in (take (suc place) (one ∷ later)) ≡ cells_for one + cells_in (take place later) = sum_by-cons cells_for one (take place later) in
    let times : (place + 1 + 1) * cells_for cf ≡ (place + 1) * cells_for cf + 1 * cells_for cf = add-mul (place + 1) 1 (cells_for cf) in
    let next : (suc place + 1) * cells_for cf ≡ (place + 1 + 1) * cells_for cf = ap (λ (n : ℕ). n * cells_for cf) (omega arith) in
    omega (arith, so, first, front, times, next)
