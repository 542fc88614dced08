-- Frames of which at most one leaves in a tick: their ticks strictly rise.
use Rattle.std.proofs.Common.{◌≡◌, inl, inr, ℕ, ◌+◌, ◌<◌, ◌≤◌, Option, None, Some, List, [], ◌∷◌, ◌++◌, length, refl, arith, append-nil}
use Rattle.std.specs.List.{AllByRecursion}
use Rattle.std.proofs.lemmas.Bool.Decides.{eqb_tells}
use Rattle.tp_unit.specs.Box.{IsFull, NeverFall, Written, left_in, written_of}
use Rattle.tp_unit.specs.Unit.{Meaning}
use Rattle.tp_unit.specs.declared.shape.Shape.{Shape}

-- the ticks strictly rise, from this one on and below that one
abbrev pub Rise : ℕ → List Written → ℕ → Type 0
Rise from [] end = from ≤ end
Rise from (w ∷ later) end = (from ≤ w.tick) × Rise (w.tick + 1) later end

pub rise-later : (from end last : ℕ) (written : List Written) → end ≤ last → Rise from written end → Rise from written last
rise-later from end last [] later rise = omega (arith, later, rise)
rise-later from end last (w ∷ written) later rise = (rise.0, rise-later (w.tick + 1) end last written later rise.1)

pub rise-next : (from end : ℕ) (written : List Written) (w : Written) → end ≤ w.tick → Rise from written end → Rise from (written ++ w ∷ []) (w.tick + 1)
rise-next from end [] w later rise = (omega (arith, later, rise), omega arith)
rise-next from end (v ∷ written) w later rise = (rise.0, rise-next (v.tick + 1) end written w later rise.1)

-- what lies in a box leaves, or nothing
pub rise-written : (shape : Shape) (from end tick : ℕ) (written : List Written) (lies : Option Meaning) → end ≤ tick → Rise from written end → Rise from (written ++ written_of shape tick lies) (tick + 1)
rise-written shape from end tick written None later rise = rw append-nil (rise-later from end (tick + 1) written (omega (arith, later)) rise)
rise-written shape from end tick written (Some meaning) later rise = rise-next from end written _ later rise

pub never-fall : (from start end : ℕ) (written : List Written) → start ≤ from → Rise from written end → NeverFall start written
never-fall from start end [] le rise = tt
never-fall from start end (w ∷ written) le rise = (omega (arith, le, rise.0), never-fall (w.tick + 1) w.tick end written (omega arith) rise.1)

pub rise-end : (from end : ℕ) (written : List Written) → Rise from written end → from ≤ end
rise-end from end [] rise = rise
rise-end from end (w ∷ written) rise = let above : w.tick + 1 ≤ end = rise-end (w.tick + 1) end written rise.1 in omega (arith, rise.0, above)

pub all-by : (from end last : ℕ) (written : List Written) → end ≤ last + 1 → Rise from written end → AllByRecursion (λ (w : Written). w.tick ≤ last) written
all-by from end last [] by rise = tt
all-by from end last (w ∷ written) by rise = let above : w.tick + 1 ≤ end = rise-end (w.tick + 1) end written rise.1 in (omega (arith, by, above), all-by (w.tick + 1) end last written by rise.1)

-- none left below the first tick, and one at most in each
pub none-left : (tick from end : ℕ) (written : List Written) → tick < from → Rise from written end → left_in tick written ≡ []
none-left tick from end [] below rise = refl
none-left tick from end (w ∷ written) below rise = elim (eqb_tells w.tick tick) [
  | inl is ↦ absurd (omega (arith, is.1, below, rise.0))
  | inr other ↦ rw other.0 (none-left tick (w.tick + 1) end written (omega (arith, below, rise.0)) rise.1)
]

pub at-most-once : (tick from end : ℕ) (written : List Written) → Rise from written end → length (left_in tick written) ≤ 1
at-most-once tick from end [] rise = omega arith
at-most-once tick from end (w ∷ written) rise = elim (eqb_tells w.tick tick) [
  | inl is ↦ rw (is.0, none-left tick (w.tick + 1) end written (omega (arith, is.1)) rise.1) (omega arith)
  | inr other ↦ rw other.0 (at-most-once tick (w.tick + 1) end written rise.1)
]

-- where a bus may write more than one frame in a tick, no tick is full
pub never-full : (budget tick from end : ℕ) (written : List Written) → 1 < budget → Rise from written end → IsFull written budget tick → ⊥
never-full budget tick from end written more rise full = let once : length (left_in tick written) ≤ 1 = at-most-once tick from end written rise in omega (arith, more, once, full)
