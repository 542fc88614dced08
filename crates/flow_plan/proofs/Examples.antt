-- The pace of one transmission, computed: a block of two frames, a wait, and then all that remain, three ticks apart.
use Rattle.std.proofs.Common.{◌≡◌, ℕ, Some, None, List, [], ◌∷◌, refl, arith}
use Rattle.flow_plan.specs.Pace.{Awaits, Control, IsPaced, May, pace_in}

abbrev controls : List Control
controls = record { tick = 2; status = 0; block = 2; gap = 1 } ∷ record { tick = 5; status = 1; block = 0; gap = 0 } ∷ record { tick = 8; status = 0; block = 0; gap = 3 } ∷ []

-- the first frame leaves in tick 1, and these follow
abbrev frames : List ℕ
frames = 3 ∷ 4 ∷ 9 ∷ 12 ∷ []

pub paced : IsPaced controls 1 frames
paced = (omega arith, (omega arith, (omega arith, (omega arith, tt))))

-- the block is over after two frames
pub none-after-the-block : IsPaced controls 1 (3 ∷ 4 ∷ 5 ∷ []) → ⊥
none-after-the-block paced = paced.1.1.0

-- two ticks between frames are fewer than the gap
pub none-in-the-gap : IsPaced controls 1 (3 ∷ 4 ∷ 9 ∷ 11 ∷ []) → ⊥
none-in-the-gap paced = let after = paced.1.1.1.0 in absurd (omega (arith, after))

-- a flow control is awaited from the first frame on, until it comes
pub awaits-in-1 : pace_in 1 1 controls frames ≡ Awaits 1 1
awaits-in-1 = refl

pub may-in-3 : pace_in 3 1 controls frames ≡ May 4 1 (Some 1)
may-in-3 = refl

-- and again after the block; a wait says since when
pub awaits-in-4 : pace_in 4 1 controls frames ≡ Awaits 4 4
awaits-in-4 = refl

pub awaits-in-6 : pace_in 6 1 controls frames ≡ Awaits 4 5
awaits-in-6 = refl

pub may-in-9 : pace_in 9 1 controls frames ≡ May 12 3 None
may-in-9 = refl
