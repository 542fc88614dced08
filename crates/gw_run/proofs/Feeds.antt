-- The frames of a log that are still to come.
use Rattle.std.proofs.Common.{◌≡◌, ℕ, suc, ◌+◌, ◌<◌, ◌≤◌, max, fold, List, [], ◌∷◌, length, map, refl, ap, arith}
use Rattle.tick_clock.specs.Ticks.{tick_at}
use Rattle.candump_log.specs.declared.log.Stamped.{Stamped}
use Rattle.gw_run.specs.Feed.{ComeAfter, ComeWithin}
use Rattle.gw_law.specs.Channels.{InTick}
use Rattle.gw_run.specs.Frames.{greatest_tick, in_ticks, in_ticks_from}

-- a greatest value is at least the one that it starts from
from_below : (top : ℕ) (ticks : List ℕ) → top ≤ fold max top ticks
from_below top [] = omega arith
from_below top (tick ∷ ticks) = omega (arith, from_below (max top tick) ticks)

within_from : (start period before most : ℕ) (frames : List Stamped) →
    fold max before (map (λ (s : Stamped). tick_at start period s.at.0) frames) ≤ most → ComeWithin before most (in_ticks_from start period before frames)
within_from start period before most [] by = tt
within_from start period before most (s ∷ frames) by =
    let next : ℕ = max before (tick_at start period s.at.0) in
    (omega arith, omega (arith, from_below next (map (λ (s : Stamped). tick_at start period s.at.0) frames)), within_from start period next most frames by)

-- the frames of a log come in the order of their ticks, none later than the greatest of them
pub come_within : (start period most : ℕ) (frames : List Stamped) → greatest_tick start period frames ≤ most → ComeWithin 0 most (in_ticks start period frames)
come_within start period most frames by = within_from start period 0 most frames by

-- as many as the log has
pub length-in_ticks : (start period before : ℕ) (frames : List Stamped) → length (in_ticks_from start period before frames) ≡ length frames
length-in_ticks start period before [] = refl
length-in_ticks start period before (s ∷ frames) = ap suc (length-in_ticks start period (max before (tick_at start period s.at.0)) frames)

-- where none comes by a tick, all come after it
pub later-within : (tick least most : ℕ) (frames : List InTick) → ComeAfter tick frames → ComeWithin least most frames → ComeWithin (tick + 1) most frames
later-within tick least most [] later within = tt
later-within tick least most (f ∷ frames) later within = (omega arith, within.1, within.2)

-- none comes after the last tick
pub none-within : (least most : ℕ) (frames : List InTick) → most < least → ComeWithin least most frames → frames ≡ []
none-within least most [] past within = refl
none-within least most (f ∷ frames) past within = absurd (omega (arith, within.0, within.1))
