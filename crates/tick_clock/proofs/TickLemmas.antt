-- What the definitions of ticks mean for one stamp and for a whole log.
use Rattle.std.proofs.Common.{◌≡◌, ℕ, zero, suc, ◌+◌, ◌-◌, ◌*◌, ◌/◌, ◌^◌, ◌<◌, ◌≤◌, max, List, [], ◌∷◌, ◌++◌, length, get_or, take, map, inl, inr, refl, sym, ap, ◌∙◌, arith, add-one}
use Rattle.std.specs.Prelude.{◌↔◌, fold}
use Rattle.std.proofs.lemmas.Bool.{cases_lt}
use Rattle.std.proofs.lemmas.Nat.{div-mul-add, mul-le}
use Rattle.std.proofs.lemmas.Grind.{fold-append}
use Rattle.std.proofs.lemmas.List.{take-append-le, take_all, map-append, length_push, get_or_append_left, get_or_push}
use Rattle.std.proofs.lemmas.List.FromFn.{fill_by_all, length-map-range_with_len, get_or-map-range_with_len}
use Rattle.tick_clock.specs.Ticks.{tick_at, LiesIn, stamp_after, greatest, tick_of_position, ticks_of, last_tick, running_from, running_ticks}

-- a stamp from the start on lies in tick k exactly where k is its tick
pub tick_at-LiesIn : (start period at k : ℕ) → 0 < period → start ≤ at → (tick_at start period at ≡ k) ↔ LiesIn start period at k
tick_at-LiesIn start period at k some from = (
  λ e. rw (← e) (record { begun = omega arith; not_over = omega arith }),
  λ (lies : LiesIn start period at k).
      let rest : at - start ≡ k * period + (at - (start + k * period)) = omega arith in
      rw rest (div-mul-add k period (at - (start + k * period)) (omega arith)),
)

-- what is sent in a tick bears the first stamp of the next tick
pub tick_at-stamp_after : (start period tick : ℕ) → 0 < period → tick_at start period (stamp_after start period tick) ≡ tick + 1
tick_at-stamp_after start period tick some =
    let since : stamp_after start period tick - start ≡ (tick + 1) * period + 0 = omega arith in
    ap (λ (since : ℕ). since / period) since ∙ div-mul-add (tick + 1) period 0 some

-- no two ticks have one stamp
pub stamp_after-injective : (start period j k : ℕ) → 0 < period → stamp_after start period j ≡ stamp_after start period k → j ≡ k
stamp_after-injective start period j k some same =
    let next : j + 1 ≡ k + 1 = sym (tick_at-stamp_after start period j some) ∙ ap (tick_at start period) same ∙ tick_at-stamp_after start period k some in
    omega arith

-- a run's stamps, at the longest period, have ten digits of seconds
pub stamp_after-below : (start period tick : ℕ) → start < 5 * 10 ^ 15 → period ≤ 1_000_000 → tick ≤ 10_000_000 → stamp_after start period tick < 10 ^ 16
stamp_after-below start period tick date short run =
    let most : (tick + 1) * period ≤ 10_000_001 * 1_000_000 = mul-le (tick + 1) period 10_000_001 1_000_000 (omega arith) short in
    omega arith

-- a longer log has the same ticks at the positions that it shares
tick_of_position-append : (start period : ℕ) (stamps more : List ℕ) (i : ℕ) → i < length stamps →
    tick_of_position start period (stamps ++ more) i ≡ tick_of_position start period stamps i
tick_of_position-append start period stamps more i inside =
    ap (λ (xs : List ℕ). greatest (map (tick_at start period) xs)) (take-append-le (i + 1) stamps more (omega arith))

-- the last position's tick is the greatest of all
tick_of_position-last : (start period : ℕ) (stamps : List ℕ) (i : ℕ) → i + 1 ≡ length stamps →
    tick_of_position start period stamps i ≡ greatest (map (tick_at start period) stamps)
tick_of_position-last start period stamps i last =
    ap (λ (xs : List ℕ). greatest (map (tick_at start period) xs)) (take_all (i + 1) stamps (omega arith))

-- the last tick is the greatest of all
pub last_tick-ticks_of : (start period : ℕ) (stamps : List ℕ) → last_tick (ticks_of start period stamps) ≡ greatest (map (tick_at start period) stamps)
last_tick-ticks_of start period [] = refl
last_tick-ticks_of start period (at ∷ stamps) =
    let all : List ℕ = at ∷ stamps in
    let position = tick_of_position start period all in
    rw (length-map-range_with_len position 0 (length all))
    (get_or-map-range_with_len position 0 (length all) (length all - 1) (length all - 1) 0 (omega arith) (omega arith)
    ∙ tick_of_position-last start period all (length all - 1) (omega arith))

-- one more stamp has its own tick, or the last one where that is greater
pub ticks-snoc : (start period : ℕ) (stamps : List ℕ) (at : ℕ) →
    ticks_of start period (stamps ++ at ∷ []) ≡ ticks_of start period stamps ++ max (last_tick (ticks_of start period stamps)) (tick_at start period at) ∷ []
ticks-snoc start period stamps at =
    let more : List ℕ = stamps ++ at ∷ [] in
    let ticks : List ℕ = ticks_of start period stamps in
    let new : ℕ = max (last_tick ticks) (tick_at start period at) in
    let many : length more ≡ length stamps + 1 = length_push stamps at in
    let ticked : length ticks ≡ length stamps = length-map-range_with_len (tick_of_position start period stamps) 0 (length stamps) in
    let newest : new ≡ greatest (map (tick_at start period) more) =
    ap (λ (top : ℕ). max top (tick_at start period at)) (last_tick-ticks_of start period stamps)
    ∙ sym (fold-append max 0 (map (tick_at start period) stamps) (tick_at start period at ∷ []))
    ∙ ap greatest (sym (map-append (tick_at start period) stamps (at ∷ []))) in
    sym (fill_by_all (tick_of_position start period more) (ticks ++ new ∷ []) (length more) 0
    (length_push ticks new ∙ omega arith)
    (λ k inside. elim (cases_lt k (length stamps)) [
      | inl below ↦
          get_or_append_left ticks (new ∷ []) 0 k (omega arith)
          ∙ get_or-map-range_with_len (tick_of_position start period stamps) 0 (length stamps) k k 0 below (omega arith)
          ∙ sym (tick_of_position-append start period stamps (at ∷ []) k below)
      | inr top ↦
          get_or_push ticks new 0 k (omega arith) ∙ newest
          ∙ sym (tick_of_position-last start period more k (omega arith))
    ]))

-- a running value has an item for each stamp
length-running_from : (start period top : ℕ) (stamps : List ℕ) → length (running_from start period top stamps) ≡ length stamps
length-running_from start period top [] = refl
length-running_from start period top (at ∷ stamps) = ap suc (length-running_from start period (max top (tick_at start period at)) stamps)

-- a running value's items are greatest values
get_or-running_from : (start period top : ℕ) (stamps : List ℕ) (i : ℕ) → i < length stamps →
    get_or (running_from start period top stamps) i 0 ≡ fold max top (map (tick_at start period) (take (suc i) stamps))
get_or-running_from start period top [] i inside = absurd (omega arith)
get_or-running_from start period top (at ∷ stamps) zero inside = refl
get_or-running_from start period top (at ∷ stamps) (suc i) inside =
    get_or-running_from start period (max top (tick_at start period at)) stamps i (omega arith)

-- the running value computes the ticks of a log
pub running_ticks-ticks_of : (start period : ℕ) (stamps : List ℕ) → running_ticks start period stamps ≡ ticks_of start period stamps
running_ticks-ticks_of start period stamps =
    fill_by_all (tick_of_position start period stamps) (running_ticks start period stamps) (length stamps) 0
    (length-running_from start period 0 stamps)
    (λ i inside. rw add-one (get_or-running_from start period 0 stamps i inside))
