-- The exchanges of a take, named by the hub.
use Rattle.std.proofs.Common.{◌≡◌, ℕ, ◌+◌, ◌-◌, ◌%◌, ◌^◌, List, Some, ap, sym, ◌∙◌, subst, eqb}
use Rattle.std.specs.Prelude.{slice_get}
use mathlib.Core.Option.{some}
use prog.Atomic.{either}
use Rattle.atomic_table.specs.Table.{step, Allows}
use Rattle.atomic_table.specs.declared.shared.Seat.{Seat}
use Rattle.gw_base.specs.Fit.{IsSmallest, NoneFits}
use Rattle.hub_core.specs.Groups.{first_of, group_of, place_of, sizes_of}
use Rattle.pool_words.specs.Pools.{pool_of}
use Rattle.pool_words.specs.declared.pool.Pool.{Pool}
use Rattle.hub_shared.proofs.Hubs.{of_rule, rule-groups, buffer-from, buffer-of}
use Rattle.hub_shared.proofs.Takes.{IsTaking, takes, refuses}
use Rattle.hub_shared.specs.Plays.{taking, refusing}
use Rattle.hub_shared.specs.Rule.{Kept}
use Rattle.hub_shared.specs.Seats.{groups_of}
use Rattle.hub_shared.specs.Takes.{HasLooked}
use Rattle.hub_shared.specs.declared.hub.SharedHub.{SharedHub}
use Rattle.hub_shared.specs.declared.sight.Note.{Note}
use Rattle.hub_shared.specs.declared.sight.Note.TheVariants.{Takes, Refuses}
use Rattle.hub_shared.specs.declared.sight.Sight.{Sight}

module _ (hub : SharedHub) (group word : ℕ) (seat : Seat Note Sight) (looked : HasLooked hub group word seat) (slots at : ℕ) (same : at ≡ group) (need : ℕ) where
  -- the exchange of a take may be made
  pub may-grant : (next buf cells : ℕ) → IsTaking (groups_of hub) slots seat.id group word next need buf cells seat.me looked.live looked.spare looked.there looked.hand →
      Allows (Kept (of_rule hub)) slots seat.id seat.me at (λ n. either (eqb n word) next n) (taking (step slots at word next (some (Takes need buf cells))) seat.me)
  may-grant next buf cells is = subst (λ (x : List (List ℕ) × ℕ). Allows (Kept x.0) slots seat.id seat.me x.1 (λ n. either (eqb n word) next n) (taking (step slots x.1 word next (some (Takes need buf cells))) seat.me)) (λ i. (sym (rule-groups hub) i, sym same i))
      (takes (groups_of hub) slots seat.id group word next need buf cells seat.me looked.live looked.spare looked.there looked.hand is)

  -- and that of an overflow
  pub may-refuse : NoneFits (sizes_of (groups_of hub) group) (word % 2 ^ 32) need → Allows (Kept (of_rule hub)) slots seat.id seat.me at (λ n. either (eqb n word) word n) (refusing (step slots at word word (some (Refuses need))) seat.me)
  may-refuse none-fits = subst (λ (x : List (List ℕ) × ℕ). Allows (Kept x.0) slots seat.id seat.me x.1 (λ n. either (eqb n word) word n) (refusing (step slots x.1 word word (some (Refuses need))) seat.me)) (λ i. (sym (rule-groups hub) i, sym same i))
      (refuses (groups_of hub) slots seat.id group word need seat.me looked.live looked.spare looked.there looked.hand none-fits)

  -- the buffer that is found is the one that is taken
  pub is-taking : (next first place buf cells : ℕ) (pool after : Pool) → first ≡ first_of hub.buffers.counts.items group → IsSmallest (sizes_of (groups_of hub) group) (word % 2 ^ 32) need place → buf ≡ first + place → slice_get hub.buffers.cells.items buf ≡ Some cells →
      pool ≡ pool_of word → after.changes ≡ pool.changes + 1 → after.free ≡ pool.free - 2 ^ place → pool_of next ≡ after → IsTaking (groups_of hub) slots seat.id group word next need buf cells seat.me looked.live looked.spare looked.there looked.hand
  is-taking next first place buf cells pool after begin smallest is has was count free will =
      let its = buffer-from hub group first place looked.there begin smallest.fits.there in
      let group-is : group_of (groups_of hub) buf ≡ group = ap (group_of (groups_of hub)) is ∙ its.0 in
      let place-is : place_of (groups_of hub) buf ≡ place = ap (place_of (groups_of hub)) is ∙ its.1 in
      record {
        its = group-is;
        smallest = subst (λ (p : ℕ). IsSmallest (sizes_of (groups_of hub) group) (word % 2 ^ 32) need p) (sym place-is) smallest;
        size = (buffer-of hub group buf cells group-is has).1;
        next = will ∙ (λ i. record { changes = (count ∙ ap (λ (p : Pool). p.changes + 1) was) i; free = (free ∙ (λ j. ap (λ (p : Pool). p.free) was j - 2 ^ sym place-is j)) i });
      }
