use Rattle.std.proofs.Common.{◌≡◌, ◌≤◌, ℕ, Some}
use Rattle.hub_shared.proofs.hub.SharedHub.find.Given as goal
use Rattle.hub_shared.specs.declared.sight.Hand.TheVariants.{Seeking}

abbrev pub invariant-loop-buf : goal.invariant-loop-buf
invariant-loop-buf l = (l.seat.table_id ≡ l.fn.seat.table_id) × (l.seat.me ≡ l.fn.seat.me) × ((at : ℕ) → l.fn.seat.me.0.hand ≡ Seeking l.sought (Some at) → l.buf ≤ at)
