use Rattle.std.proofs.Common.{List, ℕ, ap, arith, length, subst}
use Rattle.gw_base.specs.Fit.{IsSmallest, NoneFits}
use Rattle.hub_shared.proofs.Hubs.{group-few, sizes-read}
use Rattle.hub_shared.proofs.hub.SharedHub.exchange.Goals as goal
use Rattle.pool_words.specs.declared.pool.Pool.{Pool}

pub smallest_fitting-requires : goal.smallest_fitting-requires
smallest_fitting-requires c =
    let read = sizes-read c.args.self.now c.args.group.0 c.buffers_of-first.result.0 c.buffers_of-first.result.1 c.deref.result.now c.requires.seat.there c.buffers_of-first.ensures.first c.buffers_of-first.ensures.last c.deref.ensures.value in
    omega (arith, ap (λ (l : List ℕ). length l) read, group-few c.args.self.now c.args.group.0 c.requires.seat.there)

pub grant-requires-clause-smallest : goal.grant-requires-clause-smallest
grant-requires-clause-smallest c =
    let read = sizes-read c.args.self.now c.args.group.0 c.buffers_of-first.result.0 c.buffers_of-first.result.1 c.deref.result.now c.requires.seat.there c.buffers_of-first.ensures.first c.buffers_of-first.ensures.last c.deref.ensures.value in
    subst (λ (x : List ℕ × ℕ). IsSmallest x.0 x.1 c.args.need c.in-Some.place) (λ i. (read i, ap (λ (p : Pool). p.free) c.pool_of-free.ensures i)) c.in-Some.ensures

pub refuse-requires-clause-none_fits : goal.refuse-requires-clause-none_fits
refuse-requires-clause-none_fits c =
    let read = sizes-read c.args.self.now c.args.group.0 c.buffers_of-first.result.0 c.buffers_of-first.result.1 c.deref.result.now c.requires.seat.there c.buffers_of-first.ensures.first c.buffers_of-first.ensures.last c.deref.ensures.value in
    let none : NoneFits _ _ _ = c.in-None.ensures in
    subst (λ (x : List ℕ × ℕ). NoneFits x.0 x.1 c.args.need) (λ i. (read i, ap (λ (p : Pool). p.free) c.pool_of-free.ensures i)) none
