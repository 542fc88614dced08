use Rattle.std.proofs.Common.{◌∙◌, ℕ, ap, refl, sym, subst}
use Rattle.gw_base.specs.Fit.{NoneFits}
use Rattle.hub_core.specs.Groups.{sizes_of}
use Rattle.hub_core.specs.declared.history.Deed.TheVariants.{Refused}
use Rattle.hub_shared.proofs.Hubs.{in-layout, word-there}
use Rattle.hub_shared.proofs.Exchanges.{may-refuse}
use Rattle.hub_shared.proofs.hub.SharedHub.refuse.Goals as goal
use Rattle.hub_shared.specs.Seats.{groups_of}
use Rattle.hub_shared.specs.Takes.{after_call}
use Rattle.pool_words.specs.declared.pool.Pool.{Pool}

pub pool-at-requires : goal.pool-at-requires
pool-at-requires c = in-layout c.args.self.now c.args.group.0 c.requires.seat.there

pub compare_exchange_with-found-requires : goal.compare_exchange_with-found-requires
compare_exchange_with-found-requires c = (
  c.requires.seat.of,
  word-there c.args.self.now c.args.group.0 c.pool-at.result c.requires.seat.there c.pool-at.ensures,
  may-refuse c.args.self.now c.args.group.0 c.args.word c.args.seat.now c.requires.seat _ _ c.pool-at.ensures c.args.need c.requires.none_fits,
)

pub returns : goal.returns
returns c =
    let won = c.compare_exchange_with-found.ensures.2.0 c.if-found-word.false c.args.need refl in
    let free = ap (λ (p : Pool). p.free) c.pool_of-pool.ensures in
    let number = ap (λ (p : Pool). p.changes) c.pool_of-pool.ensures in
    record {
      of = c.compare_exchange_with-found.ensures.0;
      told = record {
        me = won ∙ (λ i. (after_call (Refused (c.pool-at.ensures i) (sym number i) (sym free i) c.args.need) c.args.seat.now.me.0, c.args.seat.now.me.1));
        number = number;
        answer = subst (λ (f : ℕ). NoneFits (sizes_of (groups_of c.args.self.now) c.args.group.0) f c.args.need) (sym free) c.requires.none_fits;
      };
    }
