use Rattle.std.proofs.Common.{◌∙◌, ◌/◌, ◌^◌, ◌≤◌, ap, arith, subst, ℕ}
use Rattle.hub_shared.proofs.Hubs.{in-layout, in-rule, word-there}
use Rattle.hub_shared.proofs.Steps.{looks}
use Rattle.hub_shared.proofs.hub.SharedHub.take_by.Goals as goal
use Rattle.hub_shared.specs.Plays.{with_look}
use Rattle.hub_shared.specs.Sights.{floors_at}
use Rattle.hub_shared.specs.Takes.{after_call, deed_of}

pub pool-at-requires : goal.pool-at-requires
pool-at-requires c = in-layout c.args.self.now c.args.group.0 c.requires.group

pub load-word-requires : goal.load-word-requires
load-word-requires c = (
  c.requires.of,
  word-there c.args.self.now c.args.group.0 c.pool-at.result c.requires.group c.pool-at.ensures,
  looks _ _ _ _ _ c.requires.live (in-rule c.args.self.now c.args.group.0 c.pool-at.result c.requires.group c.pool-at.ensures),
)

pub loop-take-init : goal.loop-take-init
loop-take-init c =
    let seen = c.load-word.ensures.2 in (
      c.load-word.ensures.0,
      seen.me ∙ (λ i. (with_look (c.pool-at.ensures i) c.load-word.result c.args.seat.now.me.0, c.args.seat.now.me.1)),
      subst (λ (g : ℕ). (floors_at c.args.seat.now.me.0).changes g ≤ c.load-word.result / 2 ^ 32) c.pool-at.ensures seen.floor,
      seen.few,
    )

pub exchange-requires : goal.exchange-requires
exchange-requires c =
    let i = c.loop-take.invariant in
    record {
      seat = record {
        of = i.0 ∙ c.requires.of;
        there = c.requires.group;
        hand = ap (λ m. m.0.hand) i.1;
        live = omega (arith, c.requires.live, ap (λ m. m.0.parts) i.1);
        spare = omega (arith, c.requires.spare, ap (λ m. m.0.takes) i.1);
        few = i.3;
      };
    }

pub returns-in-Ok-clause-of : goal.returns-in-Ok-clause-of
returns-in-Ok-clause-of c = c.exchange.ensures.of ∙ c.loop-take.invariant.0

pub returns-in-Ok-clause-taken : goal.returns-in-Ok-clause-taken
returns-in-Ok-clause-taken c =
    let i = c.loop-take.invariant in
    let ends = (c.in-Ok.ensures).told in
    record {
      word = c.loop-take.word;
      ends = record { me = ends.me ∙ ap (λ m. (after_call (deed_of c.args.group.0 c.args.need c.in-Ok.take) m.0, m.1)) i.1; number = ends.number; answer = ends.answer };
      floor = i.2;
    }

pub loop-take-smaller : goal.loop-take-smaller
loop-take-smaller c = let lost = (c.in-Err.ensures).told in omega (arith, lost.more, lost.seen.few)

pub loop-take-preserved : goal.loop-take-preserved
loop-take-preserved c =
    let i = c.loop-take.invariant in
    let lost = (c.in-Err.ensures).told in (
      c.exchange.ensures.of ∙ i.0,
      lost.seen.me ∙ ap (λ m. (with_look c.args.group.0 c.in-Err.found m.0, m.1)) i.1,
      omega (arith, ap (λ m. (floors_at m.0).changes c.args.group.0) i.1, lost.seen.floor),
      lost.seen.few,
    )
