use Rattle.std.proofs.Common.{rules, arith, ap, ◌∙◌, length-set, get_or-set_other}
use Rattle.hub_shared.proofs.Cores.{all-clear, one-whole}
use Rattle.hub_shared.proofs.make.first_words.Goals as goal
use Rattle.pool_words.specs.Pools.{full_pool}

pub loop-group-init : goal.loop-group-init
loop-group-init c = (search rules, λ group below. absurd (omega (arith, below)), all-clear _ _ c.in_ok-words.words.items (c.in_ok-words.ensures.items_if_clones_equal (λ y same. same)))

pub loop-group-preserved : goal.loop-group-preserved
loop-group-preserved c =
    let so = c.loop-group.invariant in (
      length-set c.loop-group.words.items c.pool-at.result c.word_of.result ∙ so.0,
      one-whole c.loop-group.words.items c.args.counts.now c.loop-group.group c.pool-at.result c.word_of.result (search rules) (omega (arith, so.0, c.loop-group-test.true, c.requires.layout)) (c.word_of.ensures ∙ c.full_pool.ensures ∙ ap full_pool (search rules)) so.1,
      λ at past. get_or-set_other c.loop-group.words.items c.pool-at.result at c.word_of.result 0 (λ e. omega (arith, e, past, c.pool-at.ensures, c.loop-group-test.true)) ∙ so.2 at past,
    )

pub returns-clause-pools : goal.returns-clause-pools
returns-clause-pools c = λ group below. c.loop-group.invariant.1 group (omega (arith, below, c.loop-group-test.false))
