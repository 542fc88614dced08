use Rattle.std.proofs.Common.{◌∙◌, ap}
use Rattle.hub_core.proofs.HubGroups.{hub-order, hub-word, pool-at, pool-read}
use Rattle.hub_core.proofs.Hubs.{hub-joint}
use Rattle.hub_core.proofs.plain.PlainHub.word.Goals as goal
use Rattle.pool_words.specs.declared.pool.Pool.{Pool}

pub index-requires : goal.index-requires
index-requires c = pool-at c.args.self.now c.args.group.0 c.from.result c.requires c.from.ensures

pub returns-clause-word : goal.returns-clause-word
returns-clause-word c =
    let is = pool-read c.args.self.now c.args.group.0 c.from.result c.index.result.now c.requires c.from.ensures c.index.ensures in
    let word = hub-word c.args.self.now c.args.group.0 c.index.result.now is in
    record { number_is = ap (λ (p : Pool). p.changes) c.word_of.ensures ∙ word.number_is; free_is = ap (λ (p : Pool). p.free) c.word_of.ensures ∙ word.free_is }

pub returns-clause-joint : goal.returns-clause-joint
returns-clause-joint c = hub-joint c.args.self.now

pub returns-clause-in_order : goal.returns-clause-in_order
returns-clause-in_order c = hub-order c.args.self.now c.args.group.0
