use Rattle.std.proofs.Common.{arith}
use Rattle.hub_shared.proofs.Closings.{reads-more}
use Rattle.hub_shared.proofs.Hubs.{groups-long}
use Rattle.hub_shared.proofs.hub.SharedHub.close.Goals as goal

pub pool-requires-clause-group : goal.pool-requires-clause-group
pool-requires-clause-group c = omega (arith, c.loop-group-test.true, c.len-group-end.ensures, groups-long c.args.self, c.args.self.buffers.counts.ok.0)

pub loop-group-preserved : goal.loop-group-preserved
loop-group-preserved c = reads-more c.args.self c.args.seat c.loop-group.seat c.pool.new.seat c.loop-group.group c.pool.result c.loop-group.words.items c.push.new.self.items c.requires.joined c.loop-group.invariant c.pool.ensures.same c.pool.ensures.word c.pool.ensures.joint c.push.ensures.items

pub returns-clause-all : goal.returns-clause-all
returns-clause-all c = omega (arith, c.loop-group.invariant.long, c.loop-group.auto.group-end, c.loop-group-test.false, c.len-group-end.ensures, groups-long c.args.self, c.args.self.buffers.counts.ok.0)

pub returns-clause-words : goal.returns-clause-words
returns-clause-words c = λ group below. c.loop-group.invariant.words_are group (omega (arith, below, c.loop-group-test.false, c.len-group-end.ensures, groups-long c.args.self, c.args.self.buffers.counts.ok.0))
