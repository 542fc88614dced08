use Rattle.gw_law.proofs.pools.Pools.{named_of, pool_ends_of, pool_law_of}
use Rattle.gw_law.proofs.pool.pool_law.Goals as goal

pub returns-clause-law : goal.returns-clause-law
returns-clause-law c = pool_law_of

pub returns-clause-named : goal.returns-clause-named
returns-clause-named c = named_of

pub returns-clause-ends : goal.returns-clause-ends
returns-clause-ends c = pool_ends_of
