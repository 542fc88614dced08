use Rattle.std.proofs.Common.{◌≡◌, map, take}
use Rattle.hub_core.proofs.groups.full_pools.Given as goal
use Rattle.pool_words.specs.Pools.{full_pool}

abbrev pub invariant-loop-group : goal.invariant-loop-group
invariant-loop-group l = l.pools.items ≡ map full_pool (take l.group l.counts)
