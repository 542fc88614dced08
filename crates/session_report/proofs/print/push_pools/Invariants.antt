-- The lines so far are those of the items so far.
use Rattle.std.proofs.Common.{◌≡◌, ◌++◌, flat_map, take}
use Rattle.session_report.specs.Printing.{pool_text}
use Rattle.session_report.proofs.print.push_pools.Given as goal

abbrev pub invariant-loop-pool : goal.invariant-loop-pool
invariant-loop-pool l = l.text ≡ l.initial.text ++ flat_map (pool_text l.version) (take l.pool-index l.pools)
