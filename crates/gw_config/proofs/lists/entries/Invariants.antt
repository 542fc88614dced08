use Rattle.std.proofs.Common.{true}
use Rattle.gw_settings.specs.Settings.{tree}
use Rattle.gw_config.proofs.EachLemmas.{IsReadTo}
use Rattle.gw_config.proofs.lists.entries.Given as goal

abbrev pub invariant-loop-index : goal.invariant-loop-index
invariant-loop-index g l = IsReadTo (g.E.Entry.said (tree l.settings)) (λ _. true) l.count l.entries l.index
