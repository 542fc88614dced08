use Rattle.gw_settings.specs.Settings.{tree}
use Rattle.gw_config.specs.Groups.{group_at, group_fits}
use Rattle.gw_config.proofs.EachLemmas.{IsReadTo}
use Rattle.gw_config.proofs.groups.first_groups.Given as goal

abbrev pub invariant-loop-number : goal.invariant-loop-number
invariant-loop-number l = IsReadTo (group_at (tree l.settings)) (group_fits) l.count l.groups l.number
