use Rattle.gw_settings.specs.Settings.{tree}
use Rattle.gw_config.specs.Rows.{number_at, number_fits}
use Rattle.gw_config.proofs.EachLemmas.{IsReadTo}
use Rattle.gw_config.proofs.lists.first_numbers.Given as goal

abbrev pub invariant-loop-at : goal.invariant-loop-at
invariant-loop-at l = IsReadTo (number_at l.each l.index (tree l.settings)) (number_fits l.each) l.count l.numbers l.at
