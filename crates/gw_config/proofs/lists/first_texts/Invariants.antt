use Rattle.gw_settings.specs.Settings.{tree}
use Rattle.gw_config.specs.Rows.{text_at, text_fits}
use Rattle.gw_config.proofs.EachLemmas.{IsReadTo}
use Rattle.gw_config.proofs.lists.first_texts.Given as goal

abbrev pub invariant-loop-at : goal.invariant-loop-at
invariant-loop-at l = IsReadTo (text_at l.each l.index (tree l.settings)) (text_fits l.each) l.count l.texts l.at
