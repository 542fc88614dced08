use Rattle.gw_settings.specs.Settings.{tree}
use Rattle.gw_config.specs.declared.keys.TheConstants.{GROUP_BUFFER}
use Rattle.gw_config.specs.Groups.{buffer_at}
use Rattle.gw_config.specs.Rows.{number_fits}
use Rattle.gw_config.proofs.EachLemmas.{IsReadTo}
use Rattle.gw_config.proofs.groups.first_buffers.Given as goal

abbrev pub invariant-loop-at : goal.invariant-loop-at
invariant-loop-at l = IsReadTo (buffer_at (tree l.settings) l.number) (number_fits GROUP_BUFFER) l.count l.buffers l.at
