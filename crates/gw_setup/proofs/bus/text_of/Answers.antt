-- What names spell is UTF-8.
use Rattle.gw_setup.proofs.TextLemmas.{spells}
use Rattle.gw_setup.proofs.bus.text_of.Goals as goal

pub unreachable-requires : goal.unreachable-requires
unreachable-requires c = c.in_default.ensures.cases.0 (spells _ c.requires)
