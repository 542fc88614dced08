-- What was built is the configuration's, and keeps what every setup keeps.
use Rattle.std.proofs.Common.{ap, subst}
use Rattle.gw_config.specs.Lawful.{IsLawful}
use Rattle.gw_setup.proofs.GroupLemmas.{groups_are}
use Rattle.gw_setup.proofs.PlanLemmas.{lawful_setup}
use Rattle.gw_setup.proofs.build.setup_of.Goals as goal

pub returns-clause-setup : goal.returns-clause-setup
returns-clause-setup c = record {
  buses = c.in-Ok.ensures;
  channels = c.in-Ok-channels_of.ensures;
  sources = c.in-Ok-sources_of.ensures;
  destinations = c.in-Ok-destinations_of.ensures;
  cells = c.in-Ok-cells_of.ensures;
  counts = c.in-Ok-counts_of.ensures;
  groups = groups_are c.args.config.now.groups c.in-Ok-counts_of.counts.items c.in-Ok-cells_of.cells.items c.in-Ok-counts_of.ensures c.in-Ok-cells_of.ensures;
  period = ap (λ v. v.period) c.config.view_is;
  window = ap (λ v. v.window) c.config.view_is;
  linger = ap (λ v. v.linger) c.config.view_is;
}

pub invariant_of-result : goal.invariant_of-result
invariant_of-result c = lawful_setup c.args.config.now c.requires (subst IsLawful c.config.view_is c.config.invariant) _ (record {
  buses = c.in-Ok.ensures;
  channels = c.in-Ok-channels_of.ensures;
  sources = c.in-Ok-sources_of.ensures;
  destinations = c.in-Ok-destinations_of.ensures;
  cells = c.in-Ok-cells_of.ensures;
  counts = c.in-Ok-counts_of.ensures;
  groups = groups_are c.args.config.now.groups c.in-Ok-counts_of.counts.items c.in-Ok-cells_of.cells.items c.in-Ok-counts_of.ensures c.in-Ok-cells_of.ensures;
  period = ap (λ v. v.period) c.config.view_is;
  window = ap (λ v. v.window) c.config.view_is;
  linger = ap (λ v. v.linger) c.config.view_is;
})
