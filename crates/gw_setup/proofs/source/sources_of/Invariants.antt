use Rattle.std.proofs.Common.{◌≡◌, ℕ}
use Rattle.gw_setup.specs.Placed.{IsSource}
use Rattle.gw_setup.specs.declared.source.Source.{Source}
use Rattle.gw_setup.proofs.ConfigLemmas.{SourceLeads}
use Rattle.gw_setup.proofs.FoundLemmas.{AreFound}
use Rattle.gw_setup.proofs.source.sources_of.Given as goal

abbrev pub invariant-loop-number : goal.invariant-loop-number
invariant-loop-number l = AreFound (IsSource l.config) (λ (s : Source). s.set.chan.0) (λ (s : Source) (path : ℕ). s.set.path.0 ≡ path) (SourceLeads l.config) l.number l.sources.items
