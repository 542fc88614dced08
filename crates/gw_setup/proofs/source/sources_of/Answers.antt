use Rattle.std.proofs.Common.{◌≡◌, ◌≤◌, ℕ, length, ap, ◌∙◌, arith}
use Rattle.gw_setup.specs.Placed.{IsSource}
use Rattle.gw_setup.specs.declared.source.Source.{Source}
use Rattle.gw_setup.proofs.ConfigLemmas.{SourceLeads, source_found, sources_all}
use Rattle.gw_setup.proofs.FoundLemmas.{found_more, found_none}
use Rattle.gw_setup.proofs.source.sources_of.Goals as goal

pub loop-number-init : goal.loop-number-init
loop-number-init c = found_none (IsSource c.args.config.now) (λ (s : Source). s.set.chan.0) (λ (s : Source) (path : ℕ). s.set.path.0 ≡ path) (SourceLeads c.args.config.now) c.new-sources.result.items c.new-sources.ensures.items

pub loop-number-preserved : goal.loop-number-preserved
loop-number-preserved c =
    found_more (IsSource c.args.config.now) (λ (s : Source). s.set.chan.0) (λ (s : Source) (path : ℕ). s.set.path.0 ≡ path) (SourceLeads c.args.config.now) c.loop-number.sources.items c.push_some.new.list.items c.loop-number.number c.source_at.result c.loop-number.invariant
    (source_found c.args.config.now c.requires c.loop-number.number c.source_at.result c.source_at.ensures) c.in_ok-push_some.ensures

pub returns : goal.returns
returns c =
    let same : c.items-number-end.result.now ≡ c.args.config.now.channel = c.items-number-end.ensures ∙ ap (λ v. v.channel) c.config.view_is in
    let count : length c.items-number-end.result.now ≤ c.loop-number.number = c.loop-number-test.false in
    sources_all c.args.config.now c.requires c.loop-number.number c.loop-number.sources.items c.loop-number.invariant (omega (arith, ap length same, count))
