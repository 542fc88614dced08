use Rattle.std.proofs.Common.{true, refl, ◌∙◌, arith}
use Rattle.std.proofs.lemmas.Result.{err_from_is_err_and}
use Rattle.gw_settings.specs.Settings.{tree}
use Rattle.gw_config.proofs.EachLemmas.{read_none, read_more, read_fault, read_all}
use Rattle.gw_config.proofs.lists.entries.Goals as goal

pub loop-index-init : goal.loop-index-init
loop-index-init g c = read_none (g.E.Entry.said (tree c.args.settings.now)) (λ _. true) c.args.count c.new-entries.result c.new-entries.ensures

pub loop-index-preserved : goal.loop-index-preserved
loop-index-preserved g c =
    read_more (g.E.Entry.said (tree c.args.settings.now)) (λ _. true) c.args.count c.loop-index.entries c.push.new.self c.loop-index.index c.in_ok-entry.entry c.loop-index-test.true c.loop-index.invariant
    c.in_ok-entry.ensures refl c.in_ok-push.ensures.ok

pub returns-in_err-entry-clause-value : goal.returns-in_err-entry-clause-value
returns-in_err-entry-clause-value g c =
    let left = err_from_is_err_and c.from_residual.result c.from_residual.ensures.1 in
    rw (left.1, left.2) (read_fault (g.E.Entry.said (tree c.args.settings.now)) (λ _. true) c.args.count c.loop-index.entries c.loop-index.index c.in_err-entry.field-0.0 c.loop-index-test.true c.loop-index.invariant c.in_err-entry.ensures)

pub returns : goal.returns
returns g c = record {
  value = read_all (g.E.Entry.said (tree c.args.settings.now)) (λ _. true) c.args.count c.loop-index.entries c.loop-index.index (omega (arith, c.loop-index-test.false)) c.loop-index.invariant;
  count = c.loop-index.invariant.as_many ∙ (omega (arith, c.loop-index-test.false, c.loop-index.auto.index-end));
}
