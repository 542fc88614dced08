use Rattle.std.proofs.Common.{◌∙◌, arith}
use Rattle.std.proofs.lemmas.Result.{err_from_is_err_and}
use Rattle.gw_settings.specs.Settings.{tree}
use Rattle.gw_config.specs.Rows.{text_at, text_fits}
use Rattle.gw_config.proofs.EachLemmas.{read_none, read_more, read_fault, read_all}
use Rattle.gw_config.proofs.lists.first_texts.Goals as goal

pub loop-at-init : goal.loop-at-init
loop-at-init c = read_none (text_at c.args.each c.args.index (tree c.args.settings.now)) (text_fits c.args.each) c.args.count c.new-texts.result c.new-texts.ensures

pub loop-at-preserved : goal.loop-at-preserved
loop-at-preserved c =
    read_more (text_at c.args.each c.args.index (tree c.args.settings.now)) (text_fits c.args.each) c.args.count c.loop-at.texts c.push.new.self c.loop-at.at c.in_ok-text.text c.loop-at-test.true c.loop-at.invariant
    c.in_ok-text.ensures.value c.in_ok-text.ensures.fits c.in_ok-push.ensures.ok

pub returns-in_err-text-clause-value : goal.returns-in_err-text-clause-value
returns-in_err-text-clause-value c =
    let left = err_from_is_err_and c.from_residual.result c.from_residual.ensures.1 in
    rw (left.1, left.2) (read_fault (text_at c.args.each c.args.index (tree c.args.settings.now)) (text_fits c.args.each) c.args.count c.loop-at.texts c.loop-at.at c.in_err-text.field-0.0 c.loop-at-test.true c.loop-at.invariant c.in_err-text.ensures.value)

pub returns : goal.returns
returns c = record {
  value = read_all (text_at c.args.each c.args.index (tree c.args.settings.now)) (text_fits c.args.each) c.args.count c.loop-at.texts c.loop-at.at (omega (arith, c.loop-at-test.false)) c.loop-at.invariant;
  count = c.loop-at.invariant.as_many ∙ (omega (arith, c.loop-at-test.false, c.loop-at.auto.at-end));
  fits = c.loop-at.invariant.each_fits;
}
