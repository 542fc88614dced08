use Rattle.std.proofs.Common.{sym, ◌∙◌, arith}
use Rattle.std.proofs.lemmas.Result.{err_from_is_err_and}
use Rattle.gw_settings.specs.declared.fault.ConfigError.TheVariants.{Fault}
use Rattle.gw_settings.specs.Settings.{tree}
use Rattle.gw_config.specs.Rows.{number_at, number_fits}
use Rattle.gw_config.proofs.EachLemmas.{read_none, read_more, read_fault, read_all}
use Rattle.gw_config.proofs.lists.first_numbers.Goals as goal

pub loop-at-init : goal.loop-at-init
loop-at-init c = read_none (number_at c.args.each c.args.index (tree c.args.settings.now)) (number_fits c.args.each) c.args.count c.new-numbers.result c.new-numbers.ensures

pub loop-at-preserved : goal.loop-at-preserved
loop-at-preserved c =
    read_more (number_at c.args.each c.args.index (tree c.args.settings.now)) (number_fits c.args.each) c.args.count c.loop-at.numbers c.push.new.self c.loop-at.at c.in_ok-number.number c.loop-at-test.true c.loop-at.invariant
    (sym c.number_at.ensures.value ∙ c.in_ok-number.was) c.in_ok-number.ensures.fits c.in_ok-push.ensures.ok

pub returns-in_err-number-clause-value : goal.returns-in_err-number-clause-value
returns-in_err-number-clause-value c =
    let left = err_from_is_err_and c.from_residual.result c.from_residual.ensures.1 in
    rw (left.1, left.2) (read_fault (number_at c.args.each c.args.index (tree c.args.settings.now)) (number_fits c.args.each) c.args.count c.loop-at.numbers c.loop-at.at (Fault c.in_err-number.field-0.0) c.loop-at-test.true c.loop-at.invariant (sym c.number_at.ensures.value ∙ c.in_err-number.was))

pub returns : goal.returns
returns c = record {
  value = read_all (number_at c.args.each c.args.index (tree c.args.settings.now)) (number_fits c.args.each) c.args.count c.loop-at.numbers c.loop-at.at (omega (arith, c.loop-at-test.false)) c.loop-at.invariant;
  count = c.loop-at.invariant.as_many ∙ (omega (arith, c.loop-at-test.false, c.loop-at.auto.at-end));
  fits = c.loop-at.invariant.each_fits;
}
