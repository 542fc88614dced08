use Rattle.std.proofs.Common.{◌∙◌, arith}
use Rattle.std.proofs.lemmas.Result.{err_from_is_err_and}
use Rattle.gw_settings.specs.Settings.{tree}
use Rattle.gw_config.specs.Groups.{group_at, group_fits}
use Rattle.gw_config.proofs.EachLemmas.{read_none, read_more, read_fault, read_all}
use Rattle.gw_config.proofs.groups.first_groups.Goals as goal

pub loop-number-init : goal.loop-number-init
loop-number-init c = read_none (group_at (tree c.args.settings.now)) group_fits c.args.count c.new-groups.result c.new-groups.ensures

pub loop-number-preserved : goal.loop-number-preserved
loop-number-preserved c =
    read_more (group_at (tree c.args.settings.now)) group_fits c.args.count c.loop-number.groups c.push.new.self c.loop-number.number c.in_ok-group.group c.loop-number-test.true c.loop-number.invariant
    c.in_ok-group.ensures.value c.in_ok-group.ensures.fits c.in_ok-push.ensures.ok

pub returns-in_err-group-clause-value : goal.returns-in_err-group-clause-value
returns-in_err-group-clause-value c =
    let left = err_from_is_err_and c.from_residual.result c.from_residual.ensures.1 in
    rw (left.1, left.2) (read_fault (group_at (tree c.args.settings.now)) group_fits c.args.count c.loop-number.groups c.loop-number.number c.in_err-group.field-0.0 c.loop-number-test.true c.loop-number.invariant c.in_err-group.ensures.value)

pub returns : goal.returns
returns c = record {
  value = read_all (group_at (tree c.args.settings.now)) group_fits c.args.count c.loop-number.groups c.loop-number.number (omega (arith, c.loop-number-test.false)) c.loop-number.invariant;
  count = c.loop-number.invariant.as_many ∙ (omega (arith, c.loop-number-test.false, c.loop-number.auto.number-end));
  fits = c.loop-number.invariant.each_fits;
}
