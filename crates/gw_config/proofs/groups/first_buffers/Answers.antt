use Rattle.std.proofs.Common.{sym, ◌∙◌, arith}
use Rattle.std.proofs.lemmas.Result.{err_from_is_err_and}
use Rattle.gw_settings.specs.declared.fault.ConfigError.TheVariants.{Fault}
use Rattle.gw_settings.specs.Settings.{tree}
use Rattle.gw_config.specs.declared.keys.TheConstants.{GROUP_BUFFER}
use Rattle.gw_config.specs.Groups.{buffer_at}
use Rattle.gw_config.specs.Rows.{number_fits}
use Rattle.gw_config.proofs.EachLemmas.{read_none, read_more, read_fault, read_all}
use Rattle.gw_config.proofs.groups.first_buffers.Goals as goal

pub loop-at-init : goal.loop-at-init
loop-at-init c = read_none (buffer_at (tree c.args.settings.now) c.args.number) (number_fits GROUP_BUFFER) c.args.count c.new-buffers.result c.new-buffers.ensures

pub loop-at-preserved : goal.loop-at-preserved
loop-at-preserved c =
    read_more (buffer_at (tree c.args.settings.now) c.args.number) (number_fits GROUP_BUFFER) c.args.count c.loop-at.buffers c.push.new.self c.loop-at.at c.in_ok-cells.cells c.loop-at-test.true c.loop-at.invariant
    (sym c.read_buffer.ensures.value ∙ c.in_ok-cells.was) c.in_ok-cells.ensures.fits c.in_ok-push.ensures.ok

pub returns-in_err-cells-clause-value : goal.returns-in_err-cells-clause-value
returns-in_err-cells-clause-value c =
    let left = err_from_is_err_and c.from_residual.result c.from_residual.ensures.1 in
    rw (left.1, left.2) (read_fault (buffer_at (tree c.args.settings.now) c.args.number) (number_fits GROUP_BUFFER) c.args.count c.loop-at.buffers c.loop-at.at (Fault c.in_err-cells.field-0.0) c.loop-at-test.true c.loop-at.invariant (sym c.read_buffer.ensures.value ∙ c.in_err-cells.was))

pub returns : goal.returns
returns c = record {
  value = read_all (buffer_at (tree c.args.settings.now) c.args.number) (number_fits GROUP_BUFFER) c.args.count c.loop-at.buffers c.loop-at.at (omega (arith, c.loop-at-test.false)) c.loop-at.invariant;
  count = c.loop-at.invariant.as_many ∙ (omega (arith, c.loop-at-test.false, c.loop-at.auto.at-end));
  fits = c.loop-at.invariant.each_fits;
}
