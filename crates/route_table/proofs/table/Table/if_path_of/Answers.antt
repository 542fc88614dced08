use Rattle.std.proofs.Common.{None, Some, ◌∙◌}
use Rattle.route_table.proofs.MatchLemmas.{path_found}
use Rattle.route_table.proofs.table.Table.if_path_of.Goals as goal

pub returns-in_err-entry : goal.returns-in_err-entry
returns-in_err-entry c = λ channels paths is.
    c.from_residual.ensures ∙ path_found c.args.bus c.args.id c.args.at paths c.on.result.now None (c.on.ensures ∙ is.paths_by_bus c.args.bus.0) c.in_err-entry.ensures

pub returns : goal.returns
returns c = λ channels paths is.
    path_found c.args.bus c.args.id c.args.at paths c.on.result.now (Some c.in_ok-entry.entry.now) (c.on.ensures ∙ is.paths_by_bus c.args.bus.0) c.in_ok-entry.ensures
