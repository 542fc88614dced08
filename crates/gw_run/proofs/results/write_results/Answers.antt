-- Each call that failed is the one to blame, and those that didn't leave the results.
use Rattle.std.proofs.Common.{◌∙◌}
use Rattle.gw_run.proofs.Left.{outputs_begun, report_made, report_not_made, results_made}
use Rattle.gw_run.proofs.results.write_results.Goals as goal

pub returns-in-Err-clause-cause : goal.returns-in-Err-clause-cause
returns-in-Err-clause-cause g c = c.in-Err.ensures.cause c.args.report.now

pub returns-in-Err-clause-begun : goal.returns-in-Err-clause-begun
returns-in-Err-clause-begun g c is = outputs_begun _ _ _ _ _ _ _ c.requires.source c.requires.destination (c.in-Err.ensures.begun is)

pub returns-in_default-create-clause-begun : goal.returns-in_default-create-clause-begun
returns-in_default-create-clause-begun g c is =
    report_not_made _ _ _ _ _ _ _ _ _ c.requires.source c.requires.destination (c.in_default.ensures.made is) (c.in_default-create.ensures.created (c.in_default.ensures.told ∙ is))

pub returns-in_default-append_all-clause-begun : goal.returns-in_default-append_all-clause-begun
returns-in_default-append_all-clause-begun g c is =
    let made = c.in_default.ensures.told ∙ is in
    report_made _ _ _ _ _ _ _ _ _ _ c.requires.source c.requires.destination (c.in_default.ensures.made is) (c.in-Ok.ensures.created made) (c.in_default-append_all.ensures.appended (c.in-Ok.ensures.told ∙ made))

pub returns-clause-results : goal.returns-clause-results
returns-clause-results g c is =
    let made = c.in_default.ensures.told ∙ is in
    results_made _ _ _ _ _ _ _ _ _ c.requires.source c.requires.destination (c.in_default.ensures.made is) (c.in-Ok.ensures.created made) (c.in-Ok-append_all.ensures.appended (c.in-Ok.ensures.told ∙ made))
