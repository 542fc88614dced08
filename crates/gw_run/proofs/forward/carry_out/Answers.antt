-- What was planned was begun or done.
use Rattle.std.proofs.Common.{rules, inl}
use Rattle.gw_run.proofs.Decided.{second-cause}
use Rattle.gw_run.proofs.Plans.{begins, built, forwards, plan-cause}
use Rattle.gw_run.specs.Plan.{IsPlan}
use Rattle.gw_run.proofs.forward.carry_out.Goals as goal

pub returns-in-Err-read_log-clause-cause : goal.returns-in-Err-read_log-clause-cause
returns-in-Err-read_log-clause-cause g c config is configured =
    second-cause (g.D.Depot.state c.args.depot.now).told (g.D.Depot.state c.args.depot.now).files config c.args.report.now c.args.setup.now c.in-Ok.source.lines c.in-Ok.source.frames c.in-Err-read_log.stop _ c.refused_log-in-Err-read_log.ensures is configured (search rules) (search rules) (search rules)

pub returns-in-Err-plan_results-clause-cause : goal.returns-in-Err-plan_results-clause-cause
returns-in-Err-plan_results-clause-cause g c config is configured =
    plan-cause (g.D.Depot.state c.args.depot.now).told _ _ _ _ _ _ _ _ _ is configured (rw c.source.ensures.bus at c.in-Ok.ensures.read)
    (rw (c.in-Ok.ensures.told, c.in-Ok.ensures.files, c.destination.ensures) at c.in-Ok-read_log.ensures.read) c.in-Ok.ensures.few c.in-Ok-read_log.ensures.few
    (rw (c.items.ensures, c.items-2.ensures) at c.in-Err-plan_results.ensures.refused)

pub returns-in-Err-write_results-clause-files : goal.returns-in-Err-write_results-clause-files
returns-in-Err-write_results-clause-files g c config is configured =
    let planned : IsPlan c.args.setup.now c.in-Ok.source.frames c.in-Ok-read_log.destination.frames c.in-Ok-plan_results.plan = rw (c.items.ensures, c.items-2.ensures) at c.in-Ok-plan_results.ensures.planned in
    inl (
      c.in-Err-write_results.ensures.file,
      begins _ _ _ _ _ _ _ _ planned
          (built (g.D.Depot.state c.args.depot.now).told _ _ _ _ _ _ _ _ _ is configured (rw c.source.ensures.bus at c.in-Ok.ensures.read)
          (rw (c.in-Ok.ensures.told, c.in-Ok.ensures.files, c.destination.ensures) at c.in-Ok-read_log.ensures.read) c.in-Ok.ensures.few c.in-Ok-read_log.ensures.few planned)
          (search rules),
    )

pub returns-clause-done : goal.returns-clause-done
returns-clause-done g c config is configured =
    let planned : IsPlan c.args.setup.now c.in-Ok.source.frames c.in-Ok-read_log.destination.frames c.in-Ok-plan_results.plan = rw (c.items.ensures, c.items-2.ensures) at c.in-Ok-plan_results.ensures.planned in
    forwards _ _ _ _ _ _ _ _ planned
    (built (g.D.Depot.state c.args.depot.now).told _ _ _ _ _ _ _ _ _ is configured (rw c.source.ensures.bus at c.in-Ok.ensures.read)
    (rw (c.in-Ok.ensures.told, c.in-Ok.ensures.files, c.destination.ensures) at c.in-Ok-read_log.ensures.read) c.in-Ok.ensures.few c.in-Ok-read_log.ensures.few planned)
    (search rules)
