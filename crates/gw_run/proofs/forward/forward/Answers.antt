-- A run is stopped by its configuration, or carried out.
use Rattle.std.proofs.Common.{◌∙◌, subst, sym}
use Rattle.gw_run.specs.Setup.{IsBuiltConfig}
use Rattle.gw_run.proofs.Decided.{carried, configured, not_built, stopped}
use Rattle.gw_run.proofs.forward.forward.Goals as goal

pub returns-in-Err-clause-answer : goal.returns-in-Err-clause-answer
returns-in-Err-clause-answer g c = record {
  status = c.status.result;
  name = _;
  decided = stopped _ _ _ _ c.in-Err.stop _ _ c.status.ensures c.in-Err.ensures.files c.in-Err.ensures.stopped c.in-Err.ensures.fault;
  stands = c.tell.ensures.answer;
  line = c.tell.ensures.said;
}

pub returns-in_default-clause-answer : goal.returns-in_default-clause-answer
returns-in_default-clause-answer g c = record {
  status = _;
  name = _;
  decided = not_built _ _ _ _ c.in-Ok.checked _ c.in-Ok.ensures.files c.in-Ok.ensures.read (λ setup is. c.in_default.ensures setup (subst (λ v. IsBuiltConfig v setup) (sym c.config.ensures.same) is));
  stands = c.tell-in_default.ensures.answer;
  line = c.tell-in_default.ensures.said;
}

pub returns-clause-answer : goal.returns-clause-answer
returns-clause-answer g c =
    let config = c.args.files.now.config.now in
    let did = c.carry_out-status.ensures in
    record {
      status = c.carry_out-status.result;
      name = _;
      decided = carried (g.D.Depot.state c.args.depot.now) _ config c.args.files.now.report.now _ c.in-Some.setup _ _
          (configured _ _ _ _ c.in-Ok.checked _ c.in-Ok.ensures.read (rw c.config.ensures.same at c.in-Some.ensures)) c.in-Ok.ensures.later
          (λ t. rw c.in-Ok.ensures.files at did.done config (c.in-Ok.ensures.told ∙ t)) did.shaped
          (λ t. rw c.in-Ok.ensures.files at did.cause config (c.in-Ok.ensures.told ∙ t))
          (λ t. rw c.in-Ok.ensures.files at did.files config (c.in-Ok.ensures.told ∙ t))
          (rw (c.in-Ok.ensures.told, c.in-Ok.ensures.files) at did.fault config) c.name_in.ensures;
      stands = c.tell-2.ensures.answer;
      line = c.tell-2.ensures.said;
    }
