use Rattle.std.proofs.Common.{ap, ◌∙◌, rules}
use Rattle.tp_unit.specs.Box.{box_then}
use Rattle.gw_run.proofs.Leavings.{control-leaves}
use Rattle.gw_run.proofs.gateway.Gateway.leave_control.Goals as goal

pub returns : goal.returns
returns c =
    let told = c.in_ok-tell_receiver.ensures in
    let gone = c.in_ok-leave.ensures in
    control-leaves c.args.self.now.control c.args.self.now c.tell_receiver.new.self c.args.tick.0 (search rules)
    (record {
      did = told.did;
      stepped = told.stepped;
      lies_is = told.lies_is ∙ ap (λ l. box_then told.did.act l) gone.none;
      controls_are = told.controls_are ∙ gone.left;
      sessions = told.sessions;
      moves = told.moves;
      rest = told.rest;
    })
