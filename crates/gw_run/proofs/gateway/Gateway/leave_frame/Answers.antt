use Rattle.std.proofs.Common.{ap, ◌∙◌, rules}
use Rattle.tp_unit.specs.Box.{box_then}
use Rattle.gw_run.proofs.Leavings.{frame-leaves}
use Rattle.gw_run.proofs.gateway.Gateway.leave_frame.Goals as goal

pub returns : goal.returns
returns c =
    let told = c.in_ok-tell_sender.ensures in
    let gone = c.in_ok-leave.ensures in
    frame-leaves c.args.self.now.frame c.args.self.now c.tell_sender.new.self c.args.tick.0 (search rules)
    (record {
      turn = told.turn;
      stepped = told.stepped;
      lies_is = told.lies_is ∙ ap (λ l. box_then told.turn.did.act l) gone.none;
      frames_are = told.frames_are ∙ gone.left;
      dests = told.dests;
      moves = told.moves;
      rest = told.rest;
    })
