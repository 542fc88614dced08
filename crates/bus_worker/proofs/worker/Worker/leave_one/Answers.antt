use Rattle.std.proofs.Common.{◌++◌, ◌∷◌, [], List, ap, ◌∙◌}
use Rattle.can_frame.specs.Frame.{CanFrame}
use Rattle.tp_unit.specs.Box.{Written}
use Rattle.bus_worker.proofs.worker.Worker.leave_one.Goals as goal

pub returns : goal.returns
returns g c since acts later by at out =
    let one = c.in_ok-leave.ensures since acts c.args.entry.now.1 later by at out in
    let noted : List Written → CanFrame → List Written = λ l frame. l ++ record { tick = c.args.tick.0; frame = frame } ∷ [] in
    record {
      act = one.act;
      at = record { stand = one.at.stand; acts_for = one.at.acts_for; lie = one.at.lie; routed = one.at.routed };
      did = record {
        grown = one.did.grown;
        fresh = one.did.fresh;
        beside = one.did.beside;
        same = one.did.same;
        pool = one.did.pool;
        takes_used = one.did.takes_used;
        spare_used = one.did.spare_used;
        moves = one.did.moves;
        channels = one.did.channels;
        budget = one.did.budget;
        routes = one.did.routes;
      };
      is = one.is;
      sent = c.in_ok-push.ensures.ok ∙ ap (noted c.leave.new.self.sent) c.copy_of.ensures ∙ ap (λ l. noted l c.args.entry.now.1) one.sent;
      others = one.others;
    }
