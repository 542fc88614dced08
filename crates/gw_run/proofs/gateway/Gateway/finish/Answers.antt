use Rattle.std.proofs.Common.{◌-◌, arith}
use Rattle.tp_receiver.specs.State.{RunEnd}
use Rattle.gw_run.proofs.CanTell.{can-tell}
use Rattle.gw_run.proofs.Endings.{end-stands, finishes}
use Rattle.gw_run.proofs.gateway.Gateway.finish.Goals as goal

pub tell_receiver-requires : goal.tell_receiver-requires
tell_receiver-requires c = let at = c.requires.at in can-tell at.5 c.args.self (at.2 - 1) c.args.last.0 _ _ _ RunEnd at.6.stands (omega (arith, at.3)) tt

pub end_sender-requires-clause-at : goal.end_sender-requires-clause-at
end_sender-requires-clause-at c = let at = c.requires.at in (_, _, _, at.5, end-stands at.5 c.args.self c.tell_receiver.new.self c.args.last.0 at.0 at.1 at.2 at.3 at.6 c.in_ok-tell_receiver.ensures)

pub returns : goal.returns
returns c = λ sizes seen answers next in_time quiet at.
    finishes sizes c.args.self c.tell_receiver.new.self c.end_sender.new.self c.args.clock.now c.args.last.0 seen answers next c.told.result in_time quiet at c.in_ok-tell_receiver.ensures (c.in_ok-end_sender.ensures.ends sizes) c.in_ok-end_sender.ensures.over c.in_ok-end_sender.ensures.machines c.told.ensures
