use Rattle.std.proofs.Common.{arith}
use Rattle.tp_sender.specs.declared.event.TxEvent.TheVariants.{Turn, Left}
use Rattle.gw_run.proofs.Barriers.{destination-ends, turn-stands}
use Rattle.gw_run.proofs.CanTell.{can-tell-sender}
use Rattle.gw_run.proofs.gateway.Gateway.end_destination.Goals as goal

pub tell_sender-requires : goal.tell_sender-requires
tell_sender-requires c = can-tell-sender c.requires.at.2 c.args.self.now c.args.tick.0 c.args.tick.0 _ _ _ Turn c.requires.at.3.stands (omega arith) c.requires.tick (λ e. cc)

pub leave_frame-requires-clause-ready : goal.leave_frame-requires-clause-ready
leave_frame-requires-clause-ready c = λ lies.
    let stands = turn-stands c.requires.at.2 c.args.self.now c.tell_sender.new.self c.requires.at.0 c.requires.at.1 c.args.tick.0 c.requires.at.3 c.in_ok-tell_sender.ensures in
    can-tell-sender c.requires.at.2 c.tell_sender.new.self c.args.tick.0 c.args.tick.0 _ _ _ Left stands (omega arith) c.requires.tick (λ e. stands.sends.had lies)

pub leave_frame-requires-clause-fits : goal.leave_frame-requires-clause-fits
leave_frame-requires-clause-fits c = (turn-stands c.requires.at.2 c.args.self.now c.tell_sender.new.self c.requires.at.0 c.requires.at.1 c.args.tick.0 c.requires.at.3 c.in_ok-tell_sender.ensures).sends.fits

pub returns-clause-step : goal.returns-clause-step
returns-clause-step c = λ sizes seen answers at. destination-ends sizes c.args.self.now c.tell_sender.new.self c.leave_frame.new.self seen answers c.args.tick.0 at c.in_ok-tell_sender.ensures c.in_ok-leave_frame.ensures
