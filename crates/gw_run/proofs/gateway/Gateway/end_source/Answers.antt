use Rattle.std.proofs.Common.{arith}
use Rattle.tp_receiver.specs.State.{Timer, FcLeft}
use Rattle.gw_run.proofs.CanTell.{can-tell}
use Rattle.gw_run.proofs.Ticks.{source-ends, timer-stands}
use Rattle.gw_run.proofs.gateway.Gateway.end_source.Goals as goal

pub tell_receiver-requires : goal.tell_receiver-requires
tell_receiver-requires c = can-tell c.requires.2 c.args.self.now c.args.tick.0 c.args.tick.0 _ _ _ Timer c.requires.3.stands (omega arith) tt

pub leave_control-requires-clause-ready : goal.leave_control-requires-clause-ready
leave_control-requires-clause-ready c =
    can-tell c.requires.2 c.tell_receiver.new.self c.args.tick.0 c.args.tick.0 _ _ _ FcLeft (timer-stands c.requires.2 c.args.self.now c.tell_receiver.new.self c.requires.0 c.requires.1 c.args.tick.0 c.requires.3 c.in_ok-tell_receiver.ensures) (omega arith) tt

pub leave_control-requires-clause-fits : goal.leave_control-requires-clause-fits
leave_control-requires-clause-fits c = (timer-stands c.requires.2 c.args.self.now c.tell_receiver.new.self c.requires.0 c.requires.1 c.args.tick.0 c.requires.3 c.in_ok-tell_receiver.ensures).receives.fits

pub returns-clause-step : goal.returns-clause-step
returns-clause-step c = λ sizes seen answers at. source-ends sizes c.args.self.now c.tell_receiver.new.self c.leave_control.new.self seen answers c.args.tick.0 at c.in_ok-tell_receiver.ensures c.in_ok-leave_control.ensures
