use Rattle.tp_receiver.specs.State.{RunEnd}
use Rattle.std.proofs.Common.{length}
use Rattle.bus_worker.proofs.Finishing.{finishes}
use Rattle.bus_worker.proofs.Working.{rests-after}
use Rattle.bus_worker.specs.Phases.{AreReceived}
use Rattle.bus_worker.proofs.worker.Worker.finish.Goals as goal

pub end_senders-requires-clause-rests : goal.end_senders-requires-clause-rests
end_senders-requires-clause-rests g c =
    rests-after c.args.last.0 0 0 (AreReceived c.args.last.0 RunEnd (length c.args.self.now.channels.items) c.args.self.now.channels.items) c.args.self.now c.end_receivers.new.self _ _ c.requires.rests c.in_ok-end_receivers.ensures

pub returns : goal.returns
returns g c = finishes c.args.last.0 c.args.self.now c.end_receivers.new.self c.end_senders.new.self _ _ _ c.requires.rests c.in_ok-end_receivers.ensures c.in_ok-end_senders.ensures
