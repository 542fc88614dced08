use Rattle.std.proofs.Common.{refl}
use Rattle.tp_receiver.specs.State.{RunEnd}
use Rattle.bus_worker.proofs.Phasing.{can-be-told, not-received, received-is}
use Rattle.bus_worker.proofs.Working.{receiver-works, works-none, works-so}
use Rattle.bus_worker.specs.Phases.{IsReceived}
use Rattle.bus_worker.proofs.worker.Worker.end_receiver.Goals as goal

pub tell_receiver-requires-clause-can : goal.tell_receiver-requires-clause-can
tell_receiver-requires-clause-can g c = can-be-told c.args.last.0 c.args.place RunEnd c.args.self.now _ (λ r. tt) c.requires.rests

pub returns-in_ok-tell_receiver : goal.returns-in_ok-tell_receiver
returns-in_ok-tell_receiver g c since acts by at =
    let told = c.in_ok-tell_receiver.ensures in
    works-so c.args.last.0 0 0 _ (IsReceived c.args.last.0 RunEnd c.args.place c.args.self.now.channels.items) acts c.args.self.now c.tell_receiver.new.self _ _
    (received-is c.args.place c.args.last.0 RunEnd c.args.self.now c.tell_receiver.new.self _ _ told)
    (receiver-works c.args.place c.args.last.0 RunEnd c.args.self.now c.tell_receiver.new.self _ _ told (λ lies. refl) since acts by at)

pub returns-else-is_source : goal.returns-else-is_source
returns-else-is_source g c =
    works-none c.args.last.0 (IsReceived c.args.last.0 RunEnd c.args.place c.args.self.now.channels.items) c.args.self.now _ (not-received c.args.last.0 RunEnd c.args.place c.args.self.now.channels.items c.if-is_source.ensures)
