use Rattle.std.proofs.Common.{refl}
use Rattle.tp_sender.specs.declared.event.TxEvent.TheVariants.{Turn}
use Rattle.bus_worker.proofs.Phasing.{can-be-told-sender, not-sent, sent-is}
use Rattle.bus_worker.proofs.Working.{sender-works, works-none, works-so}
use Rattle.bus_worker.specs.Phases.{IsTurn}
use Rattle.bus_worker.proofs.worker.Worker.turn_at.Goals as goal

pub tell_sender-requires-clause-can : goal.tell_sender-requires-clause-can
tell_sender-requires-clause-can g c = can-be-told-sender c.args.tick.0 c.args.place Turn c.args.self.now _ (λ is. cc) c.requires.tick c.requires.rests

pub returns-in_ok-tell_sender : goal.returns-in_ok-tell_sender
returns-in_ok-tell_sender g c since acts by at =
    let told = c.in_ok-tell_sender.ensures in
    works-so c.args.tick.0 0 0 _ (IsTurn c.args.tick.0 c.args.place c.args.self.now.channels.items) acts c.args.self.now c.tell_sender.new.self _ _
    (sent-is c.args.place c.args.tick.0 Turn c.args.self.now c.tell_sender.new.self _ _ told)
    (sender-works c.args.place c.args.tick.0 Turn c.args.self.now c.tell_sender.new.self _ _ told (λ lies. refl) since acts by at tt)

pub returns-else-is_destination : goal.returns-else-is_destination
returns-else-is_destination g c =
    works-none c.args.tick.0 (IsTurn c.args.tick.0 c.args.place c.args.self.now.channels.items) c.args.self.now _ (not-sent c.args.tick.0 Turn c.args.place c.args.self.now.channels.items c.if-is_destination.ensures)
