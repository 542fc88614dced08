use Rattle.bus_worker.proofs.Heard.{can-answer, in-order, keeps-frame}
use Rattle.bus_worker.proofs.Phasing.{not-sent, sent-is}
use Rattle.bus_worker.proofs.Working.{sender-works, works-none, works-so}
use Rattle.bus_worker.specs.Acts.{sent_at}
use Rattle.bus_worker.specs.Phases.{IsSent}
use Rattle.bus_worker.proofs.worker.Worker.hear_answer.Goals as goal

pub tell_sender-requires-clause-can : goal.tell_sender-requires-clause-can
tell_sender-requires-clause-can g c = can-answer c.args.tick.0 c.args.place 0 c.requires.answer.0 c.requires.answer.1 c.requires.answer.2 c.args.event c.args.self.now _ c.requires.tick c.requires.can c.requires.answer.3

pub returns-in_ok-tell_sender : goal.returns-in_ok-tell_sender
returns-in_ok-tell_sender g c since acts by at clear =
    let told = c.in_ok-tell_sender.ensures in
    let a = c.requires.answer in
    works-so c.args.tick.0 0 0 _ (IsSent c.args.tick.0 c.args.event c.args.place c.args.self.now.channels.items) acts c.args.self.now c.tell_sender.new.self _ _
    (sent-is c.args.place c.args.tick.0 c.args.event c.args.self.now c.tell_sender.new.self _ _ told)
    (sender-works c.args.place c.args.tick.0 c.args.event c.args.self.now c.tell_sender.new.self _ _ told (keeps-frame a.0 a.1 a.2 c.args.event a.3) since acts by at
    (in-order c.args.tick.0 a.0 a.1 a.2 c.args.event (sent_at c.args.place acts) a.3 (clear c.args.place)))

pub returns-else-is_destination : goal.returns-else-is_destination
returns-else-is_destination g c since acts by at clear =
    works-none c.args.tick.0 (IsSent c.args.tick.0 c.args.event c.args.place c.args.self.now.channels.items) c.args.self.now _ (not-sent c.args.tick.0 c.args.event c.args.place c.args.self.now.channels.items c.if-is_destination.ensures) since acts by at
