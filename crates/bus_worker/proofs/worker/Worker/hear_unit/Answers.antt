use Rattle.std.proofs.Common.{refl}
use Rattle.tp_receiver.specs.State.{Came}
use Rattle.tp_unit.specs.Unit.{meaning_of}
use Rattle.bus_worker.proofs.Heard.{can-hear, works-more}
use Rattle.bus_worker.proofs.Phasing.{not-received, received-is}
use Rattle.bus_worker.proofs.Working.{receiver-works, works-none, works-so}
use Rattle.bus_worker.specs.Hearing.{IsFrameHeard}
use Rattle.bus_worker.proofs.worker.Worker.hear_unit.Goals as goal

pub tell_receiver-requires-clause-can : goal.tell_receiver-requires-clause-can
tell_receiver-requires-clause-can g c = can-hear c.args.tick.0 c.args.place c.args.size (meaning_of c.args.unit) c.requires.read.0 c.args.self.now _ c.requires.can c.requires.read.1 c.requires.read.2

pub returns-in_ok-tell_receiver : goal.returns-in_ok-tell_receiver
returns-in_ok-tell_receiver g c since acts by at clear =
    let told = c.in_ok-tell_receiver.ensures in
    works-so c.args.tick.0 1 9 _ (IsFrameHeard c.args.tick.0 c.args.place c.args.size (meaning_of c.args.unit) c.args.self.now.channels.items) acts c.args.self.now c.tell_receiver.new.self _ _
    (received-is c.args.place c.args.tick.0 (Came c.args.size (meaning_of c.args.unit)) c.args.self.now c.tell_receiver.new.self _ _ told)
    (receiver-works c.args.place c.args.tick.0 (Came c.args.size (meaning_of c.args.unit)) c.args.self.now c.tell_receiver.new.self _ _ told (λ lies. refl) since acts by at)

pub returns-else-is_source : goal.returns-else-is_source
returns-else-is_source g c since acts by at clear =
    works-more c.args.tick.0 1 9 _ acts c.args.self.now c.args.self.now _ _
    (works-none c.args.tick.0 (IsFrameHeard c.args.tick.0 c.args.place c.args.size (meaning_of c.args.unit) c.args.self.now.channels.items) c.args.self.now _ (not-received c.args.tick.0 (Came c.args.size (meaning_of c.args.unit)) c.args.place c.args.self.now.channels.items c.if-is_source.ensures) since acts by at)
