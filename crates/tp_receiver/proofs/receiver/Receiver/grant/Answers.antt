use Rattle.std.proofs.Common.{arith}
use Rattle.tp_receiver.specs.State.{idle, state_of}
use Rattle.tp_receiver.specs.Table.{Answers, Ends, NoneReads, SomeRead}
use Rattle.hub_core.specs.declared.record.SessionResult.TheVariants.{NoReaders}
use Rattle.tp_receiver.proofs.Composing.{over-by, over-asked}
use Rattle.tp_receiver.proofs.receiver.Receiver.grant.Goals as goal

pub returns-then-room-eq0-clause-over : goal.returns-then-room-eq0-clause-over
returns-then-room-eq0-clause-over g c =
    rw (c.requires.state) (over-by
    (over-asked _ _ _ c.args.self.now.set c.args.reception c.room-room.result c.room-room.new.at _ _ _ _ _ (λ busy m. Ends c.args.self.now.set (idle (state_of c.args.self.now)) busy NoReaders m)
    c.requires.knows.path_is c.room-room.ensures.token c.room-room.ensures.view c.room-room.ensures.stays.rise c.room-room.ensures.fresh c.end.ensures.over)
    (λ calls row. NoneReads c.room-room.result.cells c.room-room.result.readers c.if-room-eq0.true row))

pub returns-clause-over : goal.returns-clause-over
returns-clause-over g c =
    over-by
    (over-asked _ _ _ c.args.self.now.set c.args.reception c.room-room.result c.room-room.new.at _ _ _ _ _ (λ busy m. Answers c.args.self.now.set (idle (state_of c.args.self.now)) busy c.room-room.result.cells m)
    c.requires.knows.path_is c.room-room.ensures.token c.room-room.ensures.view c.room-room.ensures.stays.rise c.room-room.ensures.fresh c.answer.ensures.over)
    (λ calls row. SomeRead c.room-room.result.cells c.room-room.result.readers (omega (arith, c.if-room-eq0.false)) row)
