use Rattle.std.proofs.Common.{List, sym, subst}
use Rattle.tx_mailbox.specs.Boxes.{Pending}
use Rattle.bus_worker.proofs.Emitting.{awaits-emitted, emits-all, emits-nothing, with-boxes}
use Rattle.bus_worker.specs.Emission.{AllLeaveAfter, AwaitsLeft}
use Rattle.bus_worker.proofs.worker.Worker.emit.Goals as goal

pub returns-then-is_empty : goal.returns-then-is_empty
returns-then-is_empty g c since acts by at = emits-nothing c.args.tick.0 c.args.self.now _ (c.is_empty.ensures.0 c.if-is_empty.true) since acts by at

pub leave_all-requires-clause-left : goal.leave_all-requires-clause-left
leave_all-requires-clause-left g c =
    subst (λ (l : List Pending). AwaitsLeft {Home = g.P.Port.Home} c.args.tick.0 l (with-boxes c.args.self.now c.emit.new.self) (g.P.Port.state c.args.port.now)) (sym c.as_slice.ensures.value)
    (awaits-emitted c.args.tick.0 c.args.self.now.budget c.args.self.now c.emit.new.out.items c.emit.new.self (g.P.Port.state c.args.port.now) c.emit.ensures c.requires.rests)

pub returns : goal.returns
returns g c since acts by at =
    emits-all c.args.tick.0 c.args.self.now c.leave_all.new.self c.emit.new.out.items c.emit.new.self _ _ c.emit.ensures
    (subst (λ (l : List Pending). AllLeaveAfter {Home = g.P.Port.Home} c.args.tick.0 l (with-boxes c.args.self.now c.emit.new.self) c.leave_all.new.self (g.P.Port.state c.args.port.now) (g.P.Port.state c.leave_all.new.port)) c.as_slice.ensures.value c.in_ok-leave_all.ensures)
    since acts by at
