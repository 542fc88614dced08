use Rattle.std.proofs.Common.{◌<◌, ◌++◌, [], List, length, take, take_all, refl, sym, subst, append-nil, arith}
use Rattle.std.proofs.lemmas.List.{drop_all}
use Rattle.tx_mailbox.specs.Boxes.{Pending, content}
use Rattle.bus_worker.proofs.Doing.{did-none}
use Rattle.bus_worker.proofs.LeavingAll.{awaits-next, some-next}
use Rattle.bus_worker.proofs.Working.{but-later}
use Rattle.bus_worker.specs.Emission.{SomeLeaveAfter}
use Rattle.bus_worker.proofs.worker.Worker.leave_all.Goals as goal

pub loop-entry-init : goal.loop-entry-init
loop-entry-init g c = (
  c.requires.left,
  λ since acts by at out. record { done = []; at = but-later {Home = g.P.Port.Home} since c.args.tick.0 acts (λ number. content number (c.args.left.now ++ c.args.self.now.boxes)) c.args.self.now (g.P.Port.state c.args.port.now) by at; out = out; did = did-none c.args.self.now c.args.self.now _ refl refl refl refl; are = refl; sent = sym (append-nil c.args.self.now.sent) },
  omega arith,
)

pub loop-entry-preserved : goal.loop-entry-preserved
loop-entry-preserved g c =
    let so = c.loop-entry.invariant in
    let at = c.loop-entry.entry-index in
    let left = c.args.left.now in
    let below : at < length left = (let b = c.loop-entry-test.true in omega (arith, b)) in (
      awaits-next c.args.tick.0 at left c.entry-item.result c.args.self.now c.loop-entry.self c.leave_one.new.self (g.P.Port.state c.args.port.now) _ _ below (sym c.entry-item.is) so.0 c.in_ok-leave_one.ensures,
      some-next c.args.tick.0 at left c.entry-item.result c.args.self.now c.loop-entry.self c.leave_one.new.self _ _ _ below (sym c.entry-item.is) so.1 c.in_ok-leave_one.ensures,
      omega (arith, below),
    )

pub returns : goal.returns
returns g c since acts by at out =
    let so = c.loop-entry.invariant in
    let left = c.args.left.now in
    let past = c.loop-entry-test.false in
    let S : List Pending → Type 0 = λ l. SomeLeaveAfter {Home = g.P.Port.Home} c.args.tick.0 left l [] c.args.self.now c.loop-entry.self (g.P.Port.state c.args.port.now) (g.P.Port.state c.loop-entry.port) in
    let D : List Pending → Type 0 = λ l. SomeLeaveAfter {Home = g.P.Port.Home} c.args.tick.0 left (take c.loop-entry.entry-index left) l c.args.self.now c.loop-entry.self (g.P.Port.state c.args.port.now) (g.P.Port.state c.loop-entry.port) in
    let all = subst S (take_all c.loop-entry.entry-index left (omega (arith, past))) (subst D (drop_all c.loop-entry.entry-index left (omega (arith, past))) so.1) since acts by at out in
    record { done = all.done; at = all.at; did = all.did; are = all.are; sent = all.sent }
