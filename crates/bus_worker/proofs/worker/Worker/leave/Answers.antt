use Rattle.std.proofs.Common.{◌≡◌, ◌≢◌, ◌/◌, ◌%◌, ℕ, sym, subst, arith}
use Rattle.bus_worker.proofs.Leavings.{can-leave-control, can-leave-frame, control-left, destination-below, destination-there, frame-left, source-below, source-there}
use Rattle.bus_worker.specs.Emission.{LeavesAfter}
use Rattle.bus_worker.specs.Stands.{control_box, frame_box}
use Rattle.bus_worker.proofs.worker.Worker.leave.Goals as goal

even : (n place : ℕ) → place ≡ n / 2 → n % 2 ≡ 0 → n ≡ control_box place
even n place half is = omega (arith, half, is)

odd : (n place : ℕ) → place ≡ n / 2 → n % 2 ≢ 0 → n ≡ frame_box place
odd n place half not = omega (arith, half, not)

pub tell_receiver-requires-clause-place : goal.tell_receiver-requires-clause-place
tell_receiver-requires-clause-place g c =
    let place = c.from-place.result in
    let there = source-there c.args.tick.0 place c.args.number c.args.self.now _ (even c.args.number place c.from-place.ensures c.if-number-eq0.true) c.requires.left in
    let below = source-below c.args.self.now.channels.items place there in
    let few = c.requires.left.at.stand.few in
    omega (arith, below, few)

pub tell_receiver-requires-clause-there : goal.tell_receiver-requires-clause-there
tell_receiver-requires-clause-there g c = source-there c.args.tick.0 c.from-place.result c.args.number c.args.self.now _ (even c.args.number c.from-place.result c.from-place.ensures c.if-number-eq0.true) c.requires.left

pub tell_receiver-requires-clause-can : goal.tell_receiver-requires-clause-can
tell_receiver-requires-clause-can g c = can-leave-control c.args.tick.0 c.from-place.result c.args.number c.args.self.now _ c.requires.left

pub tell_sender-requires-clause-place : goal.tell_sender-requires-clause-place
tell_sender-requires-clause-place g c =
    let place = c.from-place.result in
    let there = destination-there c.args.tick.0 place c.args.number c.args.self.now _ (odd c.args.number place c.from-place.ensures c.if-number-eq0.false) c.requires.left in
    let below = destination-below c.args.self.now.channels.items place there in
    let few = c.requires.left.at.stand.few in
    omega (arith, below, few)

pub tell_sender-requires-clause-there : goal.tell_sender-requires-clause-there
tell_sender-requires-clause-there g c = destination-there c.args.tick.0 c.from-place.result c.args.number c.args.self.now _ (odd c.args.number c.from-place.result c.from-place.ensures c.if-number-eq0.false) c.requires.left

pub tell_sender-requires-clause-can : goal.tell_sender-requires-clause-can
tell_sender-requires-clause-can g c = can-leave-frame c.args.tick.0 c.from-place.result c.args.number c.args.self.now _ c.requires.tick (odd c.args.number c.from-place.result c.from-place.ensures c.if-number-eq0.false) c.requires.left

pub returns-in_ok-tell_receiver : goal.returns-in_ok-tell_receiver
returns-in_ok-tell_receiver g c =
    let place = c.from-place.result in
    subst (λ (n : ℕ). LeavesAfter {Home = g.P.Port.Home} c.args.tick.0 n c.args.self.now c.tell_receiver.new.self (g.P.Port.state c.args.port.now) (g.P.Port.state c.tell_receiver.new.port)) (sym (even c.args.number place c.from-place.ensures c.if-number-eq0.true))
    (control-left c.args.tick.0 place c.args.self.now c.tell_receiver.new.self _ _ c.in_ok-tell_receiver.ensures)

pub returns-in_ok-tell_sender : goal.returns-in_ok-tell_sender
returns-in_ok-tell_sender g c =
    let place = c.from-place.result in
    subst (λ (n : ℕ). LeavesAfter {Home = g.P.Port.Home} c.args.tick.0 n c.args.self.now c.tell_sender.new.self (g.P.Port.state c.args.port.now) (g.P.Port.state c.tell_sender.new.port)) (sym (odd c.args.number place c.from-place.ensures c.if-number-eq0.false))
    (frame-left c.args.tick.0 place c.args.self.now c.tell_sender.new.self _ _ c.in_ok-tell_sender.ensures)
