use Rattle.std.proofs.Common.{◌≡◌, ◌+◌, ◌-◌, ℕ, List, length, drop, subst, arith}
use Rattle.std.proofs.lemmas.List.{drop-drop, length-drop, take_rest}
use Rattle.gw_law.specs.Channels.{InTick}
use Rattle.bus_worker.proofs.InRow.{does-none, does-then}
use Rattle.bus_worker.proofs.OneTick.{hears-after}
use Rattle.bus_worker.specs.Hearing.{HearsBy}
use Rattle.bus_worker.specs.Window.{NeverFall, WorksWindow}
use Rattle.bus_worker.proofs.worker.Worker.window.Goals as goal

pub loop-tick-init : goal.loop-tick-init
loop-tick-init g c = record {
  most = omega arith;
  rest = c.requires.frames;
  hears = subst (λ (n : ℕ). HearsBy {Home = g.P.Port.Home} c.args.from.0 n c.args.self.now (g.P.Port.state c.args.port.now)) (omega arith) c.requires.can;
  does = does-none c.args.from.0 c.args.frames.now c.args.self.now _;
}

pub next_tick-requires-clause-budget : goal.next_tick-requires-clause-budget
next_tick-requires-clause-budget g c =
    let can = c.requires.can in
    let same = (c.loop-tick.invariant.does can.since can.acts can.by can.at can.clear).did.budget in
    let low = c.requires.budget in
    omega (arith, same, low)

pub loop-tick-preserved : goal.loop-tick-preserved
loop-tick-preserved g c =
    let so = c.loop-tick.invariant in
    let frames = c.args.frames.now in
    let came : ℕ = c.loop-tick.came in
    let count : ℕ = c.in_ok-came.field-0 in
    let W : List InTick → Type 0 = λ l. WorksWindow {Home = g.P.Port.Home} c.loop-tick.tick (c.loop-tick.tick + 1) l count c.loop-tick.self c.next_tick.new.self (g.P.Port.state c.loop-tick.port) (g.P.Port.state c.next_tick.new.port) in
    let one : W (drop came frames) = subst W (take_rest frames came) c.in_ok-came.ensures in
    let size : length (drop came frames) ≡ length frames - came = length-drop came frames in
    let low = one.came.most in
    let most = so.most in
    let N : List InTick → Type 0 = λ l. NeverFall (c.loop-tick.tick + 1) l in
    record {
      most = omega (arith, low, size, most);
      rest = subst N (drop-drop count came frames) one.came.rest;
      hears = hears-after c.loop-tick.tick (c.loop-tick.tick + 1) count (length frames - came) (length frames - (came + count)) (drop came frames) c.loop-tick.self c.next_tick.new.self _ _ (omega (arith, low, size, most)) so.hears one.does;
      does = does-then c.args.from.0 c.loop-tick.tick (c.loop-tick.tick + 1) came count frames c.args.self.now c.loop-tick.self c.next_tick.new.self _ _ _ so.does one.does;
    }

pub returns : goal.returns
returns g c =
    let so = c.loop-tick.invariant in
    let frames = c.args.frames.now in
    let past = c.loop-tick-test.false in
    let end = c.loop-tick.auto.tick-end c.requires.ticks.0 in
    let is : c.loop-tick.tick ≡ c.args.to.0 = omega (arith, past, end) in
    let W : ℕ → Type 0 = λ to. WorksWindow {Home = g.P.Port.Home} c.args.from.0 to frames c.loop-tick.came c.args.self.now c.loop-tick.self (g.P.Port.state c.args.port.now) (g.P.Port.state c.loop-tick.port) in
    subst W is (record { came = record { most = so.most; rest = so.rest }; does = so.does })
