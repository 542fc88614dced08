use Rattle.std.proofs.Common.{◌≡◌, ◌+◌, ℕ, length, refl, subst, ◌∙◌, arith}
use Rattle.tp_receiver.specs.State.{RunEnd}
use Rattle.bus_worker.proofs.Phasing.{none-received, received-next}
use Rattle.bus_worker.proofs.Working.{rests-after, works-none, works-then}
use Rattle.bus_worker.specs.Ending.{EndsReceivers}
use Rattle.bus_worker.specs.Phases.{AreReceived, IsReceived}
use Rattle.bus_worker.proofs.worker.Worker.end_receivers.Goals as goal

pub loop-place-init : goal.loop-place-init
loop-place-init g c = (
  c.requires.rests,
  works-none c.args.last.0 (AreReceived c.args.last.0 RunEnd 0 c.args.self.now.channels.items) c.args.self.now _ (none-received c.args.last.0 RunEnd c.args.self.now.channels.items),
  omega arith,
  c.requires.rests.at.stand.few,
  refl,
)

pub loop-place-preserved : goal.loop-place-preserved
loop-place-preserved g c =
    let so = c.loop-place.invariant in
    let first = c.args.self.now.channels.items in
    let place = c.loop-place.place in
    let one = c.in_ok-end_receiver.ensures in
    let did = (one so.0.since so.0.acts so.0.by so.0.at).did in (
      rests-after c.args.last.0 0 0 (IsReceived c.args.last.0 RunEnd place c.loop-place.self.channels.items) c.loop-place.self c.end_receiver.new.self _ _ so.0 one,
      works-then c.args.last.0 0 0 0 0 (AreReceived c.args.last.0 RunEnd place first) (IsReceived c.args.last.0 RunEnd place c.loop-place.self.channels.items) (AreReceived c.args.last.0 RunEnd (place + 1) first) c.args.self.now c.loop-place.self c.end_receiver.new.self _ _ _
          (λ done later did' are also. received-next c.args.last.0 place RunEnd first c.loop-place.self.channels.items done later did'.channels are also) so.1 one,
      (let below = c.loop-place-test.true in let is = c.len-place-end.ensures in let ok = c.args.self.now.channels.ok.0 in omega (arith, below, is, ok)),
      so.3,
      did.channels.count ∙ so.4,
    )

pub returns : goal.returns
returns g c =
    let so = c.loop-place.invariant in
    let end : c.loop-place.place ≡ length c.args.self.now.channels.items = (let a = c.loop-place-test.false in let is = c.len-place-end.ensures in let ok = c.args.self.now.channels.ok.0 in let b = so.2 in omega (arith, a, is, ok, b)) in
    subst (λ (n : ℕ). EndsReceivers c.args.last.0 n c.args.self.now c.loop-place.self (g.P.Port.state c.args.port.now) (g.P.Port.state c.loop-place.port)) end so.1
