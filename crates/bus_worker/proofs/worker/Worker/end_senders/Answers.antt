use Rattle.std.proofs.Common.{◌≡◌, ℕ, length, refl, subst, ◌∙◌, arith}
use Rattle.bus_worker.proofs.Finishing.{rests-after-ends, senders-more, senders-none}
use Rattle.bus_worker.specs.Ending.{EndsSenders}
use Rattle.bus_worker.proofs.worker.Worker.end_senders.Goals as goal

pub loop-place-init : goal.loop-place-init
loop-place-init g c = record {
  below = omega arith;
  few = c.requires.rests.at.stand.few;
  count = refl;
  rests = c.requires.rests;
  ends = senders-none c.args.last.0 c.args.self.now _;
}

pub loop-place-preserved : goal.loop-place-preserved
loop-place-preserved g c =
    let so = c.loop-place.invariant in
    let one = c.in_ok-end_sender.ensures in
    let did = (one.ends so.rests.since so.rests.acts so.rests.by so.rests.at).works.did in
    record {
      below = (let below = c.loop-place-test.true in let is = c.len-place-end.ensures in let ok = c.args.self.now.channels.ok.0 in omega (arith, below, is, ok));
      few = so.few;
      count = did.channels.count ∙ so.count;
      rests = rests-after-ends c.args.last.0 c.loop-place.place c.loop-place.self c.end_sender.new.self _ _ so.rests one.ends;
      ends = senders-more c.args.last.0 c.loop-place.place c.args.self.now c.loop-place.self c.end_sender.new.self _ _ _ c.requires.rests so.ends one;
    }

pub returns : goal.returns
returns g c =
    let so = c.loop-place.invariant in
    let end : c.loop-place.place ≡ length c.args.self.now.channels.items = (let a = c.loop-place-test.false in let is = c.len-place-end.ensures in let ok = c.args.self.now.channels.ok.0 in let b = so.below in omega (arith, a, is, ok, b)) in
    subst (λ (n : ℕ). EndsSenders c.args.last.0 n c.args.self.now c.loop-place.self (g.P.Port.state c.args.port.now) (g.P.Port.state c.loop-place.port)) end so.ends
