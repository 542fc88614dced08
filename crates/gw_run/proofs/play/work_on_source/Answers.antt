-- Each frame that comes goes to the receiver where it is one of its channel.
use Rattle.std.proofs.Common.{◌≡◌, true, false, sym, ap, ◌∙◌}
use Rattle.std.proofs.lemmas.Result.{on_ok_weaker}
use Rattle.gw_law.specs.Channels.{is_addressed}
use Rattle.gw_run.specs.Frames.{address_of}
use Rattle.gw_run.proofs.Onward.{at_source, may_receive, receives-all, receives-one, receives-other}
use Rattle.gw_run.proofs.play.work_on_source.Goals as goal

pub receive-requires-clause-address : goal.receive-requires-clause-address
receive-requires-clause-address c = ap (λ m. m.rx.a) c.loop-frame.invariant.0 ∙ c.requires.address

pub receive-requires-clause-at : goal.receive-requires-clause-at
receive-requires-clause-at c =
    may_receive c.requires.at.0 (address_of c.args.address) c.args.tick.0 c.args.gateway.now c.loop-frame.gateway c.args.coming.now c.loop-frame.coming c.take_by.new.self c.in-Some.frame.now c.in-Some.ensures
    (c.loop-frame.invariant.1 c.requires.at.0) c.requires.at.1

pub loop-frame-preserved-in-Continue-1 : goal.loop-frame-preserved-in-Continue-1
loop-frame-preserved-in-Continue-1 c =
    let same : is_addressed (address_of c.args.address) c.in-Some.frame.now ≡ true = sym c.is_of.ensures ∙ c.if-is_of.true in (
      c.in_ok-receive.ensures.machines ∙ c.loop-frame.invariant.0,
      λ sizes. receives-one sizes (address_of c.args.address) c.args.tick.0 c.args.gateway.now c.loop-frame.gateway c.receive.new.self c.args.coming.now c.loop-frame.coming c.take_by.new.self c.in-Some.frame.now
          c.in-Some.ensures same (c.loop-frame.invariant.1 sizes) (c.in_ok-receive.ensures.step sizes),
    )

pub loop-frame-preserved : goal.loop-frame-preserved
loop-frame-preserved c =
    let other : is_addressed (address_of c.args.address) c.in-Some.frame.now ≡ false = sym c.is_of.ensures ∙ c.if-is_of.false in (
      c.loop-frame.invariant.0,
      λ sizes. receives-other sizes (address_of c.args.address) c.args.tick.0 c.args.gateway.now c.loop-frame.gateway c.args.coming.now c.loop-frame.coming c.take_by.new.self c.in-Some.frame.now
          c.in-Some.ensures other (c.loop-frame.invariant.1 sizes),
    )

pub end_source-requires : goal.end_source-requires
end_source-requires c = at_source c.requires.at.0 (address_of c.args.address) c.args.tick.0 c.args.gateway.now c.loop-frame.gateway c.args.coming.now c.loop-frame.coming (c.loop-frame.invariant.1 c.requires.at.0) c.requires.at.1

pub returns-clause-works : goal.returns-clause-works
returns-clause-works c =
    rw c.in_default.ensures.0 (on_ok_weaker c.end_source.result
    (λ step sizes. receives-all sizes (address_of c.args.address) c.args.tick.0 c.args.gateway.now c.loop-frame.gateway c.end_source.new.self c.args.coming.now c.loop-frame.coming c.in_default.ensures.1 (c.loop-frame.invariant.1 sizes) (step sizes))
    c.end_source.ensures.step)
