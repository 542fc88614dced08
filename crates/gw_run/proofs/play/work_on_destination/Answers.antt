-- Each frame that comes goes to the sender where it is one of its channel.
use Rattle.std.proofs.Common.{◌≡◌, true, false, sym, ◌∙◌}
use Rattle.std.proofs.lemmas.Result.{on_ok_weaker}
use Rattle.gw_law.specs.Channels.{is_addressed}
use Rattle.gw_run.specs.Frames.{address_of}
use Rattle.gw_run.proofs.Onward.{answers-all, answers-one, answers-other, at_destination}
use Rattle.gw_run.proofs.play.work_on_destination.Goals as goal

pub answer-requires-clause-at : goal.answer-requires-clause-at
answer-requires-clause-at c = at_destination c.requires.at.0 (address_of c.args.address) c.args.tick.0 c.args.gateway.now c.loop-frame.gateway c.args.coming.now c.loop-frame.coming (c.loop-frame.invariant.1 c.requires.at.0) c.requires.at.1

pub loop-frame-preserved-in-Continue-1 : goal.loop-frame-preserved-in-Continue-1
loop-frame-preserved-in-Continue-1 c =
    let same : is_addressed (address_of c.args.address) c.in-Some.frame.now ≡ true = sym c.is_of.ensures ∙ c.if-is_of.true in (
      c.in_ok-answer.ensures.machines ∙ c.loop-frame.invariant.0,
      λ sizes. answers-one sizes (address_of c.args.address) c.args.tick.0 c.args.gateway.now c.loop-frame.gateway c.answer.new.self c.args.coming.now c.loop-frame.coming c.take_by.new.self c.in-Some.frame.now
          c.in-Some.ensures same (c.loop-frame.invariant.1 sizes) (c.in_ok-answer.ensures.step sizes),
    )

pub loop-frame-preserved : goal.loop-frame-preserved
loop-frame-preserved c =
    let other : is_addressed (address_of c.args.address) c.in-Some.frame.now ≡ false = sym c.is_of.ensures ∙ c.if-is_of.false in (
      c.loop-frame.invariant.0,
      λ sizes. answers-other sizes (address_of c.args.address) c.args.tick.0 c.args.gateway.now c.loop-frame.gateway c.args.coming.now c.loop-frame.coming c.take_by.new.self c.in-Some.frame.now
          c.in-Some.ensures other (c.loop-frame.invariant.1 sizes),
    )

pub end_destination-requires-clause-at : goal.end_destination-requires-clause-at
end_destination-requires-clause-at c = at_destination c.requires.at.0 (address_of c.args.address) c.args.tick.0 c.args.gateway.now c.loop-frame.gateway c.args.coming.now c.loop-frame.coming (c.loop-frame.invariant.1 c.requires.at.0) c.requires.at.1

pub returns-clause-works : goal.returns-clause-works
returns-clause-works c =
    rw c.in_default.ensures.0 (on_ok_weaker c.end_destination.result
    (λ step sizes. answers-all sizes (address_of c.args.address) c.args.tick.0 c.args.gateway.now c.loop-frame.gateway c.end_destination.new.self c.args.coming.now c.loop-frame.coming c.in_default.ensures.1 (c.loop-frame.invariant.1 sizes) (step sizes))
    c.end_destination.ensures.step)
