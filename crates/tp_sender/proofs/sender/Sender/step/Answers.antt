use Rattle.std.proofs.Common.{◌+◌, ◌∙◌, sym}
use Rattle.tp_sender.specs.Port.{did_of}
use Rattle.tp_sender.proofs.Settles.{settles-none, settles-some}
use Rattle.tp_sender.proofs.sender.Sender.step.Goals as goal

pub returns-in_default-clause-boxed : goal.returns-in_default-clause-boxed
returns-in_default-clause-boxed g c =
    (settles-none _ _ c.args.self.now.live c.take.new.self _ _ _ _ _ _ (sym c.take.ensures.value ∙ c.in_default.is) c.take.ensures.after c.step_idle.ensures.step).box

pub returns-clause-since : goal.returns-clause-since
returns-clause-since g c =
    (settles-some _ c.args.self.now.live c.in-Some.live _ (did_of c.args.tick.0 (c.in-Some.live.at.seq + 1) c.step_live-outcome.ensures.step.calls c.step_live-outcome.result) (sym c.take.ensures.value ∙ c.in-Some.is) c.requires.since (c.step_live-outcome.ensures.step.row c.step_live-outcome.ensures.step.calls)).time

pub returns-clause-boxed : goal.returns-clause-boxed
returns-clause-boxed g c =
    (settles-some _ c.args.self.now.live c.in-Some.live _ (did_of c.args.tick.0 (c.in-Some.live.at.seq + 1) c.step_live-outcome.ensures.step.calls c.step_live-outcome.result) (sym c.take.ensures.value ∙ c.in-Some.is) c.requires.since (c.step_live-outcome.ensures.step.row c.step_live-outcome.ensures.step.calls)).box
