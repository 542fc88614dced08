use Rattle.tp_sender_tests.proofs.tests.play.Goals as goal

pub loop-event-preserved : goal.loop-event-preserved
loop-event-preserved g c = (
  c.step-acts.ensures.knows,
  c.step-acts.ensures.acts,
  c.step-acts.ensures.since,
  c.full_after-full.ensures _ _ _ (c.still_full.ensures _ c.loop-event.invariant.3) c.step-acts.ensures.boxed,
)
