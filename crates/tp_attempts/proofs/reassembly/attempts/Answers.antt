-- One more frame is cut.
use Rattle.tp_attempts.proofs.Growth.{seen_from-next}
use Rattle.tp_attempts.proofs.reassembly.attempts.Goals as goal

pub loop-place-preserved : goal.loop-place-preserved
loop-place-preserved c =
    rw (seen_from-next c.args.a c.args.frames.now c.loop-place.place c.index-frames-place.result c.loop-place-test.true c.index-frames-place.is) (c.in_ok-add.ensures _ c.loop-place.invariant)
