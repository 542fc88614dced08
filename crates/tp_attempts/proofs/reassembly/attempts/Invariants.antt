-- The frames that came are cut.
use Rattle.std.proofs.Common.{take}
use Rattle.tp_attempts.specs.Seen.{seen_from}
use Rattle.tp_attempts.specs.Following.{IsCut}
use Rattle.tp_attempts.proofs.reassembly.attempts.Given as goal

abbrev pub invariant-loop-place : goal.invariant-loop-place
invariant-loop-place l = IsCut l.a l.functional l.cutting.done l.cutting.last (seen_from l.a 0 (take l.place l.frames))
