-- The lines so far are those of the frames so far, and each is one line.
use Rattle.std.proofs.Common.{◌≡◌, take}
use Rattle.std.specs.Prelude.{All}
use Rattle.gw_run.specs.Output.{IsOneLine, output_text}
use Rattle.gw_run.proofs.output.output_text.Given as goal

abbrev pub invariant-loop-sent : goal.invariant-loop-sent
invariant-loop-sent l =
    (l.text ≡ output_text l.clock.start.0 l.clock.period l.interface (take l.sent-index l.frames))
    × All (IsOneLine l.clock.start.0 l.clock.period l.interface) (take l.sent-index l.frames)
