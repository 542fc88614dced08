use Rattle.std.proofs.Common.{◌≡◌, List, ℕ, length}
use Rattle.gw_run.proofs.Onward.{Answers}
use Rattle.gw_run.specs.Frames.{address_of}
use Rattle.gw_run.proofs.play.work_on_destination.Given as goal

abbrev pub invariant-loop-frame : goal.invariant-loop-frame
invariant-loop-frame l =
    (l.gateway.machines ≡ l.initial.gateway.machines) × ((sizes : List ℕ) → Answers sizes (address_of l.address) l.tick.0 l.initial.gateway l.initial.coming l.gateway l.coming)

abbrev pub decreases-loop-frame : goal.decreases-loop-frame
decreases-loop-frame l = length l.coming
