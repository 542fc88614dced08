use Rattle.std.proofs.Common.{◌≡◌, ◌≤◌, true, length}
use Rattle.if_core_tests.proofs.tests.all_agree.Given as goal

abbrev pub invariant-loop-call : goal.invariant-loop-call
invariant-loop-call g l =
    ((g.L.Lanes.means l.lanes).offers 0 ≡ true) × ((g.L.Lanes.means l.lanes).takes 0 ≡ true)
    × (length ((g.L.Lanes.view l.lanes) 0).offers ≡ l.listed.offered) × (l.listed.offered ≤ l.call)
