use Rattle.std.proofs.Common.{◌≡◌, ◌+◌, ◌≤◌, true, length}
use Rattle.hub_shared.specs.Ports.{hub_of, port_state}
use Rattle.hub_shared.specs.Seats.{as_port}
use Rattle.hub_shared_tests.proofs.sessions.join_often.Given as goal

abbrev pub invariant-loop-done : goal.invariant-loop-done
invariant-loop-done l = (hub_of l.port ≡ l.hub) × ((port_state l.port).home ≡ (as_port l.fn.seat).home) × ((port_state l.port).means.reads 0 0 ≡ true) × (length ((port_state l.port).view.readings 0 0) ≡ l.joined) × (l.joined ≤ l.before + l._done)
