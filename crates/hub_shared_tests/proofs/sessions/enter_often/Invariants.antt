use Rattle.std.proofs.Common.{◌≡◌, ◌+◌, ◌≤◌, true, length}
use Rattle.hub_shared.specs.Ports.{hub_of, port_state}
use Rattle.hub_shared.specs.Seats.{as_port}
use Rattle.hub_shared_tests.proofs.sessions.enter_often.Given as goal

abbrev pub invariant-loop-done : goal.invariant-loop-done
invariant-loop-done l =
    (hub_of l.port ≡ l.hub) × ((port_state l.port).home ≡ (as_port l.fn.seat).home) × ((port_state l.port).means.writes 0 ≡ true) × (length ((port_state l.port).view.sessions 0) ≡ l.entered) × (l.times ≤ (port_state l.port).means.takes + l._done)
    × (l.entered ≤ l._done)
