use Rattle.std.proofs.Common.{◌≡◌, ◌≤◌, true}
use Rattle.tp_sender.specs.Port.{ActsFor, Knows}
use Rattle.tp_sender.specs.State.{HasFrame, since_of, state_of}
use Rattle.tp_sender_tests.proofs.tests.play.Given as goal

abbrev pub invariant-loop-event : goal.invariant-loop-event
invariant-loop-event g l =
    Knows (g.P.Port.state l.port).view l.sender × ActsFor (g.P.Port.state l.port).means l.sender × (since_of (state_of l.sender).live ≤ l.now) × (l.full ≡ true → HasFrame (state_of l.sender).live)
