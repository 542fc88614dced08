use Rattle.std.proofs.Common.{◌≡◌, ◌≤◌, true}
use Rattle.hub_core.specs.Tokens.{Writes}
use Rattle.tp_sender.specs.Port.{ActsFor, Knows}
use Rattle.tp_sender.specs.State.{HasFrame, since_of, state_of}
use Rattle.tp_sender_tests.proofs.pacing.send.Given as goal

abbrev pub invariant-loop-step : goal.invariant-loop-step
invariant-loop-step g l =
    Knows (g.P.Port.state l.port).view l.sender × ActsFor (g.P.Port.state l.port).means l.sender × (since_of (state_of l.sender).live ≤ l.now) × (l.full ≡ true → HasFrame (state_of l.sender).live) ×
    Writes (g.P.Port.state l.port).view l.writer × (l.wanted ≤ (g.P.Port.state l.port).means.spare)
