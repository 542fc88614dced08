use Rattle.tp_receiver_tests.proofs.Playing.{IsReceiving}
use Rattle.tp_receiver_tests.proofs.granting.receive.Given as goal

abbrev pub invariant-loop-step : goal.invariant-loop-step
invariant-loop-step g l = IsReceiving (g.P.Port.state l.port).view (g.P.Port.state l.port).means l.receiver l.reader l.now l.steps l.left
