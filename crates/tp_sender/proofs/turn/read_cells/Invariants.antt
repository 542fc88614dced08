use Rattle.std.proofs.Common.{◌-◌}
use Rattle.tp_sender.specs.Port.{ReadsSome}
use Rattle.hub_core.specs.Stays.{IsSamePort}
use Rattle.tp_sender.proofs.turn.read_cells.Given as goal

abbrev pub invariant-loop-port : goal.invariant-loop-port
invariant-loop-port g l =
    ReadsSome l.wanted l.initial.live l.live (g.P.Port.state l.initial.port).view (g.P.Port.state l.port).view (g.P.Port.state l.initial.port).means (g.P.Port.state l.port).means × IsSamePort (g.P.Port.state l.initial.port) (g.P.Port.state l.port)

abbrev pub decreases-loop-port : goal.decreases-loop-port
decreases-loop-port g l = l.live.at.seen - l.live.at.at
