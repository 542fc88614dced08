use Rattle.std.proofs.Common.{◌≡◌, List, ℕ}
use Rattle.tp_sender.specs.State.{TxTurn}
use Rattle.tp_receiver.specs.State.{RxTurn}
use Rattle.hub_core.specs.View.{View}
use Rattle.gw_run.specs.Standing.{Stands}
use Rattle.gw_run.specs.Telling.{EndsTelling}
use Rattle.gw_run.proofs.Endings.{remaining}
use Rattle.gw_run.proofs.gateway.Gateway.end_sender.Given as goal

abbrev pub invariant-loop : goal.invariant-loop
invariant-loop l = record {
  machines : l.self.machines ≡ l.initial.self.machines;
  ends : (sizes : List ℕ) (turns : List RxTurn) (moments : List TxTurn) (view : View) → Stands sizes l.initial.self l.last.0 turns moments view → EndsTelling sizes l.self l.last.0 turns moments view;
}

abbrev pub decreases-loop : goal.decreases-loop
decreases-loop l = remaining l.self
