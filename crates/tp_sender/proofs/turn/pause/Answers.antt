use Rattle.tp_sender.specs.Table.{GapOver}
use Rattle.tp_sender.proofs.turn.pause.Goals as goal

pub returns-clause-step : goal.returns-clause-step
returns-clause-step g c =
    let over = c.fill_from.ensures.step in
    record { calls = over.calls; grown = over.grown; fresh = over.fresh; moves_are = over.moves_are; row = λ all. GapOver c.if-tick-until.false (over.row all) }
