use Rattle.tp_receiver.specs.Table.{LooksAgain}
use Rattle.tp_receiver.proofs.Composing.{over-by}
use Rattle.tp_receiver.proofs.receiver.Receiver.run_over.Goals as goal

pub returns-in-Room-clause-over : goal.returns-in-Room-clause-over
returns-in-Room-clause-over g c = over-by c.grant.ensures.over (λ calls row. LooksAgain (record { waits = c.in-Room.is; over = rw c.in-Room.is at c.requires.due }) row)
