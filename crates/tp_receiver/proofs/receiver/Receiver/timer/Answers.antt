use Rattle.std.proofs.Common.{[], refl, sym}
use Rattle.tp_receiver.proofs.receiver.Receiver.timer.Goals as goal

pub returns-in-Idle-clause-over : goal.returns-in-Idle-clause-over
returns-in-Idle-clause-over g c = rw (sym c.in-Idle.ensures.value) (record { calls = []; grown = refl; fresh = tt; moves_are = c.refusal_timer.ensures.moves; row = c.refusal_timer.ensures.row })

pub returns-in-Busy-clause-over : goal.returns-in-Busy-clause-over
returns-in-Busy-clause-over g c = rw (sym c.in-Busy.ensures.value) c.run_over.ensures.over
