use Rattle.std.proofs.Common.{[], refl, sym, ◌∙◌}
use Rattle.tp_receiver.specs.Table.{Block}
use Rattle.tp_receiver.proofs.receiver.Receiver.answer.Goals as goal

pub returns-in-Block-clause-over : goal.returns-in-Block-clause-over
returns-in-Block-clause-over g c = record {
  calls = [];
  grown = refl;
  fresh = tt;
  moves_are = c.send-in-Block.ensures.moves;
  row = Block c.in-Block.frames (sym c.granted.ensures ∙ c.in-Block.is) (rw c.continue_to_send-control.ensures at c.send-in-Block.ensures.row);
}
