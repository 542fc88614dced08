use Rattle.std.proofs.Common.{[], ◌∷◌, refl, ap, ◌∙◌}
use Rattle.gw_base.specs.Cell.{counted}
use Rattle.hub_core.specs.View.{Refused}
use Rattle.tp_receiver.proofs.Composing.{has-opened}
use Rattle.tp_receiver.proofs.receiver.Receiver.open.Goals as goal

pub returns-in-Overflow-clause-refused : goal.returns-in-Overflow-clause-refused
returns-in-Overflow-clause-refused g c = record {
  calls = Refused c.args.self.now.set.group.0 c.in-Overflow.change c.in-Overflow.free c.need-need.result ∷ [];
  grown = c.in-Overflow.ensures.view;
  fresh = (c.in-Overflow.ensures.fresh, tt);
  moves_are = refl;
  row = record { number = c.in-Overflow.change; free = c.in-Overflow.free; need = c.need-need.result; need_is = c.need-need.ensures; calls_are = refl; told_is = refl };
}

pub returns-in-Granted-clause-opened : goal.returns-in-Granted-clause-opened
returns-in-Granted-clause-opened g c =
    has-opened _ _ _ _ _ _ c.need-need.result c.in-Granted.change _ c.as_slice.result.now _ _ _ _ c.in-Granted.held c.enter-writer.result _
    c.in-Granted.ensures.view c.in-Granted.ensures.fresh c.in-Granted.ensures.answers.0 c.in-Granted.ensures.answers.2 c.need-need.ensures
    c.enter-writer.ensures.view c.enter-writer.ensures.opened c.put_all.ensures.view c.put_all.ensures.fields (rw c.as_slice.ensures.value c.pack-cells.ensures.packed)
    (ap counted c.as_slice.ensures.value ∙ c.pack-cells.ensures.counted) c.put_all.ensures.writes
