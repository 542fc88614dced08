use Rattle.std.proofs.Common.{◌++◌, refl, ap, ◌∙◌}
use Rattle.tp_receiver.specs.State.{state_of}
use Rattle.tp_unit.specs.Unit.{box_meaning_of}
use Rattle.gw_run.proofs.gateway.Gateway.tell_receiver.Goals as goal

pub returns : goal.returns
returns c =
    let over = c.step-fc.ensures.over in
    let kept = c.step-fc.ensures.kept in
    let groups = kept.pool.groups in
    record {
      did = record { tick = c.args.tick.0; calls = over.calls; act = box_meaning_of c.step-fc.result.fc; records = c.step-fc.result.records.items; new = state_of c.step-fc.new.self };
      stepped = record {
        tick_is = refl;
        row = over.row;
        fresh = over.fresh;
        grown = over.grown;
        set = c.step-fc.ensures.set;
        state = refl;
        knows = c.step-fc.ensures.knows;
        waits = c.step-fc.ensures.tick;
        number = c.step-fc.ensures.count;
        readings = kept.readings;
        groups = groups;
        takes = kept.takes_used;
      };
      lies_is = c.put.ensures;
      controls_are = refl;
      sessions = c.in_ok-note_all.ensures ∙ ap (λ l. c.args.self.now.sessions ++ l) c.as_slice.ensures.value;
      moves = c.in_ok-note_all-2.ensures ∙ ap (λ l. c.args.self.now.moves ++ l) (c.as_slice-2.ensures.value ∙ over.moves_are);
      rest = refl;
    }
