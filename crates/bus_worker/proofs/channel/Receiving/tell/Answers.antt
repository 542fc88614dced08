use Rattle.std.proofs.Common.{◌++◌, refl, ap, ◌∙◌}
use Rattle.tp_receiver.specs.State.{state_of}
use Rattle.tp_unit.specs.Unit.{box_meaning_of}
use Rattle.bus_worker.proofs.Fitting.{control-act}
use Rattle.tp_receiver.specs.State.{event_of}
use Rattle.tp_receiver.specs.Port.{did_by}
use Rattle.bus_worker.proofs.channel.Receiving.tell.Goals as goal

pub put-requires-clause-fits : goal.put-requires-clause-fits
put-requires-clause-fits g c =
    let over = c.step-fc.ensures.over in
    control-act c.args.self.now.machine.set c.args.self.now.shape (state_of c.args.self.now.machine) (event_of c.args.event) (did_by c.args.tick.0 over.calls c.step-fc.result (state_of c.step-fc.new.self)) over.row

pub returns : goal.returns
returns g c =
    let over = c.step-fc.ensures.over in
    record {
      did = record { tick = c.args.tick.0; calls = over.calls; act = box_meaning_of c.step-fc.result.fc; records = c.step-fc.result.records.items; new = state_of c.step-fc.new.self };
      tick_is = refl;
      row = over.row;
      fresh = over.fresh;
      grown = over.grown;
      set = c.step-fc.ensures.set;
      shape = refl;
      state = refl;
      knows = c.step-fc.ensures.knows;
      waits = c.step-fc.ensures.tick;
      number_is = c.step-fc.ensures.count;
      kept = c.step-fc.ensures.kept;
      same = c.step-fc.ensures.home;
      box = c.put.ensures;
      sessions = c.in_ok-note_all.ensures ∙ ap (λ l. c.args.self.now.sessions ++ l) c.as_slice.ensures.value;
      moves_are = c.in_ok-note_all-2.ensures ∙ ap (λ l. c.args.moves.now ++ l) (c.as_slice-2.ensures.value ∙ over.moves_are);
    }
