use Rattle.std.proofs.Common.{◌++◌, refl, ap, subst, ◌∙◌}
use Rattle.tp_sender.specs.Port.{did_by}
use Rattle.tp_sender.specs.State.{state_of}
use Rattle.bus_worker.proofs.Fitting.{frame-act}
use Rattle.tp_unit.specs.declared.shape.Shape.{Shape}
use Rattle.bus_worker.specs.Boxed.{FitsAct}
use Rattle.tp_unit.specs.Unit.{box_meaning_of}
use Rattle.bus_worker.proofs.channel.Sending.tell.Goals as goal

pub put-requires-clause-fits : goal.put-requires-clause-fits
put-requires-clause-fits g c =
    let over = c.step-boxed.ensures.step in
    let P : Shape → Type 0 = λ shape. FitsAct shape (box_meaning_of c.step-boxed.result.boxed) in
    subst P c.args.self.now.own (frame-act c.args.self.now.machine.set (state_of c.args.self.now.machine) c.args.event (did_by c.args.tick.0 over.calls c.step-boxed.result (state_of c.step-boxed.new.self)) over.row)

pub returns : goal.returns
returns g c =
    let over = c.step-boxed.ensures.step in
    record {
      did = did_by c.args.tick.0 over.calls c.step-boxed.result (state_of c.step-boxed.new.self);
      tick_is = refl;
      row = over.row;
      fresh = over.fresh;
      grown = over.grown;
      set = c.step-boxed.ensures.set;
      state = refl;
      knows = c.step-boxed.ensures.knows;
      since = c.step-boxed.ensures.since;
      boxed = c.step-boxed.ensures.boxed;
      others = c.step-boxed.ensures.others;
      means = c.step-boxed.ensures.means;
      same = c.step-boxed.ensures.home;
      box = c.put.ensures;
      dests = c.in_ok-note.ensures;
      moves_are = c.in_ok-note-2.ensures ∙ ap (λ l. c.args.moves.now ++ l) over.moves_are;
    }
