use Rattle.std.proofs.Common.{◌≡◌, ◌++◌, refl, ap, ◌∙◌, arith}
use Rattle.tp_sender.specs.Port.{did_by}
use Rattle.tp_sender.specs.State.{state_of}
use Rattle.gw_run.proofs.gateway.Gateway.tell_sender.Goals as goal

pub returns : goal.returns
returns c =
    let over = c.step-boxed.ensures.step in
    let means = c.step-boxed.ensures.means in
    let groups = means.pool.groups in
    record {
      turn = record { event = c.args.event; did = did_by c.args.tick.0 over.calls c.step-boxed.result (state_of c.step-boxed.new.self) };
      stepped = record {
        event_is = refl;
        tick_is = refl;
        row = over.row;
        fresh = over.fresh;
        grown = over.grown;
        set = c.step-boxed.ensures.set;
        state = refl;
        knows = c.step-boxed.ensures.knows;
        since = c.step-boxed.ensures.since;
        boxed = c.step-boxed.ensures.boxed;
        sessions = c.step-boxed.ensures.others.sessions;
        groups = groups;
        takes = (let same : c.step-boxed.new.port.takes ≡ c.args.self.now.hub.takes = means.takes in omega arith);
      };
      lies_is = c.put.ensures;
      frames_are = refl;
      dests = c.in_ok-note.ensures;
      moves = c.in_ok-note-2.ensures ∙ ap (λ l. c.args.self.now.moves ++ l) over.moves_are;
      rest = refl;
    }
