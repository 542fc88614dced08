use Rattle.std.proofs.Common.{◌++◌, ◌∙◌, arith}
use Rattle.bus_worker.proofs.Ticking.{ticks}
use Rattle.bus_worker.specs.Hearing.{frames_of}
use Rattle.bus_worker.proofs.worker.Worker.tick.Goals as goal

pub time-requires : goal.time-requires
time-requires g c =
    let can = c.requires.can in
    let one = c.in_ok-hear_all.ensures can.since can.acts can.by can.at can.clear in
    record { rests = record { since = c.args.tick.0; acts = one.done ++ can.acts; by = omega arith; at = one.at } }

pub turn-requires-clause-rests : goal.turn-requires-clause-rests
turn-requires-clause-rests g c =
    let can = c.requires.can in
    let one = c.in_ok-hear_all.ensures can.since can.acts can.by can.at can.clear in
    let two = c.in_ok-time.ensures c.args.tick.0 (one.done ++ can.acts) (omega arith) one.at in
    record { since = c.args.tick.0; acts = two.done ++ (one.done ++ can.acts); by = omega arith; at = two.at }

pub emit-requires-clause-budget : goal.emit-requires-clause-budget
emit-requires-clause-budget g c =
    let can = c.requires.can in
    let one = c.in_ok-hear_all.ensures can.since can.acts can.by can.at can.clear in
    let two = c.in_ok-time.ensures c.args.tick.0 (one.done ++ can.acts) (omega arith) one.at in
    let three = c.in_ok-turn.ensures c.args.tick.0 (two.done ++ (one.done ++ can.acts)) (omega arith) two.at in
    let same = three.did.budget ∙ two.did.budget ∙ one.did.budget in
    let low = c.requires.budget in
    omega (arith, same, low)

pub emit-requires-clause-rests : goal.emit-requires-clause-rests
emit-requires-clause-rests g c =
    let can = c.requires.can in
    let one = c.in_ok-hear_all.ensures can.since can.acts can.by can.at can.clear in
    let two = c.in_ok-time.ensures c.args.tick.0 (one.done ++ can.acts) (omega arith) one.at in
    let three = c.in_ok-turn.ensures c.args.tick.0 (two.done ++ (one.done ++ can.acts)) (omega arith) two.at in
    record { since = c.args.tick.0; acts = three.done ++ (two.done ++ (one.done ++ can.acts)); by = omega arith; at = three.at }

pub returns : goal.returns
returns g c =
    ticks c.args.tick.0 (frames_of c.args.frames.now) c.args.self.now c.hear_all.new.self c.time.new.self c.turn.new.self c.emit.new.self _ _ _ _ _
    c.in_ok-hear_all.ensures c.in_ok-time.ensures c.in_ok-turn.ensures c.in_ok-emit.ensures
