use Rattle.std.proofs.Common.{ℕ, List, subst, sym}
use Rattle.hub_core.specs.Calls.{Answers}
use Rattle.hub_shared.proofs.Answering.{answers-taken, stays-taken}
use Rattle.hub_shared.proofs.port.SharedPort.take.Goals as goal
use Rattle.hub_shared.specs.Seats.{groups_of, seat_view}

pub returns-clause-answers : goal.returns-clause-answers
returns-clause-answers c =
    let port = c.args.self.now in
    subst (λ (groups : List (List ℕ)). Answers (seat_view c.take.new.seat) groups c.args.group.0 c.args.need c.take.result) (sym port.of.groups_are)
    (answers-taken (groups_of port.hub.now) c.args.group.0 c.args.need port.seat c.take.new.seat c.take.result c.take.ensures.taken)

pub returns-clause-stays : goal.returns-clause-stays
returns-clause-stays c = stays-taken (groups_of c.args.self.now.hub.now) c.args.group.0 c.args.need c.args.self.now.seat c.take.new.seat c.take.result c.take.ensures.taken c.take.ensures.of
