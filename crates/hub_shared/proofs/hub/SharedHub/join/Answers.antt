use Rattle.std.proofs.Common.{ap, arith, sym, subst, ◌∙◌}
use Rattle.hub_shared.proofs.Histories.{goes-joined}
use Rattle.hub_shared.proofs.Hubs.{words-there, first-there}
use Rattle.hub_shared.proofs.Learns.{learns}
use Rattle.hub_shared.proofs.Seats.{unites}
use Rattle.hub_shared.proofs.hub.SharedHub.join.Goals as goal
use Rattle.hub_shared.specs.History.{IsWhole, state_of}

pub join_seat-requires : goal.join_seat-requires
join_seat-requires c = (c.requires.seat.of, c.requires.other.of, c.args.other.carries, words-there c.args.self.now, unites _ _ _ _ _ c.args.seat.now.idle c.args.seat.now.live c.args.other.live)

pub load-requires : goal.load-requires
load-requires c = (
  c.join_seat.ensures.0 ∙ c.requires.seat.of,
  words-there c.args.self.now,
  learns _ _ _ _ _ (omega (arith, c.args.seat.now.live, ap (λ m. m.0.parts) c.join_seat.ensures.2)) (first-there c.args.self.now),
)

pub overflow_add-seat : goal.overflow_add-seat
overflow_add-seat c = omega (arith, c.args.seat.now.counted, c.args.other.counted, ap (λ m. m.0.takes) c.join_seat.ensures.2, c.load.ensures.2.1)

pub invariant_of-seat : goal.invariant_of-seat
invariant_of-seat c =
    let is = c.load.ensures.2.0 ∙ c.join_seat.ensures.2 in
    record {
      counted = omega (arith, c.args.seat.now.counted, c.args.other.counted, ap (λ m. m.0.takes) is);
      carries = ap (λ m. m.1) is ∙ c.args.seat.now.carries;
      live = omega (arith, c.args.seat.now.live, ap (λ m. m.0.parts) is);
      idle = ap (λ m. m.0.hand) is ∙ c.args.seat.now.idle;
      whole = subst IsWhole (sym (ap (λ m. m.0.entries) is)) (goes-joined c.args.seat.now.seat.me.0.entries c.args.other.seat.me.0.entries c.args.seat.now.whole c.args.other.whole).whole;
    }

pub returns-clause-view : goal.returns-clause-view
returns-clause-view c = ap (λ m. (state_of m.0.entries).view) (c.load.ensures.2.0 ∙ c.join_seat.ensures.2) ∙ ap (λ s. s.view) (goes-joined c.args.seat.now.seat.me.0.entries c.args.other.seat.me.0.entries c.args.seat.now.whole c.args.other.whole).is

pub returns-clause-parties : goal.returns-clause-parties
returns-clause-parties c = ap (λ m. (state_of m.0.entries).part) (c.load.ensures.2.0 ∙ c.join_seat.ensures.2) ∙ ap (λ s. s.part) (goes-joined c.args.seat.now.seat.me.0.entries c.args.other.seat.me.0.entries c.args.seat.now.whole c.args.other.whole).is
