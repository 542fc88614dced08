use Rattle.std.proofs.Common.{ap, arith, refl, sym, subst}
use Rattle.hub_core.proofs.Fresh.{rise-same}
use Rattle.hub_core.specs.Floors.{Floors, Rise}
use Rattle.hub_shared.proofs.Answering.{by-next}
use Rattle.hub_shared.proofs.port.SharedPort.next.Goals as goal
use Rattle.hub_shared.specs.Seats.{as_port, seat_view}

pub returns-clause-stays : goal.returns-clause-stays
returns-clause-stays c =
    let means = c.next.ensures.means in
    record {
      by = by-next c.args.group.0 c.args.path.0 c.args.dest.0 c.args.seq (seat_view c.args.self.now.seat) (seat_view c.next.new.seat) c.next.result c.next.ensures.view;
      means = record {
        pool = record { groups = ap (λ m. m.groups) means; writes = ap (λ m. m.writes) means; reads = ap (λ m. m.reads) means; most = refl };
        takes = ap (λ m. m.takes) means;
        spare = omega arith;
      };
      rise = subst (λ (f : Floors). Rise (as_port c.args.self.now.seat).floors f) (sym c.next.ensures.floors) (rise-same (as_port c.args.self.now.seat).floors);
      home = c.next.ensures.home;
    }
