use Rattle.std.proofs.Common.{ap, arith, refl, sym, subst}
use Rattle.hub_core.proofs.Fresh.{rise-same}
use Rattle.hub_core.proofs.Growing.{by-entered, writes-entered}
use Rattle.hub_core.specs.Floors.{Floors, Rise}
use Rattle.hub_shared.proofs.port.SharedPort.enter.Goals as goal
use Rattle.hub_shared.specs.Seats.{as_port, seat_view}

pub returns-clause-writes : goal.returns-clause-writes
returns-clause-writes c = writes-entered c.args.held c.args.path c.args.seq c.args.len c.args.readers (seat_view c.args.self.now.seat) (seat_view c.enter.new.seat) c.enter.result c.requires.seq c.enter.ensures.view c.enter.ensures.opened

pub returns-clause-stays : goal.returns-clause-stays
returns-clause-stays c =
    let means = c.enter.ensures.means in
    record {
      by = by-entered c.args.path.0 c.args.seq c.args.held.buf.0 c.args.held.change c.args.held.cells c.args.len c.args.readers (seat_view c.args.self.now.seat) (seat_view c.enter.new.seat) c.enter.ensures.view;
      means = record {
        pool = record { groups = ap (λ m. m.groups) means; writes = ap (λ m. m.writes) means; reads = ap (λ m. m.reads) means; most = refl };
        takes = ap (λ m. m.takes) means;
        spare = omega arith;
      };
      rise = subst (λ (f : Floors). Rise (as_port c.args.self.now.seat).floors f) (sym c.enter.ensures.floors) (rise-same (as_port c.args.self.now.seat).floors);
      home = c.enter.ensures.home;
    }
