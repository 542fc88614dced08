use Rattle.std.proofs.Common.{ℕ, sym, subst}
use Rattle.bus_worker.proofs.OneTick.{Front, front, one-tick}
use Rattle.bus_worker.proofs.worker.Worker.next_tick.Goals as goal

pub returns : goal.returns
returns g c =
    let tick : ℕ = c.args.tick.0 in
    let frames = c.args.frames.now in
    let F : ℕ → Type 0 = λ n. Front tick frames n in
    let so : F c.count_in-count.result = subst F (sym c.count_in-count.ensures) (front tick frames c.requires.frames) in
    record {
      came = record { most = so.most; rest = so.rest };
      does = one-tick tick c.count_in-count.result frames c.args.self.now c.tick.new.self _ _ so c.in_ok-tick.ensures;
    }
