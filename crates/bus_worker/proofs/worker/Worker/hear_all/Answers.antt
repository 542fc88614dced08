use Rattle.std.proofs.Common.{◌≡◌, ◌+◌, ◌-◌, ◌<◌, ◌++◌, [], ◌∷◌, ℕ, List, length, take, take_all, refl, ap, sym, ◌∙◌, subst, arith}
use Rattle.std.proofs.lemmas.List.{map_more}
use Rattle.can_frame.specs.Frame.{CanFrame}
use Rattle.gw_law.specs.Channels.{InTick}
use Rattle.bus_worker.proofs.HeardAll.{hears-more, hears-next}
use Rattle.bus_worker.proofs.Working.{works-none}
use Rattle.bus_worker.specs.Hearing.{AreHeard, Hears, HearsAll, HearsBy, frames_of}
use Rattle.bus_worker.proofs.worker.Worker.hear_all.Goals as goal

pub loop-dated-init : goal.loop-dated-init
loop-dated-init g c = (
  subst (λ (n : ℕ). HearsBy {Home = g.P.Port.Home} c.args.tick.0 n c.args.self.now (g.P.Port.state c.args.port.now)) (omega arith) c.requires.can,
  λ since acts by at clear. works-none c.args.tick.0 (AreHeard c.args.tick.0 c.args.self.now.routes.items c.args.self.now.channels.items []) c.args.self.now _ refl since acts by at,
  omega arith,
)

pub loop-dated-preserved : goal.loop-dated-preserved
loop-dated-preserved g c =
    let so = c.loop-dated.invariant in
    let frames = c.args.frames.now in
    let at = c.loop-dated.dated-index in
    let below : at < length frames = (let b = c.loop-dated-test.true in omega (arith, b)) in
    let fewer : length frames - at ≡ length frames - (at + 1) + 1 = omega (arith, below) in
    let item : InTick = c.dated-item.result in
    let next : frames_of (take (at + 1) frames) ≡ frames_of (take at frames) ++ item.frame ∷ [] =
    map_more (λ (f : InTick). f.frame) frames at item below ∙ ap (λ (f : InTick). frames_of (take at frames) ++ f.frame ∷ []) (sym c.dated-item.is) in
    let F : CanFrame → Type 0 = λ f. Hears {Home = g.P.Port.Home} c.args.tick.0 f c.loop-dated.self c.hear.new.self (g.P.Port.state c.loop-dated.port) (g.P.Port.state c.hear.new.port) in
    let heard : F item.frame = subst F c.frame.ensures c.in_ok-hear.ensures in
    let H : ℕ → Type 0 = λ n. HearsBy {Home = g.P.Port.Home} c.args.tick.0 n c.loop-dated.self (g.P.Port.state c.loop-dated.port) in
    let A : List CanFrame → Type 0 = λ l. HearsAll {Home = g.P.Port.Home} c.args.tick.0 l c.args.self.now c.hear.new.self (g.P.Port.state c.args.port.now) (g.P.Port.state c.hear.new.port) in (
      hears-next c.args.tick.0 (length frames - (at + 1)) item.frame c.loop-dated.self c.hear.new.self _ _ (subst H fewer so.0) heard,
      subst A (sym next) (hears-more c.args.tick.0 (frames_of (take at frames)) item.frame c.args.self.now c.loop-dated.self c.hear.new.self _ _ _ so.1 heard),
      omega (arith, below),
    )

pub returns : goal.returns
returns g c =
    let so = c.loop-dated.invariant in
    let past = c.loop-dated-test.false in
    subst (λ (l : List InTick). HearsAll {Home = g.P.Port.Home} c.args.tick.0 (frames_of l) c.args.self.now c.loop-dated.self (g.P.Port.state c.args.port.now) (g.P.Port.state c.loop-dated.port)) (take_all c.loop-dated.dated-index c.args.frames.now (omega (arith, past))) so.1
