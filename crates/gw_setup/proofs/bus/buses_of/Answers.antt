use Rattle.std.proofs.Common.{◌≡◌, length, ap, ◌∙◌, arith}
use Rattle.gw_setup.specs.Placed.{IsBusAt}
use Rattle.gw_setup.proofs.PlaceLemmas.{filled_all, filled_more, filled_none}
use Rattle.gw_setup.proofs.bus.buses_of.Goals as goal

pub loop-number-init : goal.loop-number-init
loop-number-init c = filled_none (IsBusAt c.args.config.now) c.new-buses.result.items c.new-buses.ensures.items

pub loop-number-preserved : goal.loop-number-preserved
loop-number-preserved c = filled_more (IsBusAt c.args.config.now) c.loop-number.buses.items c.push.new.self.items c.loop-number.number c.bus_at.result c.loop-number.invariant c.bus_at.ensures c.in-Ok.ensures.items

pub returns : goal.returns
returns c =
    let same : c.items-number-end.result.now ≡ c.args.config.now.bus = c.items-number-end.ensures ∙ ap (λ v. v.bus) c.config.view_is in
    let count : c.loop-number.number ≡ length c.items-number-end.result.now = omega (arith, c.loop-number-test.false, c.loop-number.auto.number-end) in
    filled_all (IsBusAt c.args.config.now) c.args.config.now.bus c.loop-number.buses.items c.loop-number.number c.loop-number.invariant (count ∙ ap length same)
