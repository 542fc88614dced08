use Rattle.std.proofs.Common.{◌≡◌, length, ap, ◌∙◌, arith}
use Rattle.gw_setup.specs.Placed.{IsChannelAt}
use Rattle.gw_setup.proofs.PlaceLemmas.{filled_all, filled_more, filled_none}
use Rattle.gw_setup.proofs.channels.channels_of.Goals as goal

pub loop-number-init : goal.loop-number-init
loop-number-init c = filled_none (IsChannelAt c.args.config.now) c.new-channels.result.items c.new-channels.ensures.items

pub loop-number-preserved : goal.loop-number-preserved
loop-number-preserved c = filled_more (IsChannelAt c.args.config.now) c.loop-number.channels.items c.push.new.self.items c.loop-number.number c.channel_at.result c.loop-number.invariant c.channel_at.ensures c.in_ok-push.ensures.items

pub returns : goal.returns
returns c =
    let same : c.items-number-end.result.now ≡ c.args.config.now.channel = c.items-number-end.ensures ∙ ap (λ v. v.channel) c.config.view_is in
    let count : c.loop-number.number ≡ length c.items-number-end.result.now = omega (arith, c.loop-number-test.false, c.loop-number.auto.number-end) in
    filled_all (IsChannelAt c.args.config.now) c.args.config.now.channel c.loop-number.channels.items c.loop-number.number c.loop-number.invariant (count ∙ ap length same)
