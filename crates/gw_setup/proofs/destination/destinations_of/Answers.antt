use Rattle.std.proofs.Common.{◌≡◌, ◌≤◌, length, ap, ◌∙◌, arith}
use Rattle.gw_setup.specs.Placed.{IsDestination}
use Rattle.gw_setup.specs.declared.destination.Destination.{Destination}
use Rattle.gw_setup.proofs.ConfigLemmas.{DestinationLeads, IsSenderOf, destination_found, destinations_all}
use Rattle.gw_setup.proofs.FoundLemmas.{found_more, found_none}
use Rattle.gw_setup.proofs.destination.destinations_of.Goals as goal

pub loop-number-init : goal.loop-number-init
loop-number-init c = found_none (IsDestination c.args.config.now) (λ (d : Destination). d.chan.0) IsSenderOf (DestinationLeads c.args.config.now) c.new-destinations.result.items c.new-destinations.ensures.items

pub loop-number-preserved : goal.loop-number-preserved
loop-number-preserved c =
    found_more (IsDestination c.args.config.now) (λ (d : Destination). d.chan.0) IsSenderOf (DestinationLeads c.args.config.now) c.loop-number.destinations.items c.push_some.new.list.items c.loop-number.number c.destination_at.result c.loop-number.invariant
    (destination_found c.args.config.now c.requires c.loop-number.number c.destination_at.result c.destination_at.ensures) c.in_ok-push_some.ensures

pub returns : goal.returns
returns c =
    let same : c.items-number-end.result.now ≡ c.args.config.now.channel = c.items-number-end.ensures ∙ ap (λ v. v.channel) c.config.view_is in
    let count : length c.items-number-end.result.now ≤ c.loop-number.number = c.loop-number-test.false in
    destinations_all c.args.config.now c.requires c.loop-number.number c.loop-number.destinations.items c.loop-number.invariant (omega (arith, ap length same, count))
