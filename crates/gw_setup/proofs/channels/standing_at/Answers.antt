use Rattle.std.proofs.Common.{get_or, sym, ap, ◌∙◌}
use Rattle.gw_setup.proofs.ConfigLemmas.{bus_missing, stands}
use Rattle.gw_setup.proofs.PlaceLemmas.{read_at}
use Rattle.gw_setup.proofs.channels.standing_at.Goals as goal

pub unreachable-requires : goal.unreachable-requires
unreachable-requires c =
    let there = read_at c.args.config.now.channel c.items.result.now c.args.number c.index-items-number.result (c.items.ensures ∙ ap (λ v. v.channel) c.config.view_is) c.requires.within c.index-items-number.is in
    bus_missing c.args.config.now c.requires.accepted c.args.number c.index-items-number.result c.items-3.result.now c.items-2.result.now there
    (c.items-3.ensures ∙ ap (λ v. v.bus) c.channel.view_is) (c.items-2.ensures ∙ ap (λ v. v.bus) c.config.view_is) (sym c.bus_named.ensures ∙ c.in_default.is)

pub returns-clause-stands : goal.returns-clause-stands
returns-clause-stands c =
    let there = read_at c.args.config.now.channel c.items.result.now c.args.number c.index-items-number.result (c.items.ensures ∙ ap (λ v. v.channel) c.config.view_is) c.requires.within c.index-items-number.is in
    stands c.args.config.now c.requires.accepted c.args.number c.in-Some.on c.index-items-number.result c.items-3.result.now c.items-2.result.now c.index-items-on.result there
    (c.items-3.ensures ∙ ap (λ v. v.bus) c.channel.view_is) (c.items-2.ensures ∙ ap (λ v. v.bus) c.config.view_is) (sym c.bus_named.ensures ∙ c.in-Some.is)
    (c.index-items-on.is ∙ ap (λ l. get_or l c.in-Some.on c.index-items-on.result) (c.items-4.ensures ∙ sym c.items-2.ensures))
