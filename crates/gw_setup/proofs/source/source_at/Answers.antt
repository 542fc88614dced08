use Rattle.std.proofs.Common.{sym, ap, ◌∙◌}
use Rattle.gw_setup.proofs.ConfigLemmas.{no_source}
use Rattle.gw_setup.proofs.EntryLemmas.{made_source}
use Rattle.gw_setup.proofs.source.source_at.Goals as goal

pub returns-in_default : goal.returns-in_default
returns-in_default c =
    no_source c.args.config.now c.requires.accepted c.args.number c.standing_at-standing.result.channel.now c.items-2.result.now c.items.result.now c.standing_at-standing.ensures.stands.channel_is
    (c.items-2.ensures ∙ ap (λ v. v.name) c.channel.view_is) (c.items.ensures ∙ ap (λ v. v.path) c.config.view_is) (sym c.path_from.ensures ∙ c.in_default.is)

pub returns : goal.returns
returns c =
    made_source c.args.config.now c.args.number c.in-Some.place c.standing_at-standing.result.on c.standing_at-standing.result.chan c.standing_at-standing.result.channel.now c.standing_at-standing.result.bus.now
    c.items-2.result.now c.items.result.now c.items-3.result.now c.index-items-place.result c.rx_set_of.result c.comes_to.result c.shape_of.result
    c.standing_at-standing.ensures.stands c.standing_at-standing.ensures.chan c.standing_at-standing.ensures.lawful (c.items-2.ensures ∙ ap (λ v. v.name) c.channel.view_is) (c.items.ensures ∙ ap (λ v. v.path) c.config.view_is)
    (sym c.path_from.ensures ∙ c.in-Some.is) c.index-items-place.is (c.items-3.ensures ∙ ap (λ v. v.path) c.config.view_is) c.rx_set_of.ensures.lawful c.rx_set_of.ensures.is c.comes_to.ensures c.shape_of.ensures
