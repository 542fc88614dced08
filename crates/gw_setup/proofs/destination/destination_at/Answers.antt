use Rattle.std.proofs.Common.{◌<◌, length, ap, ◌∙◌, arith}
use Rattle.std.proofs.lemmas.Option.{slice_get_within}
use Rattle.gw_setup.specs.Machines.{tx_set_of}
use Rattle.gw_setup.proofs.EntryLemmas.{in_range, made_destination}
use Rattle.gw_setup.proofs.destination.destination_at.Goals as goal

pub overflow_cast-found : goal.overflow_cast-found
overflow_cast-found c =
    let within : c.in-Some.found.path < length c.items.result.now = slice_get_within c.items.result.now c.in-Some.found.path c.in-Some.ensures.path c.in-Some.ensures.there in
    let few = in_range 0 64 (length c.config.inside.path) c.config.invariant.path in
    omega (arith, within, few.1, ap length c.items.ensures)

pub overflow_cast-found-2 : goal.overflow_cast-found-2
overflow_cast-found-2 c = omega (arith, c.in-Some.ensures.few)

pub returns : goal.returns
returns c =
    made_destination c.args.config.now c.args.number c.in-Some.found c.standing_at-standing.result.on c.standing_at-standing.result.chan c.standing_at-standing.result.channel.now c.standing_at-standing.result.bus.now
    c.items-2.result.now c.items.result.now c.items-3.result.now c.index-items-found.result c.tx_set_of.result c.comes_to.result
    c.standing_at-standing.ensures.stands c.standing_at-standing.ensures.chan c.standing_at-standing.ensures.lawful (c.items-2.ensures ∙ ap (λ v. v.name) c.channel.view_is) (c.items.ensures ∙ ap (λ v. v.path) c.config.view_is)
    c.in-Some.ensures c.index-items-found.is (c.items-3.ensures ∙ ap (λ v. v.path) c.config.view_is) c.tx_set_of.ensures.lawful
    (c.tx_set_of.ensures.is ∙ ap (λ period. tx_set_of period (record { 0 = c.in-Some.found.path }) (record { 0 = c.in-Some.found.dest }) c.index-items-found.result c.standing_at-standing.result.bus.now c.standing_at-standing.result.channel.now) (ap (λ v. v.period) c.config.view_is))
    c.comes_to.ensures
