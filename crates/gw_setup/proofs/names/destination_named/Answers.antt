use Rattle.std.proofs.Common.{◌<◌, length, refl, sym, ap, subst, ◌∙◌, arith}
use Rattle.std.proofs.lemmas.Option.{slice_get_within}
use Rattle.gw_config.specs.Lawful.{IsLawfulPath}
use Rattle.gw_setup.proofs.EntryLemmas.{leads_more, leads_to}
use Rattle.gw_setup.proofs.PlaceLemmas.{read_at}
use Rattle.gw_setup.proofs.names.destination_named.Goals as goal

pub returns-in-Some : goal.returns-in-Some
returns-in-Some c =
    leads_to c.args.paths.now c.args.name.now c.loop-path.path c.in-Some.dest c.index-paths-path.result c.items.result.now
    (read_at c.args.paths.now c.args.paths.now c.loop-path.path c.index-paths-path.result refl c.loop-path-test.true c.index-paths-path.is)
    (c.items.ensures ∙ ap (λ p. p.to) c.keys.view_is) (subst IsLawfulPath c.keys.view_is c.keys.invariant) (sym c.place_of.ensures ∙ c.in-Some.is)

pub loop-path-preserved : goal.loop-path-preserved
loop-path-preserved c =
    leads_more c.args.paths.now c.args.name.now c.loop-path.path c.index-paths-path.result c.items.result.now
    (read_at c.args.paths.now c.args.paths.now c.loop-path.path c.index-paths-path.result refl c.loop-path-test.true c.index-paths-path.is)
    (c.items.ensures ∙ ap (λ p. p.to) c.keys.view_is) c.loop-path.invariant (sym c.place_of.ensures ∙ c.in_default.is)

pub returns : goal.returns
returns c = λ place dest path there named.
    let within : place < length c.args.paths.now = slice_get_within c.args.paths.now place path there in
    c.loop-path.invariant place dest path (omega (arith, within, c.loop-path-test.false)) there named
