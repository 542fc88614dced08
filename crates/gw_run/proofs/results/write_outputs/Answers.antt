-- Each call that failed is the one to blame, and what was begun are the outputs.
use Rattle.std.proofs.Common.{◌∙◌, inl}
use Rattle.gw_run.proofs.Left.{not_created, outputs_made}
use Rattle.gw_run.proofs.results.write_outputs.Goals as goal

pub returns-in_default-clause-cause : goal.returns-in_default-clause-cause
returns-in_default-clause-cause g c report = (c.in_default.ensures.cause.failed.0, inl (rw (c.out-source.ensures.out, c.source.ensures.bus) at c.in_default.ensures.cause.failed.1))

pub returns-in_default-clause-begun : goal.returns-in_default-clause-begun
returns-in_default-clause-begun g c is =
    not_created _ _ _ _ _ _ c.source.ensures.apart (rw (c.out-source.ensures.out, c.source.ensures.bus) at c.in_default.ensures.created is)

pub returns-clause-made : goal.returns-clause-made
returns-clause-made g c is =
    let made_source = c.in-Ok.ensures.told ∙ is in
    let made_destination = c.in-Ok-create.ensures.told ∙ made_source in
    let sent = c.in-Ok-append_all.ensures.told ∙ made_destination in
    outputs_made _ _ _ _ _ _ _ _ c.source.ensures.apart
    (rw (c.out-source.ensures.out, c.source.ensures.bus) at c.in-Ok.ensures.created is)
    (rw (c.out-destination.ensures.out, c.destination.ensures) at c.in-Ok-create.ensures.created made_source)
    (rw (c.out-source.ensures.out, c.source.ensures.bus) at c.in-Ok-append_all.ensures.appended made_destination)
    (rw (c.out-destination.ensures.out, c.destination.ensures) at c.in-Ok-append_all-2.ensures.appended sent)
