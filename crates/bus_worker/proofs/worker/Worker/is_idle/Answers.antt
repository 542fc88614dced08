use Rattle.std.proofs.Common.{◌∙◌, ap, refl}
use Rattle.std.specs.List.{list_all}
use Rattle.bus_worker.proofs.Stillness.{decides}
use Rattle.bus_worker.specs.Idle.{is_still}
use Rattle.bus_worker.proofs.worker.Worker.is_idle.Goals as goal

pub returns : goal.returns
returns c = decides c.args.self.now c.are_idle.result (c.if-not-is_empty.ensures.0 refl) (c.are_idle.ensures ∙ ap (list_all is_still) c.as_slice.ensures.value)
