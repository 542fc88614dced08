use Rattle.std.proofs.Common.{refl}
use Rattle.hub_core.specs.View.{empty_view}
use Rattle.gw_run.proofs.Fresh.{begins}
use Rattle.gw_run.proofs.gateway.Gateway.new.Goals as goal

pub returns-clause-barrier : goal.returns-clause-barrier
returns-clause-barrier c =
    begins _ _ c.in_ok-new.ensures.view c.in_ok-new.ensures.means c.new-2.ensures.set c.new-2.ensures.state c.new-3.ensures.set c.new-3.ensures.state (c.new-3.ensures.knows empty_view refl) refl refl
    c.new-4.ensures c.new-5.ensures c.new-6.ensures c.new-7.ensures c.new-8.ensures
