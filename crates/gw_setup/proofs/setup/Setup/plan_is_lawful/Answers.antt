use Rattle.std.proofs.Common.{subst}
use Rattle.gw_law.specs.Plan.{IsLawfulPlan}
use Rattle.gw_setup.specs.Plan.{plan_of}
use Rattle.gw_setup.proofs.setup.Setup.plan_is_lawful.Goals as goal

pub returns : goal.returns
returns c = λ last. subst (λ s. IsLawfulPlan (plan_of s last)) c.self.view_is (c.self.invariant.plan last)
