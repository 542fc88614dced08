-- The last attempt is told too.
use Rattle.std.proofs.Common.{◌≡◌, Some}
use Rattle.tp_attempts.proofs.Growth.{ends-next}
use Rattle.tp_attempts.proofs.cutting.Cutting.finish.Goals as goal

pub returns : goal.returns
returns c = λ a functional seen cut.
    let some : c.args.self.last ≡ Some c.in-Some.last = cc in
    rw (c.in_ok-push.ensures.ok, c.into_attempt.ensures) (ends-next a functional c.args.self.done c.args.self.last c.in-Some.last seen some cut)
