-- The attempt before, if any, is told, and the new one is kept.
use Rattle.std.proofs.Common.{◌≡◌, None, Some}
use Rattle.tp_attempts.proofs.Growth.{begins-first, begins-next}
use Rattle.tp_attempts.proofs.cutting.Cutting.begin.Goals as goal

pub returns-in_default : goal.returns-in_default
returns-in_default c = λ a functional seen frame is keeps cut.
    let none : c.args.self.now.last ≡ None = cc in
    rw c.in_default.ensures.after (begins-first a functional c.args.self.now.done c.args.self.now.last c.args.next seen frame none is keeps cut)

pub returns : goal.returns
returns c = λ a functional seen frame is keeps cut.
    let some : c.args.self.now.last ≡ Some c.in-Some.before = cc in
    rw (c.in-Some.ensures.after, c.in_ok-push.ensures.ok, c.into_attempt.ensures) (begins-next a functional c.args.self.now.done c.args.self.now.last c.in-Some.before c.args.next seen frame some is keeps cut)
