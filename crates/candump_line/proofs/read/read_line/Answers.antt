-- What stands after the name is read on.
use Rattle.std.proofs.Common.{refl, sym, ◌∙◌, arith}
use Rattle.std.proofs.lemmas.Result.{err_from_is_err_and}
use Rattle.candump_line.proofs.Steps.{line_ended}
use Rattle.candump_line.proofs.read.read_line.Goals as goal

pub returns-in_err-rest-clause-read : goal.returns-in_err-rest-clause-read
returns-in_err-rest-clause-read c =
    let p = err_from_is_err_and c.from_residual.result c.from_residual.ensures.1 in
    rw (p.1, p.2) (sym (line_ended c.args.iface.now c.args.line.now _ (omega arith) c.in-Ok.ensures.read ∙ rw c.in_err-rest.ensures refl))

pub returns-in-Some-clause-read : goal.returns-in-Some-clause-read
returns-in-Some-clause-read c =
    c.read_named.ensures.read ∙ sym (line_ended c.args.iface.now c.args.line.now _ (omega arith) c.in-Ok.ensures.read ∙ rw (c.in_ok-rest.ensures, c.in-Some.is) refl)

pub returns-in-None-clause-read : goal.returns-in-None-clause-read
returns-in-None-clause-read c =
    sym (line_ended c.args.iface.now c.args.line.now _ (omega arith) c.in-Ok.ensures.read ∙ rw (c.in_ok-rest.ensures, c.in-None.is) refl)
