-- The steps are those of a classic frame.
use Rattle.std.proofs.Common.{sym, ap, ◌∙◌, arith, refl}
use Rattle.std.proofs.lemmas.Result.{err_from_is_err_and}
use Rattle.candump_line.specs.Reading.{ended_at}
use Rattle.candump_line.proofs.Steps.{classic_ended, classic_fault}
use Rattle.candump_line.proofs.data.read_classic.Goals as goal

pub returns-in_err-count-clause-read : goal.returns-in_err-count-clause-read
returns-in_err-count-clause-read c =
    let p = err_from_is_err_and c.from_residual.result c.from_residual.ensures.1 in
    rw (p.1, p.2) (sym (ap (ended_at c.args.len c.args.at.0) (classic_fault c.args.len c.args.id c.args.rest.now _ c.in_err-count.ensures.read)))

pub returns-in_err-left-clause-read : goal.returns-in_err-left-clause-read
returns-in_err-left-clause-read c =
    let p = err_from_is_err_and c.from_residual-in_err-left.result c.from_residual-in_err-left.ensures.1 in
    rw (p.1, p.2) (sym (classic_ended c.args.len c.args.id c.args.rest.now c.args.at.0 _ _ _ c.in_ok-count.ensures.read c.in_ok-count.ensures.most (omega arith) ∙ rw c.in_err-left.ensures refl))

pub returns-in_err-read_end-clause-read : goal.returns-in_err-read_end-clause-read
returns-in_err-read_end-clause-read c =
    let p = err_from_is_err_and c.from_residual-in_err-read_end.result c.from_residual-in_err-read_end.ensures.1 in
    rw (p.1, p.2) (sym (classic_ended c.args.len c.args.id c.args.rest.now c.args.at.0 _ _ _ c.in_ok-count.ensures.read c.in_ok-count.ensures.most (omega arith) ∙ rw (c.in_ok-left.ensures, sym c.in_err-read_end.ensures) refl))

pub returns-clause-read : goal.returns-clause-read
returns-clause-read c =
    rw c.classic_line.ensures.line (sym (classic_ended c.args.len c.args.id c.args.rest.now c.args.at.0 _ _ _ c.in_ok-count.ensures.read c.in_ok-count.ensures.most (omega arith) ∙ rw (c.in_ok-left.ensures, sym c.in_ok-read_end.ensures) refl))
