-- The steps are those of an FD frame.
use Rattle.std.proofs.Common.{sym, ap, ◌∙◌, ◌≡◌, arith, refl}
use Rattle.std.proofs.lemmas.Result.{err_from_is_err_and}
use Rattle.candump_line.specs.Reading.{digits_in, ended_at, number_in}
use Rattle.candump_line.proofs.Steps.{fd_ended, fd_fault}
use Rattle.candump_line.proofs.data.read_fd.Goals as goal

pub returns-in_err-count-clause-read : goal.returns-in_err-count-clause-read
returns-in_err-count-clause-read c =
    let p = err_from_is_err_and c.from_residual.result c.from_residual.ensures.1 in
    let one : digits_in 16 1 c.args.rest.now ≡ 1 = omega (arith, c.number-flags.ensures.digits, c.if-digits-ne1.false) in
    rw (p.1, p.2) (sym (ap (ended_at c.args.len c.args.at.0) (fd_fault c.args.len c.args.id c.args.rest.now _ one (rw c.skip-data.ensures at c.in_err-count.ensures.read))))

pub returns-in_err-frame-clause-read : goal.returns-in_err-frame-clause-read
returns-in_err-frame-clause-read c =
    let p = err_from_is_err_and c.from_residual-in_err-frame.result c.from_residual-in_err-frame.ensures.1 in
    let one : digits_in 16 1 c.args.rest.now ≡ 1 = omega (arith, c.number-flags.ensures.digits, c.if-digits-ne1.false) in
    let flags_are : c.number-flags.result.0 ≡ number_in 16 1 c.args.rest.now = c.number-flags.ensures.value ∙ ap (λ n. number_in 16 n c.args.rest.now) c.if-digits-ne1.false in
    rw (p.1, p.2)
    (sym (fd_ended c.args.len c.args.id c.args.rest.now c.args.at.0 c.number-flags.result.0 _ _ _ one flags_are (rw c.skip-data.ensures at c.in_ok-count.ensures.read) ∙ rw (sym (rw c.skip-data.ensures at c.in_err-frame.ensures.made)) refl))

pub returns-in_err-read_end-clause-read : goal.returns-in_err-read_end-clause-read
returns-in_err-read_end-clause-read c =
    let p = err_from_is_err_and c.from_residual-in_err-read_end.result c.from_residual-in_err-read_end.ensures.1 in
    let one : digits_in 16 1 c.args.rest.now ≡ 1 = omega (arith, c.number-flags.ensures.digits, c.if-digits-ne1.false) in
    let flags_are : c.number-flags.result.0 ≡ number_in 16 1 c.args.rest.now = c.number-flags.ensures.value ∙ ap (λ n. number_in 16 n c.args.rest.now) c.if-digits-ne1.false in
    rw (p.1, p.2)
    (sym (fd_ended c.args.len c.args.id c.args.rest.now c.args.at.0 c.number-flags.result.0 _ _ _ one flags_are (rw c.skip-data.ensures at c.in_ok-count.ensures.read)
    ∙ rw (sym (rw c.skip-data.ensures at c.in_ok-frame.ensures.made)) (rw (sym c.in_err-read_end.ensures) refl)))

pub returns-clause-read : goal.returns-clause-read
returns-clause-read c =
    let one : digits_in 16 1 c.args.rest.now ≡ 1 = omega (arith, c.number-flags.ensures.digits, c.if-digits-ne1.false) in
    let flags_are : c.number-flags.result.0 ≡ number_in 16 1 c.args.rest.now = c.number-flags.ensures.value ∙ ap (λ n. number_in 16 n c.args.rest.now) c.if-digits-ne1.false in
    sym (fd_ended c.args.len c.args.id c.args.rest.now c.args.at.0 c.number-flags.result.0 _ _ _ one flags_are (rw c.skip-data.ensures at c.in_ok-count.ensures.read)
    ∙ rw (sym (rw c.skip-data.ensures at c.in_ok-frame.ensures.made)) (rw (sym c.in_ok-read_end.ensures) refl))
