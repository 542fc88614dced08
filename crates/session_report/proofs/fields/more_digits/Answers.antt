-- A digit more, or the end of the digits.
use Rattle.std.proofs.Common.{◌+◌, ◌∙◌, sym, ap, arith}
use Rattle.session_report.specs.Reading.{within}
use Rattle.session_report.proofs.Numbers.{digits_end, digits_pass, digits_step, digits_stop}
use Rattle.session_report.proofs.fields.more_digits.Goals as goal

pub returns-in_default-digit_of-clause-found : goal.returns-in_default-digit_of-clause-found
returns-in_default-digit_of-clause-found c =
    c.within.ensures.found
    ∙ ap (within (c.args.most + 1)) (sym (c.loop-rest.invariant ∙ digits_stop _ _ c.in-len1-up.len_at_least (sym c.digit_of.ensures ∙ c.in_default-digit_of.is)))

pub returns-in_default-checked_mul-clause-found : goal.returns-in_default-checked_mul-clause-found
returns-in_default-checked_mul-clause-found c =
    sym (ap (within (c.args.most + 1)) c.loop-rest.invariant ∙ digits_pass _ c.args.most _ _ c.in-len1-up.len_at_least (sym c.digit_of.ensures ∙ c.in-Some.is) (omega arith))

pub returns-in_default-checked_add-clause-found : goal.returns-in_default-checked_add-clause-found
returns-in_default-checked_add-clause-found c =
    sym (ap (within (c.args.most + 1)) c.loop-rest.invariant ∙ digits_pass _ c.args.most _ _ c.in-len1-up.len_at_least (sym c.digit_of.ensures ∙ c.in-Some.is) (omega arith))

pub loop-rest-preserved : goal.loop-rest-preserved
loop-rest-preserved c = c.loop-rest.invariant ∙ digits_step _ _ _ _ c.in-len1-up.len_at_least (sym c.digit_of.ensures ∙ c.in-Some.is) (omega arith)

pub returns-clause-found : goal.returns-clause-found
returns-clause-found c =
    c.within-2.ensures.found ∙ ap (within (c.args.most + 1)) (sym (c.loop-rest.invariant ∙ digits_end _ _ c.in_default.len_below))
