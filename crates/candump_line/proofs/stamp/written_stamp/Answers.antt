-- The digits in their places are a stamp.
use Rattle.std.proofs.Common.{Ok, ap, ◌∙◌, sym, arith, ◌+◌, ◌*◌}
use Rattle.std.proofs.lemmas.List.{take_rest}
use Rattle.candump_line.proofs.Places.{stamp_written}
use Rattle.candump_line.proofs.stamp.written_stamp.Goals as goal

pub returns-clause-read : goal.returns-clause-read
returns-clause-read c =
    stamp_written c.args.line.now c.in_ok-seconds.seconds c.in_ok-micros.micros (omega arith) (omega arith) (omega arith) (omega arith) c.in_ok-seconds.ensures.digits c.in_ok-seconds.ensures.value c.in_ok-micros.ensures.digits c.in_ok-micros.ensures.value (omega arith)
    ∙ ap (λ t. Ok (c.in_ok-seconds.seconds * 1000000 + c.in_ok-micros.micros, t)) (sym (take_rest c.args.line.now 19))
