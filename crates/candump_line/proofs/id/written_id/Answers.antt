-- The digits in their places are an identifier.
use Rattle.std.proofs.Common.{Ok, Some, ap, ◌∙◌, sym, arith}
use Rattle.can_frame.specs.declared.id.CanId.TheVariants.{Std}
use Rattle.candump_line.proofs.Places.{id_written}
use Rattle.candump_line.proofs.id.written_id.Goals as goal

pub returns-clause-read : goal.returns-clause-read
returns-clause-read c len =
    let number = c.number-number in
    id_written len c.args.rest.now number.result.0 number.result.1 (omega arith) (omega arith) (omega arith) number.ensures.digits (omega arith) number.ensures.value (omega (arith, c.from.ensures))
    ∙ ap (λ t. Ok (Some (Std number.result.0), t)) (sym c.skip.ensures)
