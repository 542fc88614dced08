-- A character more, or the whole name.
use Rattle.std.proofs.Common.{Ok, ap, ◌∙◌, sym, arith}
use Rattle.candump_line.proofs.Places.{name_written, same_more_after}
use Rattle.candump_line.proofs.id.after_name.Goals as goal

pub loop-at-preserved : goal.loop-at-preserved
loop-at-preserved c = same_more_after c.args.rest.now c.args.name.now c.loop-at.at c.loop-at.invariant (omega arith) (omega arith) (omega arith) (sym c.is_visible.ensures ∙ c.if-not-is_visible.false)

pub returns : goal.returns
returns c len =
    name_written len c.args.rest.now c.args.name.now c.loop-at.at c.loop-at.invariant (omega arith) (omega arith) (omega arith) (omega arith) (omega arith) (omega arith)
    ∙ ap (λ t. Ok (c.args.name.now, t)) (sym c.skip.ensures)
