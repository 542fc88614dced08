-- Eight bytes that end the line are a classic frame's.
use Rattle.std.proofs.Common.{Ok, ap, ◌∙◌, sym, arith}
use Rattle.candump_line.proofs.Places.{content_written}
use Rattle.candump_line.proofs.read.read_content.Goals as goal

pub returns-then-take_last_eight-clause-read : goal.returns-then-take_last_eight-clause-read
returns-then-take_last_eight-clause-read c =
    ap Ok c.classic_line.ensures.line ∙ sym (content_written c.args.len c.args.at.0 c.args.id c.args.rest.now _ c.if-take_last_eight.ensures.hash c.if-take_last_eight.ensures.digits (omega (arith, c.take_last_eight.array_long)))
