-- The front of a row of fill bytes is a shorter row.
use Rattle.std.proofs.Common.{◌∙◌}
use Rattle.std.proofs.lemmas.List.{take-replicate}
use Rattle.tp_unit.proofs.writing.fill_bytes.Goals as goal

pub returns : goal.returns
returns c = c.in-Ok.ensures.0 ∙ take-replicate c.args.count 64 c.args.fill c.requires
