-- A unit that fits takes no more bytes than a frame has.
use Rattle.std.proofs.Common.{arith}
use Rattle.tp_unit.specs.Unit.{meaning_of}
use Rattle.tp_unit.proofs.Sizes.{length-unfilled, size_of}
use Rattle.std.proofs.lemmas.Grind.{common_steps}
use Rattle.tp_unit.proofs.writing.unfilled_bytes.Goals as goal

pub put-requires-3 : goal.put-requires-3
put-requires-3 c = grind (arith, common_steps, length-unfilled c.args.shape.now (meaning_of c.args.unit.now) c.requires.shape c.requires.fits, size_of c.args.shape.now c.requires.shape)
