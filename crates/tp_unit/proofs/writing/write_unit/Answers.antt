-- The frame has a lawful length, and is read as its unit.
use Rattle.tp_unit.specs.Unit.{meaning_of}
use Rattle.tp_unit.proofs.Sizes.{length-frame_of}
use Rattle.tp_unit.proofs.RoundTrip.{reads_back}
use Rattle.tp_unit.proofs.writing.write_unit.Goals as goal

pub framed-requires-clause-fits : goal.framed-requires-clause-fits
framed-requires-clause-fits c = rw (c.as_slice.ensures.value, c.frame_bytes.ensures) (length-frame_of c.args.shape.now (meaning_of c.args.unit.now) c.requires.shape c.requires.fits)

pub returns-clause-reads_back : goal.returns-clause-reads_back
returns-clause-reads_back c = rw (c.framed.ensures.frame, c.as_slice.ensures.value, c.frame_bytes.ensures) (reads_back c.args.shape.now (meaning_of c.args.unit.now) c.requires.shape c.requires.fits)
