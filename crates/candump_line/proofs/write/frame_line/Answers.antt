-- The line is read back, and has no line feed within.
use Rattle.candump_line.proofs.Written.{line-back, line-shown}
use Rattle.candump_line.proofs.write.frame_line.Goals as goal

pub returns-clause-reads_back : goal.returns-clause-reads_back
returns-clause-reads_back c dated = line-back _ _ _ dated c.requires.name c.spell-line.ensures.lawful c.spell-line.ensures.bytes

pub returns-clause-one_line : goal.returns-clause-one_line
returns-clause-one_line c = line-shown _ _ _ c.requires.date c.requires.name c.spell-line.ensures.lawful.id c.spell-line.ensures.bytes
