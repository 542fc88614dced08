use Rattle.candump_line.proofs.Written.{line-back}
use Rattle.candump_line.proofs.law.reading_law.Goals as goal

pub returns : goal.returns
returns c = line-back
