use Rattle.candump_line.proofs.Spelled.{spelled}
use Rattle.candump_line.proofs.law.spelling_law.Goals as goal

pub returns : goal.returns
returns c = spelled
