-- A frame's bytes are bytes.
use Rattle.std.proofs.Common.{◌<◌, subst}
use Rattle.std.specs.Prelude.{All}
use Rattle.candump_line.proofs.spell.spell.Goals as goal

pub returns-clause-bytes : goal.returns-clause-bytes
returns-clause-bytes c = subst (All (λ b. b < 256)) c.bytes.ensures.bytes c.put_bytes.ensures.small
