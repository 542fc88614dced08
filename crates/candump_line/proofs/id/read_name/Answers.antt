-- The name is the interface's own.
use Rattle.std.proofs.Common.{refl}
use Rattle.candump_line.specs.Steps.{name_at}
use Rattle.candump_line.proofs.Spelled.{same-name}
use Rattle.candump_line.proofs.id.read_name.Goals as goal

pub returns-in-Some : goal.returns-in-Some
unfolding name_at
returns-in-Some c = rw (c.in-Some.ensures c.args.len) (rw (same-name c.args.iface.now) refl)
