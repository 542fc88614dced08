-- What came stands behind the bytes that were held.
use Rattle.std.proofs.Common.{arith, length-take-le}
use Rattle.candump_log.proofs.Behind.{read_behind}
use Rattle.candump_log.proofs.held.read_behind.Goals as goal

pub returns-clause-read : goal.returns-clause-read
returns-clause-read g c =
    read_behind _ _ _ _ _ c.args.held _ c.read.new.into _ (length-take-le c.args.held c.args.bytes.now (omega (arith, c.requires.room)))
    (omega (arith, c.in_ok-count.ensures.bound, c.read.auto.into)) c.in_ok-count.ensures.read
