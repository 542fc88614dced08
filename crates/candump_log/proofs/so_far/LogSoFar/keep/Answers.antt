-- More bytes of the line, or too many.
use Rattle.std.proofs.Common.{◌≤◌, ◌+◌, length, refl, arith}
use Rattle.candump_log.proofs.Logs.{part_kept}
use Rattle.candump_log.proofs.Stopping.{stops_within}
use Rattle.candump_log.proofs.so_far.LogSoFar.keep.Goals as goal

pub returns-in_default-clause-stops : goal.returns-in_default-clause-stops
returns-in_default-clause-stops g c content later so_far =
    let much : ¬ (length c.args.self.now.piece.items + length c.args.part.now ≤ 513) = λ fits. (let clash = c.in_default.ensures.variant.1 fits in cc) in
    stops_within _ _ _ _ _ _ _ _ _ so_far (omega (arith, much)) c.requires.kept refl c.requires.few

pub returns-clause-read : goal.returns-clause-read
returns-clause-read g c content so_far = rw c.in-Ok.ensures.ok (part_kept _ _ _ _ _ _ so_far c.requires.kept)
