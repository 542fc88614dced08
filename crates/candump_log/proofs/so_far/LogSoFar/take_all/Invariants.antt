use Rattle.std.proofs.Common.{◌≡◌, ◌+◌, ◌-◌, ◌≤◌, ◌++◌, List, ℕ, length, take}
use Rattle.candump_log.specs.Log.{ReadSoFar}
use Rattle.candump_log.proofs.so_far.LogSoFar.take_all.Given as goal

abbrev pub invariant-loop-done : goal.invariant-loop-done
invariant-loop-done g l =
    (l.self.most ≡ l.initial.self.most)
    × (l.done ≤ length l.bytes)
    × (l.self.taken ≡ l.initial.self.taken + l.done)
    × ((content : List ℕ) → ReadSoFar (g.S.LogSource.source l.source) content l.initial.self.piece.items l.initial.self.lines l.initial.self.frames → ReadSoFar (g.S.LogSource.source l.source) (content ++ take l.done l.bytes) l.self.piece.items l.self.lines l.self.frames)

abbrev pub decreases-loop-done : goal.decreases-loop-done
decreases-loop-done g l = length l.bytes - l.done
