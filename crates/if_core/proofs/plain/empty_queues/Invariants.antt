use Rattle.std.proofs.Common.{◌≡◌, length}
use Rattle.if_core.specs.Alone.{EachIsNew}
use Rattle.if_core.proofs.plain.empty_queues.Given as goal

abbrev pub invariant-loop-at : goal.invariant-loop-at
invariant-loop-at l = (length l.queues.items ≡ l.at) × EachIsNew l.kinds l.queues.items
