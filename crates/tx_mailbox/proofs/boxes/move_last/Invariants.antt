use Rattle.std.proofs.Common.{◌≡◌, ◌++◌, length, reverse}
use Rattle.tx_mailbox.proofs.boxes.move_last.Given as goal

abbrev pub invariant-loop : goal.invariant-loop
invariant-loop l = (l.fn.pending.items ≡ l.pending.items ++ reverse l.out.items) × (length l.out.items ≡ l.counter)
