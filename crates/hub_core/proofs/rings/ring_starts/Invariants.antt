use Rattle.std.proofs.Common.{◌≡◌, length}
use Rattle.hub_core.proofs.rings.ring_starts.Given as goal
use Rattle.hub_core.specs.Plain.{StartAt, start_of}

abbrev pub invariant-loop-buf : goal.invariant-loop-buf
invariant-loop-buf l = (length l.starts.items ≡ l.buf) × (l.words ≡ start_of l.sizes l.buf) × StartAt l.sizes l.buf l.starts.items
